use Rattle.paging.proofs.Store.{calls-priced}
use Rattle.paging.proofs.calls_priced.Goals as goal

pub returns : goal.returns
returns c = calls-priced
