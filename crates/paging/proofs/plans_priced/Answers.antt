use Rattle.paging.proofs.Store.{plans-priced}
use Rattle.paging.proofs.plans_priced.Goals as goal

pub returns : goal.returns
returns g c = plans-priced g.A.Answering.Out
