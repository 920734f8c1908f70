use Rattle.paging.proofs.Few.{up-soon}
use Rattle.paging.proofs.up_soon.Goals as goal

pub returns : goal.returns
returns c = up-soon
