use Rattle.paging.proofs.Foreign.{foreign-stays}
use Rattle.paging.proofs.foreign_stays.Goals as goal

pub returns : goal.returns
returns g c = foreign-stays g.A.Answering.Out
