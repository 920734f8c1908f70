use Rattle.paging.proofs.Store.{always-known}
use Rattle.paging.proofs.always_known.Goals as goal

pub returns : goal.returns
returns c = always-known
