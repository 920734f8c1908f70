use Rattle.paging.proofs.Foreign.{leaves-foreign}
use Rattle.paging.proofs.leaves_foreign.Goals as goal

pub returns : goal.returns
returns c = leaves-foreign
