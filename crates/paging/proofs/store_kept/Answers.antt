use Rattle.paging.proofs.Store.{store_kept}
use Rattle.paging.proofs.store_kept.Goals as goal

pub returns : goal.returns
returns c = store_kept
