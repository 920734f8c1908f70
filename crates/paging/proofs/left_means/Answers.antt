use Rattle.paging.proofs.Store.{left-means, roomy}
use Rattle.paging.proofs.left_means.Goals as goal

pub returns : goal.returns
returns c = (left-means, roomy)
