use Rattle.paging.proofs.Plain.{pages-kept}
use Rattle.paging.proofs.pages_kept.Goals as goal

pub returns : goal.returns
returns c = pages-kept
