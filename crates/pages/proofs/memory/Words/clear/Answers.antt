use Rattle.std.proofs.Common.{◌∙◌, ap}
use Rattle.paging.specs.Layout.{rooms}
use Rattle.pages.specs.Words.{ram, mem_of}
use Rattle.pages.proofs.Kept.{bare-seen}
use Rattle.pages.proofs.memory.Words.clear.Goals as goal

pub returns : goal.returns
returns c = let s = c.args.card.sectors in ap (λ ws. mem_of (ram s ws (rooms s) (rooms s))) c.blank.ensures.cells ∙ bare-seen s _
