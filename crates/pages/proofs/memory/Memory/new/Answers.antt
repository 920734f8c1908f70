use Rattle.pages.proofs.Kept.{bare-good}
use Rattle.pages.specs.Of.{view}
use Rattle.pages.proofs.memory.Memory.new.Goals as goal

pub invariant_of-result : goal.invariant_of-result
invariant_of-result c = let g = bare-good (view c.new.result 0 0) 0 c.new.ensures.blank in record { places = g.0; inside = g.1 }
