use Rattle.std.proofs.Common.{◌∙◌}
use Rattle.pages.proofs.Kept.{bare-good}
use Rattle.pages.specs.Of.{view}
use Rattle.pages.proofs.memory.Memory.clear.Goals as goal

pub invariant_of-self : goal.invariant_of-self
invariant_of-self c =
    let w = c.clear.new.self in
    let g = bare-good (view w c.rooms-self.result c.rooms-self-2.result) c.args.card.sectors ((λ j. view w (c.rooms-self.ensures j) (c.rooms-self-2.ensures j)) ∙ c.clear.ensures) in
    record { places = g.0; inside = g.1 }
