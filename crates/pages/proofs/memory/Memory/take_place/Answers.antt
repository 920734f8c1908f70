use Rattle.std.proofs.Common.{ℕ, ap, ◌∙◌}
use Rattle.paging.specs.Memory.{clipped}
use Rattle.pages.specs.Flags.{as_place}
use Rattle.pages.proofs.Kept.{place-took}
use Rattle.pages.proofs.memory.Memory.take_place.Goals as goal

pub returns : goal.returns
returns c =
    place-took c.args.self.now c.relocate.new.self c.settle.new.self c.args.n c.args.number (as_place c.place_of-place.result) (c.place_of-place.ensures.is ∙ ap (λ (r : ℕ). clipped r c.args.number) c.rooms.ensures) c.relocate.ensures c.settle.ensures
