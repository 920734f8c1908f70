use Rattle.std.proofs.Common.{refl}
use Rattle.pages.specs.Flags.{as_place}
use Rattle.pages.proofs.Kept.{placed-step}
use Rattle.pages.proofs.memory.Memory.relocate.Goals as goal

pub returns : goal.returns
returns c =
    placed-step c.args.self.now c.claim.new.self c.claim-2.new.self c.set_place.new.self c.args.n (as_place c.args.place) (as_place c.place-was.result) _ c.cursor-next.result c.place-was.ensures
    c.cursor-next.ensures c.claim.ensures c.claim-2.ensures c.set_place.ensures refl
