use Rattle.pages.specs.Flags.{as_place}
use Rattle.pages.proofs.Kept.{settled-step}
use Rattle.pages.proofs.memory.Memory.settle.Goals as goal

pub returns : goal.returns
returns c =
    settled-step c.args.self.now c.claim.new.self c.claim-2.new.self c.set_place.new.self c.args.n (as_place c.durable_of-place.result) (as_place c.place-was.result) c.durable_of-place.ensures c.place-was.ensures
    c.claim.ensures c.claim-2.ensures c.set_place.ensures
