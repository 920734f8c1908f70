use Rattle.pages.specs.Flags.{as_place}
use Rattle.pages.proofs.Kept.{place-good}
use Rattle.pages.proofs.memory.Memory.set_place.Goals as goal

pub invariant_of-self : goal.invariant_of-self
invariant_of-self c = let g = place-good c.args.self.now c.set_place.new.self c.args.version c.args.n (as_place c.args.place) c.set_place.ensures c.requires.0 c.requires.1 in record { places = g.0; inside = g.1 }

pub returns : goal.returns
returns c = record { is = c.set_place.ensures.is c.args.self.now.left c.args.self.now.next; size = c.set_place.ensures.size }
