use Rattle.pages.proofs.Kept.{flag-good, flag-within}
use Rattle.pages.proofs.memory.Memory.set.Goals as goal

pub set-requires : goal.set-requires
set-requires c = flag-within c.args.self.now c.args.flag c.args.i c.requires

pub invariant_of-self : goal.invariant_of-self
invariant_of-self c = let g = flag-good c.args.self.now c.set.new.self c.args.flag c.args.i c.args.on c.set.ensures c.requires in record { places = g.0; inside = g.1 }

pub returns : goal.returns
returns c = record { is = c.set.ensures.is c.args.self.now.left c.args.self.now.next; size = c.set.ensures.size }
