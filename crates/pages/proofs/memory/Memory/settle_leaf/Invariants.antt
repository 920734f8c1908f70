use Rattle.paging.specs.Memory.{settled_from}
use Rattle.pages.specs.Of.{seen, Steps}
use Rattle.pages.proofs.memory.Memory.settle_leaf.Given as goal

abbrev pub invariant-loop-i : goal.invariant-loop-i
invariant-loop-i l = Steps l.initial.self l.self (settled_from l.i l.first (seen l.initial.self))
