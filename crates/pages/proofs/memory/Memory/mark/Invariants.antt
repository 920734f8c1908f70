use Rattle.pages.proofs.Kept.{Marking}
use Rattle.pages.proofs.memory.Memory.mark.Given as goal

abbrev pub invariant-loop-k : goal.invariant-loop-k
invariant-loop-k l = Marking l.initial.self l.self l.node l.k

abbrev pub decreases-loop-k : goal.decreases-loop-k
decreases-loop-k l = l.k
