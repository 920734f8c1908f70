use Rattle.std.proofs.Common.{◌-◌}
use Rattle.paging.specs.Memory.{cleaned_children, cleaned_below}
use Rattle.pages.specs.Of.{seen, Steps}
use Rattle.pages.proofs.memory.Memory.+clean_below.Given as goal

abbrev pub decreases-clean_below : goal.decreases-clean_below
decreases-clean_below l = l.depth

abbrev pub invariant-loop-b : goal.invariant-loop-b
invariant-loop-b l = Steps l.initial.self l.self (cleaned_children (cleaned_below (l.depth - 1)) l.b l.node (seen l.initial.self))
