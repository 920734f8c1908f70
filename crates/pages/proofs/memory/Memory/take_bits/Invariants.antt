use Rattle.paging.specs.Memory.{took_bits}
use Rattle.pages.specs.Of.{seen, Steps}
use Rattle.pages.proofs.memory.Memory.take_bits.Given as goal

abbrev pub invariant-loop-b : goal.invariant-loop-b
invariant-loop-b l = Steps l.initial.self l.self (took_bits l.b l.node l.sector (seen l.initial.self))
