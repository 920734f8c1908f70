use Rattle.paging.specs.Memory.{took_places}
use Rattle.pages.specs.Of.{seen, Steps}
use Rattle.pages.proofs.memory.Memory.take_places.Given as goal

abbrev pub invariant-loop-j : goal.invariant-loop-j
invariant-loop-j l = Steps l.initial.self l.self (took_places l.j l.first l.sector (seen l.initial.self))
