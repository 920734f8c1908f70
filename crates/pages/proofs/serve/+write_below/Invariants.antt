use Rattle.std.proofs.Common.{◌-◌}
use Rattle.device.proofs.Loops.{Turned}
use Rattle.pages.specs.Of.{seen}
use Rattle.pages.proofs.Writes.{child_turn}
use Rattle.pages.proofs.serve.+write_below.Given as goal

abbrev pub decreases-write_below : goal.decreases-write_below
decreases-write_below g l = l.depth

abbrev pub invariant-loop-b : goal.invariant-loop-b
invariant-loop-b g l = Turned g.D.Device.steps (child_turn (l.depth - 1) (seen l.memory) l.node) tt l.initial.device l.b l.device tt
