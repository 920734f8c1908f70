use Rattle.device.proofs.Loops.{Tried}
use Rattle.paging.specs.Store.{same_turn}
use Rattle.pages.proofs.transfer.same_pages.Given as goal

abbrev pub invariant-loop-i : goal.invariant-loop-i
invariant-loop-i g l = Tried g.D.Device.steps (same_turn l.a l.b) tt l.initial.device l.i l.device tt
