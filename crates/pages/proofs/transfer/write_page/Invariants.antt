use Rattle.device.proofs.Loops.{Turned}
use Rattle.paging.specs.Store.{write_turn}
use Rattle.pages.proofs.transfer.write_page.Given as goal

abbrev pub invariant-loop-i : goal.invariant-loop-i
invariant-loop-i g l = Turned g.D.Device.steps (write_turn l.from l.page) tt l.initial.device l.i l.device tt
