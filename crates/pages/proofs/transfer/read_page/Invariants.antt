use Rattle.std.proofs.Common.{◌≡◌, ◌*◌, [], length, take}
use Rattle.device.proofs.Loops.{Turned}
use Rattle.paging.specs.Store.{read_turn}
use Rattle.pages.proofs.transfer.read_page.Given as goal

abbrev pub invariant-loop-i : goal.invariant-loop-i
invariant-loop-i g l = (length l.page ≡ 4096) × Turned g.D.Device.steps (read_turn l.from) [] l.initial.device l.i l.device (take (l.i * 512) l.page)
