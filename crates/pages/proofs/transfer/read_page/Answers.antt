use Rattle.std.proofs.Common.{◌+◌, ◌-◌, ◌*◌, refl, arith, rules}
use Rattle.std.proofs.lemmas.Slice.{take-put_mid}
use Rattle.std.proofs.lemmas.List.{take_all, places}
use Rattle.device.proofs.Loops.{no-turn, turn, all-turns}
use Rattle.pages.proofs.transfer.read_page.Goals as goal

pub loop-i-init : goal.loop-i-init
loop-i-init g c = (search rules, no-turn refl)

pub loop-i-preserved : goal.loop-i-preserved
loop-i-preserved g c =
    let e = take-put_mid (c.loop-i.i * 512) ((c.loop-i.i + 1) * 512 - c.loop-i.i * 512) c.loop-i.page c.copy_from_slice.new.self ((c.loop-i.i + 1) * 512) (omega arith) (omega arith) in
    (search (rules, places), turn c.loop-i.invariant.1 (_, _, c.read.ensures, (refl, cc)))

pub returns : goal.returns
returns g c = all-turns _ _ c.loop-i.invariant.1 (omega arith) (take_all _ _ (omega arith))
