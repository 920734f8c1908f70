use Rattle.std.proofs.Common.{◌∙◌, ap, not, refl, arith}
use Rattle.device.specs.Flow.{is}
use Rattle.device.proofs.Loops.{no-try, try-on, leaves, lasts, taken, left}
use Rattle.pages.proofs.Bytes.{differ-is}
use Rattle.pages.proofs.transfer.same_pages.Goals as goal

pub loop-i-init : goal.loop-i-init
loop-i-init g c = no-try refl

pub loop-i-preserved : goal.loop-i-preserved
loop-i-preserved g c =
    let e = differ-is _ _ _ c.ne.ensures ∙ ap not c.if-ne.false in
    try-on c.loop-i.invariant (_, _, c.read.ensures, (_, _, c.read-in-loop-i.ensures, taken (is _) e (refl, refl)))

pub returns-then-ne : goal.returns-then-ne
returns-then-ne g c =
    let e = differ-is _ _ _ c.ne.ensures ∙ ap not c.if-ne.true in
    leaves _ _ _ _ c.loop-i.invariant (omega arith) (_, _, c.read.ensures, (_, _, c.read-in-loop-i.ensures, left (is _) e (refl, refl)))

pub returns : goal.returns
returns g c = lasts _ _ _ _ c.loop-i.invariant (omega arith) (refl, refl)
