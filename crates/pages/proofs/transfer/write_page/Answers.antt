use Rattle.std.proofs.Common.{◌≡◌, ℕ, ◌+◌, ◌-◌, ◌*◌, ◌/◌, List, [], length, get_or, take, drop, refl, ap, ◌∙◌, arith}
use Rattle.std.specs.List.{between}
use Rattle.device.proofs.Loops.{no-turn, turn, all-turns}
use Rattle.pages.proofs.Bytes.{chunk-at}
use Rattle.pages.proofs.transfer.write_page.Goals as goal

pub loop-i-init : goal.loop-i-init
loop-i-init g c = no-turn refl

pub loop-i-preserved : goal.loop-i-preserved
loop-i-preserved g c =
    let page = c.args.page.now in
    let i = c.loop-i.i in
    let a : 512 ≡ (i + 1) * 512 - i * 512 = omega arith in
    let b : 512 * i ≡ i * 512 = omega arith in
    let e : get_or c.as_chunks.result.0.now i [] ≡ between (i * 512) ((i + 1) * 512) page =
    ap (λ (xs : List (List ℕ)). get_or xs i []) c.as_chunks.ensures.front ∙ (chunk-at 512 (length page / 512) i page (omega arith) ∙ (λ j. take (a j) (drop (b j) page))) in
    turn c.loop-i.invariant (_, _, rw e at c.write.ensures, (refl, refl))

pub returns : goal.returns
returns g c = all-turns _ _ c.loop-i.invariant (omega arith) refl
