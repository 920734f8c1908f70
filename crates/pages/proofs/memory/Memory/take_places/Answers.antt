use Rattle.std.proofs.Common.{◌≡◌, ℕ, ◌+◌, ◌*◌, ◌/◌, cond, ltb, List, [], length, get_or, take, drop, refl, ap, ◌∙◌, subst, arith}
use Rattle.paging.specs.Layout.{numbers, rooms}
use Rattle.paging.specs.Memory.{clipped, placed, settled}
use Rattle.paging.specs.Sectors.{place_at}
use Rattle.pages.specs.Of.{seen, Steps}
use Rattle.pages.proofs.Bytes.{chunk-at, number_is}
use Rattle.pages.proofs.Kept.{places-none, places-more}
use Rattle.pages.proofs.memory.Memory.take_places.Goals as goal

pub loop-j-init : goal.loop-j-init
loop-j-init c = record { is = places-none c.args.first c.args.sector.now (seen c.args.self.now); size = refl }

pub loop-j-preserved : goal.loop-j-preserved
loop-j-preserved c =
    let s = c.args.sector.now in
    let j = c.loop-j.j in
    let m = seen c.loop-j.self in
    let n = c.args.first + j in
    let w : get_or c.as_chunks.result.0.now j [] ≡ take 8 (drop (8 * j) s) = ap (λ (xs : List (List ℕ)). get_or xs j []) c.as_chunks.ensures.front ∙ chunk-at 8 (length s / 8) j s (omega arith) in
    let e : c.from_le_bytes.result ≡ place_at s j = c.from_le_bytes.ensures ∙ number_is s _ (8 * j) 8 refl w in
    places-more c.args.self.now c.loop-j.self c.take_page.new.self j c.args.first s c.loop-j.invariant
    (subst (λ (v : ℕ). Steps c.loop-j.self c.take_page.new.self (cond (ltb n (numbers m.size)) (settled n (placed n (clipped (rooms m.size) v) m)) m)) e c.take_page.ensures)
