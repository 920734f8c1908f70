-- Entries that follow those of a node, as many as have room.
-- Assumes nothing.
use Rattle.std.proofs.Common.{◌≡◌, ℕ, ◌+◌, ◌-◌, ◌*◌, ◌<◌, ◌≤◌, true, false, leb, List, ◌∷◌, ◌++◌, length, sym, ap, ◌∙◌, inl, inr, arith}
use Rattle.std.proofs.lemmas.Bool.{le-leb, lt-leb, leb-true, leb-false, and_parts, and_cases}
use Rattle.nodes.specs.Entries.{Entry, entry_weight, weight_of, fitting}
use Rattle.nodes.specs.Page.{entries_of, weight_at, IsNode, has_room, Appended}
use Rattle.nodes.proofs.Encode.{weight-append}
use Rattle.nodes.proofs.Fitting.{fitting-all, fitting-stops}
use Rattle.nodes.proofs.Nodes.{as-entries, entries-of, weight-at, weight-count}

-- what a page says of its room
pub room-taken : (p : List ℕ) (e : Entry) → true ≡ has_room p e → (6 * length (entries_of p) ≤ weight_at p) × (weight_at p + entry_weight e ≤ 4088)
room-taken p e h =
    let b = and_parts (leb (6 * length (entries_of p)) (weight_at p)) (leb (weight_at p + entry_weight e) 4088) (sym h) in
    (leb-true (6 * length (entries_of p)) (weight_at p) b.0, leb-true (weight_at p + entry_weight e) 4088 b.1)

-- and a node says it right
pub room-left : {p : List ℕ} {l : ℕ} {es : List Entry} (e : Entry) → IsNode p l es → false ≡ has_room p e → 4088 < weight_of es + entry_weight e
room-left {p} {l} {es} e h k =
    let n = ap length (entries-of h) in
    let w = weight-at h in
    let m = weight-count es in
    elim (and_cases (leb (6 * length (entries_of p)) (weight_at p)) (leb (weight_at p + entry_weight e) 4088) (sym k)) [
      | inl b ↦ absurd (omega (arith, leb-false (6 * length (entries_of p)) (weight_at p) b))
      | inr b ↦ omega (arith, leb-false (weight_at p + entry_weight e) 4088 b)
    ]

-- all have room
pub all_in : (p : List ℕ) (l : ℕ) (es fs : List Entry) → IsNode p l (es ++ fs) → Appended l es fs p true
all_in p l es fs h =
    let w = weight-append es fs in
    let f : weight_of es + weight_of fs ≤ 4088 = omega (arith, h.fits) in
    record { told = sym (le-leb (weight_of es + weight_of fs) 4088 f); node = as-entries (ap (λ (xs : List Entry). es ++ xs) (sym (fitting-all (4088 - weight_of es) fs (omega arith)))) h; whole = λ _. h }

-- those before e have, and e has not
pub cut_off : (p : List ℕ) (l : ℕ) (es fs : List Entry) (e : Entry) (gs hs : List Entry) → hs ≡ fs ++ (e ∷ gs) → IsNode p l (es ++ fs) → 4088 < weight_of (es ++ fs) + entry_weight e → Appended l es hs p false
cut_off p l es fs e gs hs s h k =
    let w = weight-append es fs in
    let v = weight-append fs (e ∷ gs) in
    let u = ap weight_of s in
    let f = fitting-stops (4088 - weight_of es) fs e gs (omega (arith, h.fits)) (omega (arith, h.fits)) in
    record {
      told = sym (lt-leb (weight_of es + weight_of hs) 4088 (omega arith));
      node = as-entries (ap (λ (xs : List Entry). es ++ xs) (sym (ap (fitting (4088 - weight_of es)) s ∙ f))) h;
      whole = λ z. absurd (let q : ◌≡◌ {A = ℕ} 0 1 = cc in omega arith);
    }
