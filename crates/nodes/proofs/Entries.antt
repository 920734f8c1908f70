-- What any bytes say as entries.
-- Assumes nothing.
use Rattle.std.proofs.Common.{◌≡◌, ℕ, ◌+◌, ◌<◌, ◌≤◌, List, [], ◌∷◌, map, length, get_or, drop, sym, ap, ◌∙◌, inl, inr, zero-add, arith, length-drop, length-take}
use Rattle.std.specs.List.{range_with_len}
use Rattle.std.proofs.lemmas.List.FromFn.{length-map-range_with_len, get_or-map-range_with_len}
use Rattle.std.proofs.lemmas.List.{drop_more, drop_all}
use Rattle.std.proofs.lemmas.Bool.{cases_lt}
use Rattle.nodes.specs.Entries.{Entry, blank}
use Rattle.nodes.specs.Page.{word_at, slot_at, text_at, entry_at, entries_of}

pub length-entries : (p : List ℕ) → length (entries_of p) ≡ word_at p 2
unfolding entries_of
length-entries p = length-map-range_with_len (entry_at p) 0 (word_at p 2)

pub get_or-entries : (p : List ℕ) (i : ℕ) (d : Entry) → i < length (entries_of p) → get_or (entries_of p) i d ≡ entry_at p i
unfolding entries_of
get_or-entries p i d h =
    let e : length (map (entry_at p) (range_with_len 0 (word_at p 2))) ≡ word_at p 2 = length-map-range_with_len (entry_at p) 0 (word_at p 2) in
    get_or-map-range_with_len (entry_at p) 0 (word_at p 2) i i d (omega (arith, e, h)) (zero-add i)

pub short-text : (p : List ℕ) (at : ℕ) → length (text_at p at) ≤ length p
short-text p at = omega (arith, length-take (word_at p at) (drop (at + 2) p), length-drop (at + 2) p)

-- the first of the entries that are left
next-left : (es : List Entry) (i : ℕ) (e : Entry) (r : List Entry) → drop i es ≡ e ∷ r → (i < length es) × (e ≡ get_or es i blank) × (r ≡ drop (i + 1) es)
next-left es i e r h =
    elim (cases_lt i (length es)) [
      | inl l ↦ let m : e ∷ r ≡ get_or es i blank ∷ drop (i + 1) es = sym h ∙ drop_more es i blank l in (l, cc, cc)
      | inr l ↦ let z : ◌≡◌ {A = List Entry} [] (e ∷ r) = sym (drop_all i es l) ∙ h in cc
    ]

-- and how long key and value of one are
short-entry : (p : List ℕ) (i : ℕ) (e : Entry) → i < length (entries_of p) → e ≡ get_or (entries_of p) i blank → (length e.key ≤ length p) × (length e.value ≤ length p)
short-entry p i e h q =
    let k = ap (λ (x : Entry). length x.key) (q ∙ get_or-entries p i blank h) in
    let v = ap (λ (x : Entry). length x.value) (q ∙ get_or-entries p i blank h) in
    (omega (arith, k, short-text p (slot_at p i)), omega (arith, v, short-text p (slot_at p i + 2 + word_at p (slot_at p i))))

pub record Next (p : List ℕ) (i : ℕ) (e : Entry) (r : List Entry) : Type 0 where
  pub within : i < length (entries_of p)
  pub is : e ≡ get_or (entries_of p) i blank
  pub left : r ≡ drop (i + 1) (entries_of p)
  pub light : length e.key + length e.value ≤ length p + length p

pub next-entry : (p : List ℕ) (i : ℕ) (e : Entry) (r : List Entry) → drop i (entries_of p) ≡ e ∷ r → Next p i e r
next-entry p i e r h =
    let n = next-left (entries_of p) i e r h in
    record { within = n.0; is = n.1; left = n.2; light = omega (arith, short-entry p i e n.0 n.1) }
