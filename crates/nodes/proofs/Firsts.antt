-- The first entry that passes a test.
-- Assumes nothing.
use Rattle.std.proofs.Common.{◌≡◌, ℕ, zero, suc, ◌+◌, ◌<◌, ◌≤◌, Bool, true, false, cond, ◌&&◌, ltb, Option, Result, Ok, Err, List, [], ◌∷◌, length, get_or, sym, refl, ap, ◌∙◌, inl, inr, add-one, arith}
use Rattle.std.specs.List.{AllWithin, HoldsAt}
use Rattle.std.specs.Option.{MatchOption, unwrap_or}
use Rattle.std.proofs.lemmas.Iterator.{index_from_first}
use Rattle.std.proofs.lemmas.Bool.{cases_Bool, cases_order, both_ways, lt-ltb, le-ltb}
use Rattle.nodes.specs.Entries.{Entry, blank}
use Rattle.model.specs.Tree.{same_name}
use Rattle.nodes.specs.Firsts.{first_where, first_from, found}
use Rattle.nodes.specs.Laws.{First, FirstIsFirst}

module _ (f : Entry → Bool) where
  first-pass : (e : Entry) (es : List Entry) → f e ≡ true → first_where f (e ∷ es) ≡ 0
  unfolding first_where
  first-pass e es h = ap (λ (b : Bool). cond b 0 (first_where f es + 1)) h

  first-fail : (e : Entry) (es : List Entry) → f e ≡ false → first_where f (e ∷ es) ≡ first_where f es + 1
  unfolding first_where
  first-fail e es h = ap (λ (b : Bool). cond b 0 (first_where f es + 1)) h

  is-first : (es : List Entry) → First f es (first_where f es)
  unfolding first_where
  is-first [] = record { within = omega arith; before = λ i h. absurd (omega arith); here = λ h. absurd (omega arith) }
  is-first (e ∷ es) =
      elim (cases_Bool (f e)) [
        | inl t ↦ rw (first-pass e es t) (record { within = omega arith; before = λ i h. absurd (omega arith); here = λ _. t })
        | inr t ↦ let r = is-first es in rw (first-fail e es t, add-one (first_where f es)) (record { within = omega (arith, r.within); before = later e es (first_where f es) t r.before; here = λ h. r.here (omega arith) })
      ]
    where
      later : (e : Entry) (es : List Entry) (n : ℕ) → f e ≡ false → ((i : ℕ) → i < n → f (get_or es i blank) ≡ false) → (i : ℕ) → i < suc n → f (get_or (e ∷ es) i blank) ≡ false
      later e es n t k zero h = t
      later e es n t k (suc i) h = k i (omega arith)

  apart : (es : List Entry) (m n : ℕ) → First f es m → First f es n → m < n → ⊥
  apart es m n a b h = both_ways (f (get_or es m blank)) (b.before m h) (a.here (omega (arith, b.within)))

  same_first : (es : List Entry) (m n : ℕ) → First f es m → First f es n → m ≡ n
  same_first es m n a b =
      elim (cases_order m n) [
        | inl e ↦ e
        | inr o ↦ elim o [ inl h ↦ absurd (apart es m n a b h) | inr h ↦ absurd (apart es n m b a h) ]
      ]

pub first-is-first : FirstIsFirst
first-is-first f es = (is-first f es, λ n h. same_first f es n (first_where f es) h (is-first f es))

-- the first entry, as a look-up through an iterator says its place
pub first-index : (f : Entry → Bool) (es : List Entry) (r : Option ℕ) → MatchOption r (AllWithin (λ e. f e ≡ false) es 0 (length es)) (λ i. (i < length es) × HoldsAt (λ e. f e ≡ true) es i × AllWithin (λ e. f e ≡ false) es 0 i) → first_where f es ≡ unwrap_or r (length es)
unfolding first_where
first-index f es r h = index_from_first (first_where f) (λ e. f e ≡ true) (λ e. f e ≡ false) refl (first-pass f) (first-fail f) es r h

-- what a look-up answers, from the place of the first entry whose key is not before k, and whether that is k
abbrev answer : List ℕ → List Entry → ℕ → Result ℕ ℕ
answer k es n = cond (ltb n (length es) && same_name k (get_or es n blank).key) (Ok n) (Err n)

pub found-none : (k : List ℕ) (es : List Entry) (i : ℕ) → first_from k es ≡ i → length es ≤ i → Err i ≡ found k es
found-none k es i e h = sym (ap (answer k es) e ∙ ap (λ (x : Bool). cond (x && same_name k (get_or es i blank).key) (Ok i) (Err i)) (le-ltb i (length es) h))

pub found-at : (k : List ℕ) (es : List Entry) (i : ℕ) (b : Bool) → first_from k es ≡ i → i < length es → b ≡ same_name k (get_or es i blank).key → cond b (Ok i) (Err i) ≡ found k es
found-at k es i b e h t =
    sym (ap (answer k es) e ∙ ap (λ (x : Bool). cond (x && same_name k (get_or es i blank).key) (Ok i) (Err i)) (lt-ltb i (length es) h) ∙ ap (λ (x : Bool). cond x (Ok i) (Err i)) (sym t))
