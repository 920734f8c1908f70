-- The shortest front of entries that weighs at least so much.
-- Assumes nothing.
use Rattle.std.proofs.Common.{◌≡◌, ℕ, zero, suc, ◌+◌, ◌-◌, ◌<◌, List, [], ◌∷◌, length, get_or, take, drop, sym, refl, ap, ◌∙◌, inl, inr, zero-add, add-one, arith}
use native.Mathlib.Nat.{sub-zero}
use Rattle.std.proofs.lemmas.List.{at_drop_more, take_more}
use Rattle.std.proofs.lemmas.Bool.{cases_order}
use Rattle.nodes.specs.Entries.{Entry, blank, entry_weight, weight_of, front_count}
use Rattle.nodes.specs.Laws.{Shortest, FrontIsShortest, FrontJoins}
use Rattle.nodes.proofs.Encode.{weight-append}

front-step : (t : ℕ) (e : Entry) (es : List Entry) → 0 < t → front_count t (e ∷ es) ≡ front_count (t - entry_weight e) es + 1
unfolding front_count
front-step zero e es h = absurd (omega arith)
front-step (suc t) e es h = refl

pub front-none : (t : ℕ) → front_count t [] ≡ 0
unfolding front_count
front-none zero = refl
front-none (suc t) = refl

-- one place on, in a row that is gone through
pub front-on : (t : ℕ) (es : List Entry) (i : ℕ) → i < length es → 0 < t → front_count t (drop i es) ≡ front_count (t - entry_weight (get_or es i blank)) (drop (i + 1) es) + 1
front-on t es i h k = at_drop_more (front_count t) es i blank h ∙ front-step t (get_or es i blank) (drop (i + 1) es) k

pub front-enough : (t : ℕ) (es : List Entry) → t ≡ 0 → front_count t es ≡ 0
unfolding front_count
front-enough t es h = ap (λ (n : ℕ). front_count n es) h

-- what one entry more weighs
pub weight-more : (es : List Entry) (i : ℕ) → i < length es → weight_of (take (i + 1) es) ≡ weight_of (take i es) + entry_weight (get_or es i blank)
weight-more es i h = let e = ap weight_of (take_more es i blank h) in let a = weight-append (take i es) (get_or es i blank ∷ []) in omega arith

is-shortest : (t : ℕ) (es : List Entry) → Shortest t es (front_count t es)
unfolding front_count
is-shortest zero es = record { within = omega arith; enough = λ _. omega arith; less = λ m h. absurd (omega arith) }
is-shortest (suc t) [] = record { within = omega arith; enough = λ h. absurd (omega arith); less = λ m h. absurd (omega arith) }
is-shortest (suc t) (e ∷ es) =
    let r = is-shortest (suc t - entry_weight e) es in
    rw (add-one (front_count (suc t - entry_weight e) es)) (record { within = omega (arith, r.within); enough = λ h. omega (arith, r.enough (omega arith)); less = fewer t e es (front_count (suc t - entry_weight e) es) r.less })
  where
    fewer : (t : ℕ) (e : Entry) (es : List Entry) (n : ℕ) → ((m : ℕ) → m < n → weight_of (take m es) < suc t - entry_weight e) → (m : ℕ) → m < suc n → weight_of (take m (e ∷ es)) < suc t
    fewer t e es n k zero h = omega arith
    fewer t e es n k (suc m) h = omega (arith, k m (omega arith))

apart : (t : ℕ) (es : List Entry) (m n : ℕ) → Shortest t es m → Shortest t es n → m < n → ⊥
apart t es m n a b h = omega (arith, b.less m h, a.enough (omega (arith, b.within)))

same-shortest : (t : ℕ) (es : List Entry) (m n : ℕ) → Shortest t es m → Shortest t es n → m ≡ n
same-shortest t es m n a b =
    elim (cases_order m n) [
      | inl e ↦ e
      | inr o ↦ elim o [ inl h ↦ absurd (apart t es m n a b h) | inr h ↦ absurd (apart t es n m b a h) ]
    ]

pub front-is-shortest : FrontIsShortest
front-is-shortest t es = (is-shortest t es, λ n h. same-shortest t es n (front_count t es) h (is-shortest t es))

pub front-joins : FrontJoins
unfolding front_count
front-joins zero es fs = refl
front-joins (suc t) [] fs = sym (zero-add (front_count (suc t - 0) fs) ∙ ap (λ (n : ℕ). front_count n fs) (sub-zero (suc t)))
front-joins (suc t) (e ∷ es) fs =
    let u : ℕ = suc t - entry_weight e in
    let n : ℕ = front_count u es in
    let i = front-joins u es fs in
    let w : weight_of (take (n + 1) (e ∷ es)) ≡ entry_weight e + weight_of (take n es) = rw (add-one n) in
    let r : u - weight_of (take n es) ≡ suc t - weight_of (take (n + 1) (e ∷ es)) = omega (arith, w) in
    let s = ap (λ (m : ℕ). front_count m fs) r in
    omega (arith, i, s)
