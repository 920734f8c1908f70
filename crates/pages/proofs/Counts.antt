-- How many below a number, where one of them changes.
-- Assumes nothing.
use Rattle.std.proofs.Common.{◌≡◌, ℕ, zero, suc, ◌+◌, ◌-◌, ◌<◌, ◌≤◌, Bool, true, false, cond, eqb, ◌⊎◌, sym, refl, ap, ◌∙◌, inl, inr, arith}
use mir.Val.{bool_byte}
use Rattle.std.proofs.lemmas.Bool.{eqb-true, eqb-false, eq-eqb, ne_eqb, cases_eq}
use Rattle.paging.specs.Layout.{one}
use Rattle.paging.specs.Memory.{counts}
use Rattle.pages.specs.Counting.{count}

pub by-eq : (k n : ℕ) (C : Bool → Type 0) → (k ≡ n → C true) → ((k ≡ n → ⊥) → C false) → C (eqb k n)
by-eq k n C f g = go (eqb k n) refl
  where
    go : (b : Bool) → eqb k n ≡ b → C b
    go true e = f (eqb-true k n e)
    go false e = g (eqb-false k n e)

pub one-le : (b : Bool) → one b ≤ 1
unfolding one
one-le true = omega arith
one-le false = omega arith

pub from-bool : (b : Bool) → bool_byte b ≡ one b
unfolding one
from-bool true = refl
from-bool false = refl

pub count-ext : (n : ℕ) (t s : ℕ → Bool) → ((k : ℕ) → k < n → t k ≡ s k) → count n t ≡ count n s
unfolding count
count-ext zero t s h = refl
count-ext (suc n) t s h = let a = count-ext n t s (λ k l. h k (omega arith)) in let b = ap one (h n (omega arith)) in omega arith

-- one of them changes
count_at : (n q : ℕ) (t : ℕ → Bool) (b : Bool) → q < n → count n (λ k. cond (eqb k q) b (t k)) + one (t q) ≡ count n t + one b
unfolding count
count_at zero q t b l = absurd (omega arith)
count_at (suc n) q t b l = go (cases_eq q n) (count_at n q t b)
  where
    go : (q ≡ n) ⊎ (q ≡ n → ⊥) → (q < n → count n (λ k. cond (eqb k q) b (t k)) + one (t q) ≡ count n t + one b) → (one (cond (eqb n q) b (t n)) + count n (λ k. cond (eqb k q) b (t k))) + one (t q) ≡ (one (t n) + count n t) + one b
    go (inl e) h =
        let a = count-ext n (λ k. cond (eqb k q) b (t k)) t (λ k i. rw (ne_eqb k q (omega arith))) in
        let c : one (cond (eqb n q) b (t n)) ≡ one b = rw (eq-eqb n q (sym e)) in
        let f : one (t q) ≡ one (t n) = ap (λ k. one (t k)) e in
        omega arith
    go (inr e) h = let a = h (omega arith) in let c : one (cond (eqb n q) b (t n)) ≡ one (t n) = rw (ne_eqb n q (λ i. e (sym i))) in omega arith

pub count-more : (n q : ℕ) (t : ℕ → Bool) → q < n → one (t q) ≤ count n t
unfolding count
count-more zero q t l = absurd (omega arith)
count-more (suc n) q t l = elim (cases_eq q n) [ inl e ↦ let a : one (t q) ≡ one (t n) = ap (λ k. one (t k)) e in omega arith | inr e ↦ let a = count-more n q t (omega arith) in omega arith ]

pub count-below : (n : ℕ) (t : ℕ → Bool) → count n t ≤ n
unfolding count
count-below zero t = omega arith
count-below (suc n) t = let a = count-below n t in let b = one-le (t n) in omega arith

pub count-all : (n : ℕ) → count n (λ k. true) ≡ n
unfolding count one
count-all zero = refl
count-all (suc n) = let a = count-all n in omega arith

-- what is counted stays counted
pub counts-right : (r l v : ℕ) (t : ℕ → Bool) (was will : Bool) → v ≤ r → l ≡ count r t → was ≡ t (v - 1) → counts l v was will ≡ count r (λ p. cond (eqb (suc p) v) will (t p))
counts-right r l zero t was will h e w = e ∙ count-ext r t _ (λ k i. rw (ne_eqb (suc k) 0 (omega arith)))
counts-right r l (suc q) t was will h e w =
    let a = count_at r q t will (omega arith) in
    let c = count-ext r (λ k. cond (eqb k q) will (t k)) (λ p. cond (eqb (suc p) (suc q)) will (t p)) (λ k i. by-eq k q (λ b. cond b will (t k) ≡ cond (eqb (suc k) (suc q)) will (t k)) (λ z. rw (eq-eqb (suc k) (suc q) (ap suc z))) (λ z. rw (ne_eqb (suc k) (suc q) (omega arith)))) in
    let z : suc q - 1 ≡ q = omega arith in
    let d : one was ≡ one (t q) = ap one (w ∙ ap t z) in
    let f = count-more r q t (omega arith) in
    let h : counts l (suc q) was will ≡ (l + one will) - one was = rw (ne_eqb (suc q) 0 (omega arith)) in
    omega arith
