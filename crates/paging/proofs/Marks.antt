-- Marking a node and all above it.
-- Assumes nothing.
use Rattle.std.proofs.Common.{◌≡◌, ℕ, zero, suc, ◌<◌, ◌≤◌, Bool, true, false, cond, ◌⊎◌, sym, refl, ap, ◌∙◌, subst, inl, inr, arith}
use Rattle.std.proofs.lemmas.Bool.{eq-eqb, both_ways}
use Rattle.paging.specs.Memory.{at, mark}
use Rattle.paging.proofs.Logic.{by-eq}
use Rattle.paging.specs.Layout.{parent}

abbrev pub Closed : ℕ → (ℕ → Bool) → Type 0
Closed y t = (k : ℕ) → 0 < k → k ≤ y → t k ≡ true → t (parent k) ≡ true

-- all but what is above some and is a
abbrev Pending : ℕ → ℕ → (ℕ → Bool) → Type 0
Pending y a t = (k : ℕ) → 0 < k → k ≤ y → t k ≡ true → (t (parent k) ≡ true) ⊎ (parent k ≡ a)

at_more : (k j : ℕ) (t : ℕ → Bool) → t j ≡ true → at k true t j ≡ true
at_more k j t h = by-eq j k (λ b. cond b true (t j) ≡ true) (λ _. refl) (λ _. h)

at_self : (k j : ℕ) (t : ℕ → Bool) → j ≡ k → at k true t j ≡ true
at_self k j t e = rw (eq-eqb j k e)

pub mark-more : (i k j : ℕ) (t : ℕ → Bool) → t j ≡ true → mark i k t j ≡ true
unfolding mark
mark-more zero k j t h = at_more k j t h
mark-more (suc i) zero j t h = at_more 0 j t h
mark-more (suc i) (suc k) j t h = mark-more i (parent (suc k)) j (at (suc k) true t) (at_more (suc k) j t h)

pub mark-self : (i k : ℕ) (t : ℕ → Bool) → mark i k t k ≡ true
unfolding mark
mark-self zero k t = at_self k k t refl
mark-self (suc i) zero t = at_self 0 0 t refl
mark-self (suc i) (suc k) t = mark-more i (parent (suc k)) (suc k) (at (suc k) true t) (at_self (suc k) (suc k) t refl)

closes : (y : ℕ) (t : ℕ → Bool) → Pending y 0 t → Closed y (at 0 true t)
closes y t c j o l =
    by-eq j 0 (λ b. cond b true (t j) ≡ true → at 0 true t (parent j) ≡ true) (λ q. absurd (omega arith))
    (λ q e. elim (c j o l e) [ inl v ↦ at_more 0 (parent j) t v | inr v ↦ at_self 0 (parent j) t v ])

goes-up : (y k : ℕ) (t : ℕ → Bool) → Pending y k t → Pending y (parent k) (at k true t)
goes-up y k t c j o l =
    by-eq j k (λ b. cond b true (t j) ≡ true → (at k true t (parent j) ≡ true) ⊎ (parent j ≡ parent k)) (λ q _. inr (ap parent q))
    (λ q e. inl (elim (c j o l e) [ inl v ↦ at_more k (parent j) t v | inr v ↦ at_self k (parent j) t v ]))

closing : (y i k : ℕ) (t : ℕ → Bool) → k ≤ i → Pending y k t → Closed y (mark i k t)
unfolding mark
closing y zero k t h c = let e : k ≡ 0 = omega arith in subst (λ k. Pending y k t → Closed y (at k true t)) (sym e) (closes y t) c
closing y (suc i) zero t h c = closes y t c
closing y (suc i) (suc k) t h c = closing y i (parent (suc k)) (at (suc k) true t) (omega arith) (goes-up y (suc k) t c)

pub mark-closed : (y i k : ℕ) (t : ℕ → Bool) → k ≤ i → Closed y t → Closed y (mark i k t)
mark-closed y i k t h c = closing y i k t h (λ j o l e. inl (c j o l e))

-- what is not marked is another, and was not
pub unmarked : (i k j : ℕ) (t : ℕ → Bool) → mark i k t j ≡ false → (j ≡ k → ⊥) × (t j ≡ false)
unmarked i k j t e = ((λ q. both_ways (mark i k t j) e (rw q (mark-self i k t))), go (t j) refl)
  where
    go : (b : Bool) → t j ≡ b → b ≡ false
    go true q = absurd (both_ways (mark i k t j) e (mark-more i k j t q))
    go false q = refl

-- where the root is not marked, nothing is
pub none-marked : (y : ℕ) (t : ℕ → Bool) → Closed y t → t 0 ≡ false → (k : ℕ) → k ≤ y → t k ≡ false
none-marked y t c e k l = go k k (omega arith) l
  where
    go : (i k : ℕ) → k ≤ i → k ≤ y → t k ≡ false
    go zero k h l = let q : k ≡ 0 = omega arith in ap t q ∙ e
    go (suc i) zero h l = e
    go (suc i) (suc k) h l = up (t (suc k)) refl (go i (parent (suc k)) (omega arith) (omega arith))
      where
        up : (b : Bool) → t (suc k) ≡ b → t (parent (suc k)) ≡ false → b ≡ false
        up true q r = absurd (both_ways (t (parent (suc k))) r (c (suc k) (omega arith) l q))
        up false q r = refl
