-- Counting places and contents.
-- Assumes nothing.
use Rattle.std.proofs.Common.{◌≡◌, ℕ, zero, suc, ◌+◌, ◌-◌, ◌<◌, ◌≤◌, Bool, true, false, cond, not, ◌&&◌, ◌||◌, eqb, ◌⊎◌, List, sym, refl, ap, ◌∙◌, inl, inr, arith}
use Rattle.std.proofs.lemmas.Bool.{eqb-true, eqb-false, eq-eqb, ne_eqb, cases_eq, or_cases, or_parts, or_left, or_right, not-true, and_parts, and_from, both_ways, false≢true}
use Rattle.paging.specs.Layout.{one}
use Rattle.paging.specs.Pages.{same_bytes, blank_page}
use Rattle.paging.specs.Judge.{live, used, set_at}
use Rattle.paging.specs.Memory.{counts, find_down}
use Rattle.paging.proofs.Coding.{one-le, same_self}
use Rattle.paging.proofs.Logic.{by-eq}

unfoldable pub sum_to : ℕ → (ℕ → ℕ) → ℕ
sum_to zero g = 0
sum_to (suc n) g = g n + sum_to n g

-- how many below n
abbrev pub count : ℕ → (ℕ → Bool) → ℕ
count n t = sum_to n (λ k. one (t k))

-- is there one below n
any : ℕ → (ℕ → Bool) → Bool
any zero t = false
any (suc n) t = t n || any n t

any_false : (n : ℕ) (t : ℕ → Bool) → any n t ≡ false → (k : ℕ) → k < n → t k ≡ false
unfolding any
any_false zero t e k l = absurd (omega arith)
any_false (suc n) t e k l =
    elim (cases_eq k n) [ inl i ↦ ap t i ∙ (or_parts (t n) (any n t) e).0 | inr i ↦ any_false n t (or_parts (t n) (any n t) e).1 k (omega arith) ]

any-true : (n : ℕ) (t : ℕ → Bool) (k : ℕ) → k < n → t k ≡ true → any n t ≡ true
unfolding any
any-true zero t k l e = absurd (omega arith)
any-true (suc n) t k l e = elim (cases_eq k n) [ inl i ↦ or_left (t n) (any n t) (ap t (sym i) ∙ e) | inr i ↦ or_right (t n) (any n t) (any-true n t k (omega arith) e) ]

pub one-true : (b : Bool) → b ≡ true → one b ≡ 1
unfolding one
one-true true e = refl
one-true false e = absurd (false≢true e)

sum-le : (n : ℕ) (g h : ℕ → ℕ) → ((k : ℕ) → k < n → g k ≤ h k) → sum_to n g ≤ sum_to n h
unfolding sum_to
sum-le zero g h l = omega arith
sum-le (suc n) g h l = let a = l n (omega arith) in let b = sum-le n g h (λ k i. l k (omega arith)) in omega arith

sum-none : (n : ℕ) → sum_to n (λ k. 0) ≡ 0
unfolding sum_to
sum-none zero = refl
sum-none (suc n) = let a = sum-none n in omega arith

sum-add : (n : ℕ) (g h : ℕ → ℕ) → sum_to n (λ k. g k + h k) ≡ sum_to n g + sum_to n h
unfolding sum_to
sum-add zero g h = refl
sum-add (suc n) g h = let a = sum-add n g h in omega arith

sum-swap : (n m : ℕ) (g : ℕ → ℕ → ℕ) → sum_to n (λ k. sum_to m (g k)) ≡ sum_to m (λ j. sum_to n (λ k. g k j))
unfolding sum_to
sum-swap zero m g = sym (sum-none m)
sum-swap (suc n) m g = let a = sum-swap n m g in let b = sum-add m (g n) (λ j. sum_to n (λ k. g k j)) in omega arith

-- one that is there counts
sum-there : (n : ℕ) (t : ℕ → Bool) → any n t ≡ true → 1 ≤ sum_to n (λ k. one (t k))
unfolding sum_to any one
sum-there zero t e = absurd (false≢true e)
sum-there (suc n) t e = go (t n) e (sum-there n t)
  where
    go : (b : Bool) → b || any n t ≡ true → (any n t ≡ true → 1 ≤ sum_to n (λ k. one (t k))) → 1 ≤ one b + sum_to n (λ k. one (t k))
    go true e h = omega arith
    go false e h = let a = h e in omega arith

one-imp : (b c : Bool) → (b ≡ true → c ≡ true) → one b ≤ one c
unfolding one
one-imp true c h = rw (h refl) (omega arith)
one-imp false c h = omega arith

point-none : (n v : ℕ) → ((p : ℕ) → p < n → v ≡ suc p → ⊥) → sum_to n (λ p. one (eqb v (suc p))) ≡ 0
unfolding sum_to one
point-none zero v h = refl
point-none (suc n) v h = let a = point-none n v (λ p l. h p (omega arith)) in rw (ne_eqb v (suc n) (h n (omega arith))) (omega arith)

point-one : (n v : ℕ) → sum_to n (λ p. one (eqb v (suc p))) ≤ 1
unfolding sum_to one
point-one zero v = omega arith
point-one (suc n) v =
    let r : sum_to n (λ p. one (eqb v (suc p))) ≤ 1 = point-one n v in
    by-eq v (suc n) (λ b. one b + sum_to n (λ p. one (eqb v (suc p))) ≤ 1) (λ e. let a = point-none n v (λ p l i. omega arith) in omega arith) (λ e. omega arith)

-- a place is one place
point : (n v : ℕ) → sum_to n (λ p. one (eqb v (suc p))) ≤ one (not (eqb v 0))
unfolding one
point n v = by-eq v 0 (λ b. sum_to n (λ p. one (eqb v (suc p))) ≤ one (not b)) (λ e. let a = point-none n v (λ p l i. omega arith) in omega arith) (λ e. point-one n v)

point-and : (n v : ℕ) (b : Bool) → sum_to n (λ p. one (eqb v (suc p) && b)) ≤ one (not (eqb v 0) && b)
unfolding one
point-and n v true =
    let a = point n v in
    let e = sum-le n (λ p. one (eqb v (suc p) && true)) (λ p. one (eqb v (suc p))) (λ p l. one-imp (eqb v (suc p) && true) (eqb v (suc p)) (λ e. (and_parts (eqb v (suc p)) true e).0)) in
    let o = one-imp (not (eqb v 0)) (not (eqb v 0) && true) (λ e. and_from (not (eqb v 0)) true e refl) in
    omega arith
point-and n v false =
    let e = sum-le n (λ p. one (eqb v (suc p) && false)) (λ p. 0) (λ p l. one-imp (eqb v (suc p) && false) false (λ e. absurd (false≢true (and_parts (eqb v (suc p)) false e).1))) in
    let o = sum-none n in
    omega arith

used_le : (n : ℕ) (h : ℕ → ℕ) (F G : ℕ → List ℕ) →
    ((k : ℕ) → k < n → h k ≤ one (not (same_bytes (F k) blank_page)) + one (not (same_bytes (G k) blank_page) && not (same_bytes (G k) (F k)))) → sum_to n h ≤ used n F G
unfolding sum_to used
used_le zero h F G w = omega arith
used_le (suc n) h F G w = let a = w n (omega arith) in let b = used_le n h F G (λ k l. w k (omega arith)) in omega arith

pub used-more : (n m : ℕ) (F G : ℕ → List ℕ) → n ≤ m → used n F G ≤ used m F G
unfolding used
used-more n zero F G l = let e : n ≡ 0 = omega arith in rw e (omega arith)
used-more n (suc m) F G l = elim (cases_eq n (suc m)) [ inl e ↦ rw e (omega arith) | inr e ↦ let a = used-more n m F G (omega arith) in omega arith ]

-- what the page n adds to the contents that are to be kept
abbrev pub weight : List ℕ → List ℕ → ℕ
weight f g = one (not (same_bytes f blank_page)) + one (not (same_bytes g blank_page) && not (same_bytes g f))

used-ext : (n : ℕ) (F E G : ℕ → List ℕ) → ((k : ℕ) → k < n → F k ≡ E k) → used n F G ≡ used n E G
unfolding used
used-ext zero F E G h = refl
used-ext (suc n) F E G h = let a = used-ext n F E G (λ k l. h k (omega arith)) in let b : weight (F n) (G n) ≡ weight (E n) (G n) = ap (λ f. weight f (G n)) (h n (omega arith)) in omega arith

-- one of the pages changes
pub used-at : (n q : ℕ) (F G : ℕ → List ℕ) (a b : List ℕ) → q < n → used n (set_at q a F) G + weight b (G q) ≡ used n (set_at q b F) G + weight a (G q)
unfolding used
used-at zero q F G a b l = absurd (omega arith)
used-at (suc n) q F G a b l = go (cases_eq q n) (used-at n q F G a b)
  where
    go : (q ≡ n) ⊎ (q ≡ n → ⊥) → (q < n → used n (set_at q a F) G + weight b (G q) ≡ used n (set_at q b F) G + weight a (G q)) →
        (one (not (same_bytes (set_at q a F n) blank_page)) + (one (not (same_bytes (G n) blank_page) && not (same_bytes (G n) (set_at q a F n))) + used n (set_at q a F) G)) + weight b (G q) ≡
        (one (not (same_bytes (set_at q b F n) blank_page)) + (one (not (same_bytes (G n) blank_page) && not (same_bytes (G n) (set_at q b F n))) + used n (set_at q b F) G)) + weight a (G q)
    go (inl e) h =
        let x = used-ext n (set_at q a F) (set_at q b F) G (λ k i. rw (ne_eqb k q (omega arith))) in
        let y : weight (set_at q a F n) (G n) ≡ weight a (G q) = rw (eq-eqb n q (sym e), e) in
        let z : weight (set_at q b F n) (G n) ≡ weight b (G q) = rw (eq-eqb n q (sym e), e) in
        omega arith
    go (inr e) h =
        let x = h (omega arith) in
        let y : weight (set_at q a F n) (G n) ≡ weight (set_at q b F n) (G n) = rw (ne_eqb n q (λ i. e (sym i))) in
        omega arith

pub count-ext : (n : ℕ) (t s : ℕ → Bool) → ((k : ℕ) → k < n → t k ≡ s k) → count n t ≡ count n s
unfolding sum_to
count-ext zero t s h = refl
count-ext (suc n) t s h = let a = count-ext n t s (λ k l. h k (omega arith)) in let b = ap one (h n (omega arith)) in omega arith

-- one of them changes
pub count_at : (n q : ℕ) (t : ℕ → Bool) (b : Bool) → q < n → count n (λ k. cond (eqb k q) b (t k)) + one (t q) ≡ count n t + one b
unfolding sum_to
count_at zero q t b l = absurd (omega arith)
count_at (suc n) q t b l = go (cases_eq q n) (count_at n q t b)
  where
    go : (q ≡ n) ⊎ (q ≡ n → ⊥) → (q < n → count n (λ k. cond (eqb k q) b (t k)) + one (t q) ≡ count n t + one b) → (one (cond (eqb n q) b (t n)) + count n (λ k. cond (eqb k q) b (t k))) + one (t q) ≡ (one (t n) + count n t) + one b
    go (inl e) h =
        let a = count-ext n (λ k. cond (eqb k q) b (t k)) t (λ k i. rw (ne_eqb k q (omega arith))) in
        let c : one (cond (eqb n q) b (t n)) ≡ one b = rw (eq-eqb n q (sym e)) in
        let f : one (t q) ≡ one (t n) = ap (λ k. one (t k)) e in
        omega arith
    go (inr e) h = let a = h (omega arith) in let c : one (cond (eqb n q) b (t n)) ≡ one (t n) = rw (ne_eqb n q (λ i. e (sym i))) in omega arith

pub count-more : (n q : ℕ) (t : ℕ → Bool) → q < n → one (t q) ≤ count n t
unfolding sum_to
count-more zero q t l = absurd (omega arith)
count-more (suc n) q t l = elim (cases_eq q n) [ inl e ↦ let a : one (t q) ≡ one (t n) = ap (λ k. one (t k)) e in omega arith | inr e ↦ let a = count-more n q t (omega arith) in omega arith ]

-- what is counted stays counted
pub counts-right : (r l v : ℕ) (t : ℕ → Bool) (was will : Bool) → v ≤ r → l ≡ count r t → was ≡ t (v - 1) → counts l v was will ≡ count r (λ p. cond (eqb (suc p) v) will (t p))
counts-right r l zero t was will h e w = e ∙ count-ext r t _ (λ k i. rw (ne_eqb (suc k) 0 (omega arith)))
counts-right r l (suc q) t was will h e w =
    let a = count_at r q t will (omega arith) in
    let c = count-ext r (λ k. cond (eqb k q) will (t k)) (λ p. cond (eqb (suc p) (suc q)) will (t p)) (λ k i. by-eq k q (λ b. cond b will (t k) ≡ cond (eqb (suc k) (suc q)) will (t k)) (λ z. rw (eq-eqb (suc k) (suc q) (ap suc z))) (λ z. rw (ne_eqb (suc k) (suc q) (omega arith)))) in
    let z : suc q - 1 ≡ q = omega arith in
    let d : one was ≡ one (t q) = ap one (w ∙ ap t z) in
    let f = count-more r q t (omega arith) in
    let h : counts l (suc q) was will ≡ (l + one will) - one was = rw (ne_eqb (suc q) 0 (omega arith)) in
    omega arith

-- where each of r places is vacant or used by one map or the other, and pages with places are full and, with two, differ: all but the vacant ones are contents to be kept
pub kept-all : (r n : ℕ) (vac : ℕ → Bool) (now old : ℕ → ℕ) (F G : ℕ → List ℕ) →
    ((p : ℕ) → p < r → (vac p ≡ true) ⊎ (((k : ℕ) × (k < n) × (now k ≡ suc p)) ⊎ ((k : ℕ) × (k < n) × (old k ≡ suc p)))) →
    ((k : ℕ) → k < n → (now k ≡ 0 → ⊥) → same_bytes (F k) blank_page ≡ false) →
    ((k : ℕ) → k < n → (old k ≡ 0 → ⊥) → (old k ≡ now k → ⊥) → (same_bytes (G k) blank_page ≡ false) × (same_bytes (G k) (F k) ≡ false)) → r ≤ count r vac + used n F G
kept-all r n vac now old F G cover h1 h2 =
    let a : sum_to r (λ p. 1) ≤ sum_to r (λ p. one (vac p) + sum_to n (g p)) = sum-le r (λ p. 1) (λ p. one (vac p) + sum_to n (g p)) (λ p i. each p (cover p i) (any n (λ k. eqb (now k) (suc p))) refl) in
    let f = sum-add r (λ p. one (vac p)) (λ p. sum_to n (g p)) in
    let b = sum-swap r n g in
    let c : sum_to n (λ k. sum_to r (λ p. g p k)) ≤ used n F G = used_le n (λ k. sum_to r (λ p. g p k)) F G weigh in
    let d = ones r in
    omega arith
  where
    g : ℕ → ℕ → ℕ
    g p k = one (eqb (now k) (suc p)) + one (eqb (old k) (suc p) && not (eqb (old k) (now k)))

    ones : (r : ℕ) → sum_to r (λ p. 1) ≡ r
    ones = elim [ zero ↦ unfold sum_to in refl | suc (r → i) ↦ unfold sum_to in omega arith ]

    weigh : (k : ℕ) → k < n → sum_to r (λ p. g p k) ≤ one (not (same_bytes (F k) blank_page)) + one (not (same_bytes (G k) blank_page) && not (same_bytes (G k) (F k)))
    weigh k i =
        let a = sum-add r (λ p. one (eqb (now k) (suc p))) (λ p. one (eqb (old k) (suc p) && not (eqb (old k) (now k)))) in
        let b = point r (now k) in
        let c = point-and r (old k) (not (eqb (old k) (now k))) in
        let d = one-imp (not (eqb (now k) 0)) (not (same_bytes (F k) blank_page)) (λ e. ap not (h1 k i (eqb-false (now k) 0 (not-true _ e)))) in
        let e = one-imp (not (eqb (old k) 0) && not (eqb (old k) (now k))) (not (same_bytes (G k) blank_page) && not (same_bytes (G k) (F k)))
        (λ e. let q = and_parts (not (eqb (old k) 0)) (not (eqb (old k) (now k))) e in
        let w = h2 k i (eqb-false (old k) 0 (not-true _ q.0)) (eqb-false (old k) (now k) (not-true _ q.1)) in
        and_from _ _ (ap not w.0) (ap not w.1)) in
        omega arith

    mine : (w : ℕ → ℕ) (p : ℕ) → (k : ℕ) × (k < n) × (w k ≡ suc p) → any n (λ k. eqb (w k) (suc p)) ≡ true
    mine w p (k, i, e) = any-true n (λ k. eqb (w k) (suc p)) k i (eq-eqb (w k) (suc p) e)

    each : (p : ℕ) → (vac p ≡ true) ⊎ (((k : ℕ) × (k < n) × (now k ≡ suc p)) ⊎ ((k : ℕ) × (k < n) × (old k ≡ suc p))) → (b : Bool) → any n (λ k. eqb (now k) (suc p)) ≡ b → 1 ≤ one (vac p) + sum_to n (g p)
    each p (inl v) b e = let a = one-true (vac p) v in omega arith
    each p (inr w) true e =
        let a = sum-there n (λ k. eqb (now k) (suc p)) e in
        let b = sum-le n (λ k. one (eqb (now k) (suc p))) (g p) (λ k i. omega arith) in
        omega arith
    each p (inr (inl w)) false e = absurd (both_ways (any n (λ k. eqb (now k) (suc p))) e (mine now p w))
    each p (inr (inr w)) false e =
        let a = sum-there n (λ k. eqb (old k) (suc p)) (mine old p w) in
        let b = sum-le n (λ k. one (eqb (old k) (suc p))) (g p)
        (λ k i. let o = one-imp (eqb (old k) (suc p)) (eqb (old k) (suc p) && not (eqb (old k) (now k)))
        (λ q. and_from _ _ q (ap not (ne_eqb (old k) (now k) (λ v. eqb-false (now k) (suc p) (any_false n (λ k. eqb (now k) (suc p)) e k i) (sym v ∙ eqb-true (old k) (suc p) q))))) in
        omega arith) in
        omega arith

-- one at most is there
sum-once : (n : ℕ) (t : ℕ → Bool) → ((j k : ℕ) → j < n → k < n → t j ≡ true → t k ≡ true → j ≡ k) → count n t ≤ 1
unfolding sum_to any one
sum-once zero t h = omega arith
sum-once (suc n) t h = go (t n) refl (sum-once n t (λ j k a b. h j k (omega arith) (omega arith)))
  where
    lone : (b : Bool) → any n t ≡ b → t n ≡ true → any n t ≡ false
    lone false e i = e
    lone true e i = absurd (none n (λ k l. omega arith) e)
      where
        none : (m : ℕ) → ((k : ℕ) → k < m → k < n) → any m t ≡ true → ⊥
        none zero u e = false≢true e
        none (suc m) u e = elim (or_cases (t m) (any m t) e) [ inl q ↦ omega (arith, h m n (omega (arith, u m (omega arith))) (omega arith) q i, u m (omega arith)) | inr q ↦ none m (λ k l. u k (omega arith)) q ]

    zeroes : (m : ℕ) → any m t ≡ false → count m t ≡ 0
    zeroes zero e = refl
    zeroes (suc m) e = let a = zeroes m (or_parts (t m) (any m t) e).1 in let b : one (t m) ≡ 0 = ap one (or_parts (t m) (any m t) e).0 in omega arith

    go : (b : Bool) → t n ≡ b → count n t ≤ 1 → one (t n) + count n t ≤ 1
    go true e l = let a = zeroes n (lone (any n t) refl e) in let b = one-le (t n) in omega arith
    go false e l = let b : one (t n) ≡ 0 = ap one e in omega arith

-- a map has no more pages than places
pub places-few : (r n : ℕ) (m : ℕ → ℕ) → ((k : ℕ) → k < n → m k ≤ r) → ((j k p : ℕ) → j < n → k < n → m j ≡ suc p → m k ≡ suc p → j ≡ k) → count n (λ k. not (eqb (m k) 0)) ≤ r
places-few r n m fit apart =
    let a = sum-le n (λ k. one (not (eqb (m k) 0))) (λ k. sum_to r (λ p. one (eqb (m k) (suc p)))) (λ k i. by-eq (m k) 0 (λ b. one (not b) ≤ sum_to r (λ p. one (eqb (m k) (suc p)))) (λ e. unfold one in omega arith)
    (λ e. let q = sum-there r (λ p. eqb (m k) (suc p)) (any-true r (λ p. eqb (m k) (suc p)) (m k - 1) (omega (arith, fit k i)) (eq-eqb (m k) (suc (m k - 1)) (omega arith))) in unfold one in q)) in
    let b = sum-swap n r (λ k p. one (eqb (m k) (suc p))) in
    let c = sum-le r (λ p. sum_to n (λ k. one (eqb (m k) (suc p)))) (λ p. 1) (λ p i. sum-once n (λ k. eqb (m k) (suc p)) (λ j k x y u v. apart j k p x y (eqb-true (m j) (suc p) u) (eqb-true (m k) (suc p) v))) in
    let d = ones r in
    omega arith
  where
    ones : (r : ℕ) → sum_to r (λ p. 1) ≡ r
    ones = elim [ zero ↦ unfold sum_to in refl | suc (r → i) ↦ unfold sum_to in omega arith ]

pub count_none : (n : ℕ) (t : ℕ → Bool) → ((k : ℕ) → k < n → t k ≡ false) → count n t ≡ 0
unfolding sum_to one
count_none zero t h = refl
count_none (suc n) t h = let a = count_none n t (λ k l. h k (omega arith)) in let b : one (t n) ≡ 0 = ap one (h n (omega arith)) in omega arith

-- one place more or less
pub count_most : (n v : ℕ) (t s : ℕ → Bool) → ((p : ℕ) → p < n → (v ≡ suc p → ⊥) → t p ≡ true → s p ≡ true) → count n t ≤ count n s + one (not (eqb v 0))
count_most n v t s h =
    let a = sum-le n (λ p. one (t p)) (λ p. one (s p) + one (eqb v (suc p))) (λ p l. by-eq v (suc p) (λ b. one (t p) ≤ one (s p) + one b) (λ e. let o = one-le (t p) in unfold one in omega arith) (λ e. let o = one-imp (t p) (s p) (h p l e) in omega arith)) in
    let b = sum-add n (λ p. one (s p)) (λ p. one (eqb v (suc p))) in
    let c = point n v in
    omega arith

-- LOOKING FOR one
pub find-some : (n : ℕ) (t : ℕ → Bool) (p : ℕ) → find_down n t ≡ suc p → (p < n) × (t p ≡ true)
unfolding find_down
find-some zero t p e = absurd (omega arith)
find-some (suc n) t p e = go (find-some n t p) (t n) refl e
  where
    go : (find_down n t ≡ suc p → (p < n) × (t p ≡ true)) → (b : Bool) → t n ≡ b → cond b (suc n) (find_down n t) ≡ suc p → (p < suc n) × (t p ≡ true)
    go ih true i j = let q : p ≡ n = omega arith in (omega arith, ap t q ∙ i)
    go ih false i j = let r = ih j in (omega arith, r.1)

pub find_none : (n : ℕ) (t : ℕ → Bool) → find_down n t ≡ 0 → (k : ℕ) → k < n → t k ≡ false
unfolding find_down
find_none zero t e k l = absurd (omega arith)
find_none (suc n) t e k l = go (t n) refl e (find_none n t)
  where
    go : (b : Bool) → t n ≡ b → cond b (suc n) (find_down n t) ≡ 0 → (find_down n t ≡ 0 → (k : ℕ) → k < n → t k ≡ false) → t k ≡ false
    go true q i h = absurd (omega arith)
    go false q i h = elim (cases_eq k n) [ inl v ↦ ap t v ∙ q | inr v ↦ h i k (omega arith) ]

pub many : (n : ℕ) (t : ℕ → Bool) → ((k : ℕ) → 0 < k → k < n → t k ≡ true) → n ≤ count n t + 1
unfolding sum_to
many zero t h = omega arith
many (suc n) t h = elim (cases_eq n 0) [ inl e ↦ omega arith | inr e ↦ let a = one-true (t n) (h n (omega arith) (omega arith)) in let b = many n t (λ k o l. h k o (omega arith)) in omega arith ]

pub count-all : (n : ℕ) → count n (λ p. true) ≡ n
unfolding sum_to one
count-all zero = refl
count-all (suc n) = let a = count-all n in omega arith

-- what is synced as it is, or blank, is nothing more to keep
pub used-live : (z : ℕ) (F G : ℕ → List ℕ) → ((n : ℕ) → (G n ≡ blank_page) ⊎ (G n ≡ F n)) → used z F G ≡ live z F
unfolding used live one
used-live zero F G h = refl
used-live (suc n) F G h = let a = used-live n F G h in let b = none (h n) in omega arith
  where
    both : (a b : Bool) → (a ≡ true) ⊎ (b ≡ true) → one (not a && not b) ≡ 0
    both true b w = refl
    both false true w = refl
    both false false (inl e) = absurd (false≢true e)
    both false false (inr e) = absurd (false≢true e)

    none : (G n ≡ blank_page) ⊎ (G n ≡ F n) → one (not (same_bytes (G n) blank_page) && not (same_bytes (G n) (F n))) ≡ 0
    none (inl e) = both _ _ (inl (ap (λ b. same_bytes b blank_page) e ∙ same_self blank_page))
    none (inr e) = both _ _ (inr (ap (λ b. same_bytes b (F n)) e ∙ same_self (F n)))

pub count-below : (n : ℕ) (t : ℕ → Bool) → count n t ≤ n
unfolding sum_to
count-below zero t = omega arith
count-below (suc n) t = let a = count-below n t in let b = one-le (t n) in omega arith
