-- A folder's entries: names in their order, found, entered and left.
-- Assumes nothing.
use Rattle.std.proofs.Common.{◌≡◌, ℕ, ◌+◌, ◌<◌, ◌≤◌, Bool, true, false, cond, not, ◌&&◌, ◌||◌, T, eqb, ltb, ◌⊎◌, List, [], ◌∷◌, sym, refl, ap, ◌∙◌, subst, inl, inr, arith, ltb→lt, lt→ltb}
use Rattle.std.proofs.lemmas.Bool.{cases_Bool, eq-eqb, eqb-true}
use Rattle.model.specs.Tree.{Name, Entry, some, keep, same_name, less_name, lookup, insert_entry, remove_entry, count_entries}
use Rattle.model.specs.Sound.{rising_names}
use Rattle.model.proofs.Facts.{and-fst, and-snd, and_both, or-either, or_fst, or_snd, is_true, is_false, holds, fails, by-test, cond_yes, cond_no, same_or, In, some_in}

-- names
pub same-is : (a b : Name) → T (same_name a b) → a ≡ b
unfolding same_name
same-is [] [] h = refl
same-is [] (y ∷ ys) h = absurd h
same-is (x ∷ xs) [] h = absurd h
same-is (x ∷ xs) (y ∷ ys) h =
    let p = eqb-true x y (is_true (eqb x y) (and-fst (eqb x y) (same_name xs ys) h)) in
    let q = same-is xs ys (and-snd (eqb x y) (same_name xs ys) h) in
    ap (λ z. z ∷ xs) p ∙ ap (λ z. y ∷ z) q

pub same_refl : (a : Name) → T (same_name a a)
unfolding same_name
same_refl [] = tt
same_refl (x ∷ xs) = and_both (eqb x x) (same_name xs xs) (holds (eq-eqb x x refl)) (same_refl xs)

pub less-irr : (a : Name) → T (less_name a a) → ⊥
unfolding less_name
less-irr [] h = h
less-irr (x ∷ xs) h = elim (or-either (ltb x x) (eqb x x && less_name xs xs) h) [ inl t ↦ let q = ltb→lt x x t in omega arith | inr t ↦ less-irr xs (and-snd (eqb x x) (less_name xs xs) t) ]

pub less-trans : (a b c : Name) → T (less_name a b) → T (less_name b c) → T (less_name a c)
unfolding less_name
less-trans a [] c p q = absurd p
less-trans a (y ∷ ys) [] p q = absurd q
less-trans [] (y ∷ ys) (z ∷ zs) p q = tt
less-trans (x ∷ xs) (y ∷ ys) (z ∷ zs) p q =
    both (or-either (ltb x y) (eqb x y && less_name xs ys) p) (or-either (ltb y z) (eqb y z && less_name ys zs) q) (λ h k. less-trans xs ys zs h k)
  where
    first : x < z → T (ltb x z || (eqb x z && less_name xs zs))
    first h = or_fst (ltb x z) (eqb x z && less_name xs zs) (lt→ltb x z h)

    both : T (ltb x y) ⊎ T (eqb x y && less_name xs ys) → T (ltb y z) ⊎ T (eqb y z && less_name ys zs) → (T (less_name xs ys) → T (less_name ys zs) → T (less_name xs zs)) → T (ltb x z || (eqb x z && less_name xs zs))
    both (inl s) (inl t) f = let h = ltb→lt x y s in let k = ltb→lt y z t in first (omega arith)
    both (inl s) (inr t) f =
        let h = ltb→lt x y s in
        let k = eqb-true y z (is_true (eqb y z) (and-fst (eqb y z) (less_name ys zs) t)) in
        first (omega arith)
    both (inr s) (inl t) f =
        let h = eqb-true x y (is_true (eqb x y) (and-fst (eqb x y) (less_name xs ys) s)) in
        let k = ltb→lt y z t in
        first (omega arith)
    both (inr s) (inr t) f =
        let h = eqb-true x y (is_true (eqb x y) (and-fst (eqb x y) (less_name xs ys) s)) in
        let k = eqb-true y z (is_true (eqb y z) (and-fst (eqb y z) (less_name ys zs) t)) in
        or_snd (ltb x z) (eqb x z && less_name xs zs) (and_both (eqb x z) (less_name xs zs) (holds (eq-eqb x z (h ∙ k))) (f (and-snd (eqb x y) (less_name xs ys) s) (and-snd (eqb y z) (less_name ys zs) t)))

-- neither the same nor before: after
pub less-else : (a b : Name) → same_name a b ≡ false → less_name a b ≡ false → T (less_name b a)
unfolding less_name same_name
less-else [] [] p q = absurd (fails p tt)
less-else [] (y ∷ ys) p q = absurd (fails q tt)
less-else (x ∷ xs) [] p q = tt
less-else (x ∷ xs) (y ∷ ys) p q = go (same_or x y) (λ s t. less-else xs ys s t)
  where
    go : (x ≡ y) ⊎ (x ≡ y → ⊥) → (same_name xs ys ≡ false → less_name xs ys ≡ false → T (less_name ys xs)) → T (ltb y x || (eqb y x && less_name ys xs))
    go (inl e) f =
        or_snd (ltb y x) (eqb y x && less_name ys xs)
        (and_both (eqb y x) (less_name ys xs) (holds (eq-eqb y x (sym e)))
        (f (is_false (same_name xs ys) (λ t. fails p (and_both (eqb x y) (same_name xs ys) (holds (eq-eqb x y e)) t)))
        (is_false (less_name xs ys) (λ t. fails q (or_snd (ltb x y) (eqb x y && less_name xs ys) (and_both (eqb x y) (less_name xs ys) (holds (eq-eqb x y e)) t))))))
    go (inr n) f =
        let h : x < y → ⊥ = λ l. fails q (or_fst (ltb x y) (eqb x y && less_name xs ys) (lt→ltb x y l)) in
        or_fst (ltb y x) (eqb y x && less_name ys xs) (lt→ltb y x (omega arith))

pub less_other : (a b : Name) → T (less_name a b) → same_name a b ≡ false
less_other a b h = is_false (same_name a b) (λ t. less-irr b (subst (λ z. T (less_name z b)) (same-is a b t) h))

pub less-other' : (a b : Name) → T (less_name a b) → same_name b a ≡ false
less-other' a b h = is_false (same_name b a) (λ t. less-irr a (subst (λ z. T (less_name a z)) (same-is b a t) h))

-- each after the one before: all later ones are after it
abbrev pub entry : Name → ℕ → Entry
entry n k = record { name = n; node = k }

abbrev pub After : Name → List Entry → Type 0
After n [] = Unit
After n (e ∷ es) = T (less_name n e.name) × After n es

abbrev pub Sorted : List Entry → Type 0
Sorted [] = Unit
Sorted (e ∷ es) = After e.name es × Sorted es

pub after_less : (a b : Name) (es : List Entry) → T (less_name a b) → After b es → After a es
after_less a b [] h q = tt
after_less a b (e ∷ es) h q = (less-trans a b e.name h q.0, after_less a b es h q.1)

pub rising-sorted : (es : List Entry) → T (rising_names es) → Sorted es
unfolding rising_names
rising-sorted [] h = tt
rising-sorted (e ∷ []) h = (tt, tt)
rising-sorted (e ∷ g ∷ es) h =
    let a = and-fst (less_name e.name g.name) (rising_names (g ∷ es)) h in
    let r = rising-sorted (g ∷ es) (and-snd (less_name e.name g.name) (rising_names (g ∷ es)) h) in
    ((a, after_less e.name g.name es a r.0), r)

pub sorted-rising : (es : List Entry) → Sorted es → T (rising_names es)
unfolding rising_names
sorted-rising [] h = tt
sorted-rising (e ∷ []) h = tt
sorted-rising (e ∷ g ∷ es) h = and_both (less_name e.name g.name) (rising_names (g ∷ es)) h.0.0 (sorted-rising (g ∷ es) h.1)

-- leaving
pub after-keep : (a : Name) (p : Entry → Bool) (es : List Entry) → After a es → After a (keep p es)
unfolding keep
after-keep a p [] h = tt
after-keep a p (e ∷ es) h = by-test (p e) {x = e ∷ keep p es} {y = keep p es} (λ z. After a z) (λ _. (h.0, after-keep a p es h.1)) (λ _. after-keep a p es h.1)

pub sorted-keep : (p : Entry → Bool) (es : List Entry) → Sorted es → Sorted (keep p es)
unfolding keep
sorted-keep p [] h = tt
sorted-keep p (e ∷ es) h = by-test (p e) {x = e ∷ keep p es} {y = keep p es} (λ z. Sorted z) (λ _. (after-keep e.name p es h.0, sorted-keep p es h.1)) (λ _. sorted-keep p es h.1)

pub after-found : (n : Name) (es : List Entry) → After n es → lookup n es ≡ []
unfolding lookup
after-found n [] h = refl
after-found n (e ∷ es) h = cond_no (e.node ∷ []) (lookup n es) (less_other n e.name h.0) ∙ after-found n es h.1

pub found_none : (n : Name) (e : Entry) (es : List Entry) → lookup n (e ∷ es) ≡ [] → (same_name n e.name ≡ false) × (lookup n es ≡ [])
unfolding lookup
found_none n e es h = go (same_name n e.name) h
  where
    go : (t : Bool) → cond t (e.node ∷ []) (lookup n es) ≡ [] → (t ≡ false) × (lookup n es ≡ [])
    go true q = let z : ◌≡◌ {A = ℕ} 0 1 = cc in absurd (omega arith)
    go false q = (refl, q)

pub leave_none : (n : Name) (es : List Entry) → lookup n es ≡ [] → remove_entry n es ≡ es
unfolding keep
leave_none n [] h = refl
leave_none n (e ∷ es) h =
    let r = found_none n e es h in
    ap (λ t. cond (not t) (e ∷ remove_entry n es) (remove_entry n es)) r.0 ∙ ap (λ z. e ∷ z) (leave_none n es r.1)

pub found-leave : (n : Name) (es : List Entry) → lookup n (remove_entry n es) ≡ []
unfolding keep lookup
found-leave n [] = refl
found-leave n (e ∷ es) = go (same_name n e.name) refl (found-leave n es)
  where
    go : (t : Bool) → same_name n e.name ≡ t → lookup n (remove_entry n es) ≡ [] → lookup n (cond (not t) (e ∷ remove_entry n es) (remove_entry n es)) ≡ []
    go true q h = h
    go false q h = cond_no (e.node ∷ []) (lookup n (remove_entry n es)) q ∙ h

pub found-keep : (m : Name) (p : Entry → Bool) (es : List Entry) → lookup m es ≡ [] → lookup m (keep p es) ≡ []
unfolding keep lookup
found-keep m p [] h = refl
found-keep m p (e ∷ es) h =
    let r = found_none m e es h in
    by-test (p e) {x = e ∷ keep p es} {y = keep p es} (λ z. lookup m z ≡ []) (λ _. cond_no (e.node ∷ []) (lookup m (keep p es)) r.0 ∙ found-keep m p es r.1) (λ _. found-keep m p es r.1)

-- another name is found as before
pub found-other : (m n : Name) (es : List Entry) → (m ≡ n → ⊥) → lookup m (remove_entry n es) ≡ lookup m es
unfolding keep lookup
found-other m n [] h = refl
found-other m n (e ∷ es) h = go (same_name n e.name) refl (found-other m n es h)
  where
    go : (t : Bool) → same_name n e.name ≡ t → lookup m (remove_entry n es) ≡ lookup m es → lookup m (cond (not t) (e ∷ remove_entry n es) (remove_entry n es)) ≡ cond (same_name m e.name) (e.node ∷ []) (lookup m es)
    go true q r = r ∙ sym (cond_no (e.node ∷ []) (lookup m es) (is_false (same_name m e.name) (λ t. h (same-is m e.name t ∙ sym (same-is n e.name (holds q))))))
    go false q r = ap (cond (same_name m e.name) (e.node ∷ [])) r

-- entering
pub after-enter : (a n : Name) (k : ℕ) (es : List Entry) → T (less_name a n) → After a es → After a (insert_entry n k es)
unfolding insert_entry
after-enter a n k [] l h = (l, tt)
after-enter a n k (e ∷ es) l h =
    by-test (same_name n e.name) {x = entry n k ∷ es} {y = cond (less_name n e.name) (entry n k ∷ e ∷ es) (e ∷ insert_entry n k es)} (λ z. After a z) (λ _. (l, h.1))
    (λ _. by-test (less_name n e.name) {x = entry n k ∷ e ∷ es} {y = e ∷ insert_entry n k es} (λ z. After a z) (λ _. (l, h)) (λ _. (h.0, after-enter a n k es l h.1)))

pub sorted-enter : (n : Name) (k : ℕ) (es : List Entry) → Sorted es → Sorted (insert_entry n k es)
unfolding insert_entry
sorted-enter n k [] h = (tt, tt)
sorted-enter n k (e ∷ es) h =
    by-test (same_name n e.name) {x = entry n k ∷ es} {y = cond (less_name n e.name) (entry n k ∷ e ∷ es) (e ∷ insert_entry n k es)} (λ z. Sorted z)
    (λ q. (subst (λ z. After z es) (sym (same-is n e.name (holds q))) h.0, h.1))
    (λ q. by-test (less_name n e.name) {x = entry n k ∷ e ∷ es} {y = e ∷ insert_entry n k es} (λ z. Sorted z) (λ l. ((holds l, after_less n e.name es (holds l) h.0), h))
    (λ l. (after-enter e.name n k es (less-else n e.name q l) h.0, sorted-enter n k es h.1)))

pub enter-first : (n : Name) (k : ℕ) (es : List Entry) → After n es → insert_entry n k es ≡ entry n k ∷ es
unfolding insert_entry
enter-first n k [] h = refl
enter-first n k (e ∷ es) h =
    cond_no (entry n k ∷ es) (cond (less_name n e.name) (entry n k ∷ e ∷ es) (e ∷ insert_entry n k es)) (less_other n e.name h.0) ∙ cond_yes (entry n k ∷ e ∷ es) (e ∷ insert_entry n k es) (is_true (less_name n e.name) h.0)

-- to enter a name is to leave it first
pub enter-leave : (n : Name) (k : ℕ) (es : List Entry) → Sorted es → insert_entry n k (remove_entry n es) ≡ insert_entry n k es
unfolding insert_entry keep
enter-leave n k [] h = refl
enter-leave n k (e ∷ es) h = go (same_name n e.name) refl (less_name n e.name) refl (enter-leave n k es h.1)
  where
    go : (t : Bool) → same_name n e.name ≡ t → (l : Bool) → less_name n e.name ≡ l → insert_entry n k (remove_entry n es) ≡ insert_entry n k es → insert_entry n k (cond (not t) (e ∷ remove_entry n es) (remove_entry n es)) ≡ cond t (entry n k ∷ es) (cond l (entry n k ∷ e ∷ es) (e ∷ insert_entry n k es))
    go true q l p r =
        let a = subst (λ z. After z es) (sym (same-is n e.name (holds q))) h.0 in
        ap (insert_entry n k) (leave_none n es (after-found n es a)) ∙ enter-first n k es a
    go false q true p r =
        let a = after_less n e.name es (holds p) h.0 in
        ap (λ z. insert_entry n k (e ∷ z)) (leave_none n es (after-found n es a)) ∙ enter-first n k (e ∷ es) (holds p, a)
    go false q false p r =
        cond_no (entry n k ∷ remove_entry n es) (cond (less_name n e.name) (entry n k ∷ e ∷ remove_entry n es) (e ∷ insert_entry n k (remove_entry n es))) q ∙ (cond_no (entry n k ∷ e ∷ remove_entry n es) (e ∷ insert_entry n k (remove_entry n es)) p ∙ ap (λ z. e ∷ z) r)

pub in-enter : (n : Name) (k : ℕ) (es : List Entry) (x : Entry) → In x (insert_entry n k es) → (entry n k ≡ x) ⊎ In x es
unfolding insert_entry
in-enter n k [] x (inl q) = inl q
in-enter n k [] x (inr q) = absurd q
in-enter n k (e ∷ es) x i = go (same_name n e.name) (less_name n e.name) (λ j. in-enter n k es x j) i
  where
    go : (t l : Bool) → (In x (insert_entry n k es) → (entry n k ≡ x) ⊎ In x es) → In x (cond t (entry n k ∷ es) (cond l (entry n k ∷ e ∷ es) (e ∷ insert_entry n k es))) → (entry n k ≡ x) ⊎ In x (e ∷ es)
    go true l f (inl q) = inl q
    go true l f (inr j) = inr (inr j)
    go false true f (inl q) = inl q
    go false true f (inr j) = inr j
    go false false f (inl q) = inr (inl q)
    go false false f (inr j) = elim (f j) [ inl q ↦ inl q | inr w ↦ inr (inr w) ]

-- counting
abbrev pub one : Bool → ℕ
one true = 1
one false = 0

pub count_none : (k : ℕ) → count_entries k [] ≡ 0
unfolding count_entries
count_none k = refl

pub count-cons : (x : ℕ) (e : Entry) (es : List Entry) → count_entries x (e ∷ es) ≡ one (eqb x e.node) + count_entries x es
unfolding count_entries
count-cons x e es = go (eqb x e.node)
  where
    go : (t : Bool) → cond t (1 + count_entries x es) (count_entries x es) ≡ one t + count_entries x es
    go true = refl
    go false = omega arith

pub count-enter : (x : ℕ) (n : Name) (k : ℕ) (es : List Entry) → lookup n es ≡ [] → count_entries x (insert_entry n k es) ≡ one (eqb x k) + count_entries x es
unfolding insert_entry
count-enter x n k [] h = count-cons x (entry n k) []
count-enter x n k (e ∷ es) h =
    let f = found_none n e es h in
    ap (count_entries x) (cond_no (entry n k ∷ es) (cond (less_name n e.name) (entry n k ∷ e ∷ es) (e ∷ insert_entry n k es)) f.0) ∙
    by-test (less_name n e.name) {x = entry n k ∷ e ∷ es} {y = e ∷ insert_entry n k es} (λ z. count_entries x z ≡ one (eqb x k) + count_entries x (e ∷ es)) (λ _. count-cons x (entry n k) (e ∷ es))
    (λ _. omega (arith, count-cons x e (insert_entry n k es), count-cons x e es, count-enter x n k es f.1))

pub count-leave : (x : ℕ) (n : Name) (k : ℕ) (more : List ℕ) (es : List Entry) → Sorted es → lookup n es ≡ k ∷ more → count_entries x es ≡ one (eqb x k) + count_entries x (remove_entry n es)
unfolding keep lookup
count-leave x n k more [] s h = let z : ◌≡◌ {A = ℕ} 0 1 = cc in absurd (omega arith)
count-leave x n k more (e ∷ es) s h = go (same_name n e.name) refl h (λ q. count-leave x n k more es s.1 q)
  where
    go : (t : Bool) → same_name n e.name ≡ t → cond t (e.node ∷ []) (lookup n es) ≡ k ∷ more → (lookup n es ≡ k ∷ more → count_entries x es ≡ one (eqb x k) + count_entries x (remove_entry n es)) → count_entries x (e ∷ es) ≡ one (eqb x k) + count_entries x (cond (not t) (e ∷ remove_entry n es) (remove_entry n es))
    go true q r f =
        let p : e.node ≡ k = cc in
        let l = leave_none n es (after-found n es (subst (λ z. After z es) (sym (same-is n e.name (holds q))) s.0)) in
        count-cons x e es ∙ (ap (λ z. one (eqb x z) + count_entries x es) p ∙ ap (λ z. one (eqb x k) + count_entries x z) (sym l))
    go false q r f = omega (arith, count-cons x e es, count-cons x e (remove_entry n es), f r)

pub found_in : (n : Name) (k : ℕ) (more : List ℕ) (es : List Entry) → lookup n es ≡ k ∷ more → In (entry n k) es
unfolding lookup
found_in n k more [] h = let z : ◌≡◌ {A = ℕ} 0 1 = cc in absurd (omega arith)
found_in n k more (e ∷ es) h = go (same_name n e.name) refl h (λ q. found_in n k more es q)
  where
    go : (t : Bool) → same_name n e.name ≡ t → cond t (e.node ∷ []) (lookup n es) ≡ k ∷ more → (lookup n es ≡ k ∷ more → In (entry n k) es) → In (entry n k) (e ∷ es)
    go true q r f =
        let p : e.node ≡ k = cc in
        inl (ap (λ z. entry z e.node) (sym (same-is n e.name (holds q))) ∙ ap (λ z. entry n z) p)
    go false q r f = inr (f r)

pub in_count : (es : List Entry) (x : Entry) → In x es → 1 ≤ count_entries x.node es
in_count [] x i = absurd i
in_count (e ∷ es) x (inl q) = let o : one (eqb x.node e.node) ≡ 1 = ap one (eq-eqb x.node e.node (ap (λ (z : Entry). z.node) (sym q))) in omega (arith, count-cons x.node e es)
in_count (e ∷ es) x (inr i) = omega (arith, count-cons x.node e es, in_count es x i)

pub count-some : (k : ℕ) (es : List Entry) → 1 ≤ count_entries k es → T (some (λ (e : Entry). eqb e.node k) es)
unfolding some
count-some k [] h = absurd (omega (arith, count_none k))
count-some k (e ∷ es) h =
    elim (cases_Bool (eqb k e.node)) [
      | inl q ↦ or_fst (eqb e.node k) (some (λ (z : Entry). eqb z.node k) es) (holds (eq-eqb e.node k (sym (eqb-true k e.node q))))
      | inr q ↦ let o : one (eqb k e.node) ≡ 0 = ap one q in or_snd (eqb e.node k) (some (λ (z : Entry). eqb z.node k) es) (count-some k es (omega (arith, count-cons k e es)))
    ]

pub some-count : (k : ℕ) (es : List Entry) → T (some (λ (e : Entry). eqb e.node k) es) → 1 ≤ count_entries k es
some-count k es h =
    let q = some_in (λ (e : Entry). eqb e.node k) es h in
    subst (λ z. 1 ≤ count_entries z es) (eqb-true q.0.node k (is_true (eqb q.0.node k) q.2)) (in_count es q.0 q.1)
