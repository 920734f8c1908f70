-- What stands under a number: after a body is put, a node is added, nodes go.
-- Assumes nothing.
use Rattle.std.proofs.Common.{◌≡◌, ℕ, suc, ◌+◌, ◌<◌, ◌≤◌, Bool, true, false, cond, ◌&&◌, ◌||◌, T, eqb, leb, ◌⊎◌, List, [], ◌∷◌, ◌++◌, sym, refl, ap, ◌∙◌, subst, inl, inr, arith, le→leb, leb→le}
use Rattle.std.proofs.lemmas.Bool.{cases_Bool, eq-eqb, ne_eqb, eqb-true}
use Rattle.model.specs.Tree.{Body, Link, Node, some, keep, body_in, put_body, entries_of, is_folder, is_file, count_entries, count_names}
use Rattle.model.specs.Sound.{rising_nums}
use Rattle.model.proofs.Facts.{and-fst, and-snd, and_both, or-either, or_fst, or_snd, is_true, is_false, holds, fails, by-test, cond_yes, cond_no, same_or, In, in_some}

abbrev pub has : ℕ → List Node → Bool
has k xs = some (λ (x : Node). eqb k x.num) xs

abbrev pub node : ℕ → Body → Node
node n b = record { num = n; body = b }

-- a body is put
pub put_same : (n : ℕ) (b : Body) (xs : List Node) → T (has n xs) → body_in n (put_body n b xs) ≡ b
unfolding some put_body body_in
put_same n b [] h = absurd h
put_same n b (x ∷ xs) h =
    elim (cases_Bool (eqb n x.num)) [
      | inl e ↦ ap (body_in n) (cond_yes (node n b ∷ xs) (x ∷ put_body n b xs) e) ∙ cond_yes b (body_in n xs) (eq-eqb n n refl)
      | inr e ↦ ap (body_in n) (cond_no (node n b ∷ xs) (x ∷ put_body n b xs) e) ∙ (cond_no x.body (body_in n (put_body n b xs)) e ∙ put_same n b xs (later (or-either (eqb n x.num) (has n xs) h) e))
    ]
  where
    later : T (eqb n x.num) ⊎ T (has n xs) → eqb n x.num ≡ false → T (has n xs)
    later (inl t) e = absurd (fails e t)
    later (inr t) e = t

pub put_other : (k n : ℕ) (b : Body) (xs : List Node) → (k ≡ n → ⊥) → body_in k (put_body n b xs) ≡ body_in k xs
unfolding put_body body_in
put_other k n b [] h = refl
put_other k n b (x ∷ xs) h =
    by-test (eqb n x.num) {x = node n b ∷ xs} {y = x ∷ put_body n b xs} (λ z. body_in k z ≡ body_in k (x ∷ xs))
    (λ e. cond_no b (body_in k xs) (ne_eqb k n h) ∙ sym (cond_no x.body (body_in k xs) (ne_eqb k x.num (λ q. h (q ∙ sym (eqb-true n x.num e))))))
    (λ e. ap (cond (eqb k x.num) x.body) (put_other k n b xs h))

pub put_has : (k n : ℕ) (b : Body) (xs : List Node) → has k (put_body n b xs) ≡ has k xs
unfolding some put_body
put_has k n b [] = refl
put_has k n b (x ∷ xs) =
    by-test (eqb n x.num) {x = node n b ∷ xs} {y = x ∷ put_body n b xs} (λ z. has k z ≡ has k (x ∷ xs)) (λ e. ap (λ m. eqb k m || has k xs) (eqb-true n x.num e)) (λ e. ap (λ z. eqb k x.num || z) (put_has k n b xs))

pub put-rising : (m n : ℕ) (b : Body) (xs : List Node) → rising_nums m (put_body n b xs) ≡ rising_nums m xs
unfolding rising_nums put_body
put-rising m n b [] = refl
put-rising m n b (x ∷ xs) =
    by-test (eqb n x.num) {x = node n b ∷ xs} {y = x ∷ put_body n b xs} (λ z. rising_nums m z ≡ rising_nums m (x ∷ xs)) (λ e. ap (λ j. leb m j && rising_nums (suc j) xs) (eqb-true n x.num e)) (λ e. ap (λ z. leb m x.num && z) (put-rising (suc x.num) n b xs))

pub put-names : (k n : ℕ) (b : Body) (xs : List Node) → T (has n xs) → count_names k (put_body n b xs) + count_entries k (entries_of (body_in n xs)) ≡ count_names k xs + count_entries k (entries_of b)
unfolding some put_body body_in count_names
put-names k n b [] h = absurd h
put-names k n b (x ∷ xs) h = go (eqb n x.num) (or-either (eqb n x.num) (has n xs) h) (λ i. put-names k n b xs i)
  where
    go : (t : Bool) → T t ⊎ T (has n xs) → (T (has n xs) → count_names k (put_body n b xs) + count_entries k (entries_of (body_in n xs)) ≡ count_names k xs + count_entries k (entries_of b)) → count_names k (cond t (node n b ∷ xs) (x ∷ put_body n b xs)) + count_entries k (entries_of (cond t x.body (body_in n xs))) ≡ (count_entries k (entries_of x.body) + count_names k xs) + count_entries k (entries_of b)
    go true i f = omega arith
    go false (inl i) f = absurd i
    go false (inr i) f = let r = f i in omega arith

pub put-put : (n : ℕ) (b c : Body) (xs : List Node) → put_body n c (put_body n b xs) ≡ put_body n c xs
unfolding put_body
put-put n b c [] = refl
put-put n b c (x ∷ xs) = go (eqb n x.num) refl (put-put n b c xs)
  where
    go : (t : Bool) → eqb n x.num ≡ t → put_body n c (put_body n b xs) ≡ put_body n c xs → put_body n c (cond t (node n b ∷ xs) (x ∷ put_body n b xs)) ≡ cond t (node n c ∷ xs) (x ∷ put_body n c xs)
    go true e h = cond_yes (node n c ∷ xs) (node n b ∷ put_body n c xs) (eq-eqb n n refl)
    go false e h = cond_no (node n c ∷ put_body n b xs) (x ∷ put_body n c (put_body n b xs)) e ∙ ap (λ z. x ∷ z) h

-- what is there
pub names-least : (k d : ℕ) (xs : List Node) → count_entries k (entries_of (body_in d xs)) ≤ count_names k xs
unfolding body_in count_names entries_of count_entries
names-least k d [] = omega arith
names-least k d (x ∷ xs) =
    by-test (eqb d x.num) {x = x.body} {y = body_in d xs} (λ z. count_entries k (entries_of z) ≤ count_entries k (entries_of x.body) + count_names k xs) (λ e. omega arith) (λ e. omega (arith, names-least k d xs))

pub names-some : (k : ℕ) (xs : List Node) → 1 ≤ count_names k xs → (x : Node) × In x xs × (1 ≤ count_entries k (entries_of x.body))
unfolding count_names
names-some k [] h = absurd (omega arith)
names-some k (x ∷ xs) h = elim (same_or (count_entries k (entries_of x.body)) 0) [ inl e ↦ let r = names-some k xs (omega arith) in (r.0, inr r.1, r.2) | inr n ↦ (x, inl refl, omega arith) ]

pub has-or : (k : ℕ) (xs : List Node) → T (has k xs) ⊎ (body_in k xs ≡ Link [])
unfolding some body_in
has-or k [] = inr refl
has-or k (x ∷ xs) =
    elim (cases_Bool (eqb k x.num)) [
      | inl e ↦ inl (or_fst (eqb k x.num) (has k xs) (holds e))
      | inr e ↦ elim (has-or k xs) [ inl h ↦ inl (or_snd (eqb k x.num) (has k xs) h) | inr q ↦ inr (cond_no x.body (body_in k xs) e ∙ q) ]
    ]

pub folder-has : (k : ℕ) (xs : List Node) → T (is_folder (body_in k xs)) → T (has k xs)
unfolding is_folder
folder-has k xs h = elim (has-or k xs) [ inl t ↦ t | inr q ↦ absurd (subst (λ b. T (is_folder b)) q h) ]

pub file-has : (k : ℕ) (xs : List Node) → T (is_file (body_in k xs)) → T (has k xs)
unfolding is_file
file-has k xs h = elim (has-or k xs) [ inl t ↦ t | inr q ↦ absurd (subst (λ b. T (is_file b)) q h) ]

pub rising-least : (m : ℕ) (xs : List Node) (x : Node) → T (rising_nums m xs) → In x xs → m ≤ x.num
unfolding rising_nums
rising-least m [] x r i = absurd i
rising-least m (y ∷ xs) x r (inl e) = leb→le m x.num (subst (λ (z : Node). T (leb m z.num)) e (and-fst (leb m y.num) (rising_nums (suc y.num) xs) r))
rising-least m (y ∷ xs) x r (inr i) =
    let a = leb→le m y.num (and-fst (leb m y.num) (rising_nums (suc y.num) xs) r) in
    let b = rising-least (suc y.num) xs x (and-snd (leb m y.num) (rising_nums (suc y.num) xs) r) i in
    omega arith

pub in_body : (m : ℕ) (xs : List Node) (x : Node) → T (rising_nums m xs) → In x xs → body_in x.num xs ≡ x.body
unfolding rising_nums body_in
in_body m [] x r i = absurd i
in_body m (y ∷ xs) x r (inl e) = cond_yes y.body (body_in x.num xs) (eq-eqb x.num y.num (ap (λ (z : Node). z.num) (sym e))) ∙ ap (λ (z : Node). z.body) e
in_body m (y ∷ xs) x r (inr i) =
    let q = and-snd (leb m y.num) (rising_nums (suc y.num) xs) r in
    let b = rising-least (suc y.num) xs x q i in
    cond_no y.body (body_in x.num xs) (ne_eqb x.num y.num (λ e. omega arith)) ∙ in_body (suc y.num) xs x q i

pub has_in : (k : ℕ) (xs : List Node) → T (has k xs) → (x : Node) × In x xs × (x.num ≡ k) × (body_in k xs ≡ x.body)
unfolding some body_in
has_in k [] h = absurd h
has_in k (x ∷ xs) h =
    elim (cases_Bool (eqb k x.num)) [
      | inl e ↦ (x, inl refl, sym (eqb-true k x.num e), cond_yes x.body (body_in k xs) e)
      | inr e ↦ let q = has_in k xs (later (or-either (eqb k x.num) (has k xs) h) e) in (q.0, inr q.1, q.2, cond_no x.body (body_in k xs) e ∙ q.3)
    ]
  where
    later : T (eqb k x.num) ⊎ T (has k xs) → eqb k x.num ≡ false → T (has k xs)
    later (inl t) e = absurd (fails e t)
    later (inr t) e = t

pub in-has : (xs : List Node) (x : Node) → In x xs → T (has x.num xs)
in-has xs x i = in_some (λ (y : Node). eqb x.num y.num) xs x i (holds (eq-eqb x.num x.num refl))

-- a node is added
pub more-has : (k : ℕ) (xs : List Node) (y : Node) → has k (xs ++ (y ∷ [])) ≡ (has k xs || eqb k y.num)
unfolding some
more-has k [] y = last (eqb k y.num)
  where
    last : (b : Bool) → (b || false) ≡ b
    last true = refl
    last false = refl
more-has k (x ∷ xs) y = ap (λ z. eqb k x.num || z) (more-has k xs y) ∙ turn (eqb k x.num) (has k xs) (eqb k y.num)
  where
    turn : (a b c : Bool) → (a || (b || c)) ≡ ((a || b) || c)
    turn true b c = refl
    turn false b c = refl

pub more-old : (k : ℕ) (xs : List Node) (y : Node) → T (has k xs) → body_in k (xs ++ (y ∷ [])) ≡ body_in k xs
unfolding some body_in
more-old k [] y h = absurd h
more-old k (x ∷ xs) y h = go (eqb k x.num) (or-either (eqb k x.num) (has k xs) h) (λ i. more-old k xs y i)
  where
    go : (t : Bool) → T t ⊎ T (has k xs) → (T (has k xs) → body_in k (xs ++ (y ∷ [])) ≡ body_in k xs) → cond t x.body (body_in k (xs ++ (y ∷ []))) ≡ cond t x.body (body_in k xs)
    go true i f = refl
    go false (inl i) f = absurd i
    go false (inr i) f = f i

pub more-new : (xs : List Node) (y : Node) → (T (has y.num xs) → ⊥) → body_in y.num (xs ++ (y ∷ [])) ≡ y.body
unfolding some body_in
more-new [] y h = cond_yes y.body (Link []) (eq-eqb y.num y.num refl)
more-new (x ∷ xs) y h =
    cond_no x.body (body_in y.num (xs ++ (y ∷ []))) (is_false (eqb y.num x.num) (λ t. h (or_fst (eqb y.num x.num) (has y.num xs) t))) ∙ more-new xs y (λ t. h (or_snd (eqb y.num x.num) (has y.num xs) t))

pub more-none : (k : ℕ) (xs : List Node) (y : Node) → (k ≡ y.num → ⊥) → body_in k (xs ++ (y ∷ [])) ≡ body_in k xs
unfolding body_in
more-none k [] y h = cond_no y.body (Link []) (ne_eqb k y.num h)
more-none k (x ∷ xs) y h = ap (cond (eqb k x.num) x.body) (more-none k xs y h)

pub more-rising : (m : ℕ) (xs : List Node) (y : Node) → T (rising_nums m xs) → ((x : Node) → In x xs → x.num < y.num) → m ≤ y.num → T (rising_nums m (xs ++ (y ∷ [])))
unfolding rising_nums
more-rising m [] y r h l = and_both (leb m y.num) true (le→leb m y.num l) tt
more-rising m (x ∷ xs) y r h l =
    and_both (leb m x.num) (rising_nums (suc x.num) (xs ++ (y ∷ []))) (and-fst (leb m x.num) (rising_nums (suc x.num) xs) r)
    (more-rising (suc x.num) xs y (and-snd (leb m x.num) (rising_nums (suc x.num) xs) r) (λ z i. h z (inr i)) (h x (inl refl)))

pub more-names : (k : ℕ) (xs : List Node) (y : Node) → count_names k (xs ++ (y ∷ [])) ≡ count_names k xs + count_entries k (entries_of y.body)
unfolding count_names
more-names k [] y = omega arith
more-names k (x ∷ xs) y = let h = more-names k xs y in omega arith

-- nodes go, by their number
module _ (q : ℕ → Bool) where
  abbrev pub kept : List Node → List Node
  kept xs = keep (λ (x : Node). q x.num) xs

  pub kept-body : (k : ℕ) (xs : List Node) → q k ≡ true → body_in k (kept xs) ≡ body_in k xs
  unfolding keep body_in
  kept-body k [] h = refl
  kept-body k (x ∷ xs) h =
      by-test (q x.num) {x = x ∷ kept xs} {y = kept xs} (λ z. body_in k z ≡ body_in k (x ∷ xs)) (λ e. ap (cond (eqb k x.num) x.body) (kept-body k xs h))
      (λ e. kept-body k xs h ∙ sym (cond_no x.body (body_in k xs) (ne_eqb k x.num (λ p. fails e (holds (subst (λ z. q z ≡ true) p h))))))

  pub gone-body : (k : ℕ) (xs : List Node) → q k ≡ false → body_in k (kept xs) ≡ Link []
  unfolding keep body_in
  gone-body k [] h = refl
  gone-body k (x ∷ xs) h =
      by-test (q x.num) {x = x ∷ kept xs} {y = kept xs} (λ z. body_in k z ≡ Link []) (λ e. cond_no x.body (body_in k (kept xs)) (ne_eqb k x.num (λ p. fails h (subst (λ z. T (q z)) (sym p) (holds e)))) ∙ gone-body k xs h)
      (λ e. gone-body k xs h)

  pub kept-has : (k : ℕ) (xs : List Node) → q k ≡ true → T (has k xs) → T (has k (kept xs))
  unfolding keep some
  kept-has k [] h t = absurd t
  kept-has k (x ∷ xs) h t =
      by-test (q x.num) {x = x ∷ kept xs} {y = kept xs} (λ z. T (has k z))
      (λ e. elim (or-either (eqb k x.num) (has k xs) t) [ inl s ↦ or_fst (eqb k x.num) (has k (kept xs)) s | inr s ↦ or_snd (eqb k x.num) (has k (kept xs)) (kept-has k xs h s) ])
      (λ e. elim (or-either (eqb k x.num) (has k xs) t) [ inl s ↦ absurd (fails e (subst (λ z. T (q z)) (eqb-true k x.num (is_true (eqb k x.num) s)) (holds h))) | inr s ↦ kept-has k xs h s ])

  pub kept-rising : (m n : ℕ) (xs : List Node) → m ≤ n → T (rising_nums n xs) → T (rising_nums m (kept xs))
  unfolding keep rising_nums
  kept-rising m n [] l r = tt
  kept-rising m n (x ∷ xs) l r =
      let a = leb→le n x.num (and-fst (leb n x.num) (rising_nums (suc x.num) xs) r) in
      let b = and-snd (leb n x.num) (rising_nums (suc x.num) xs) r in
      let am : m ≤ suc x.num = omega arith in
      let al : m ≤ x.num = omega arith in
      by-test (q x.num) {x = x ∷ kept xs} {y = kept xs} (λ z. T (rising_nums m z))
      (λ e. and_both (leb m x.num) (rising_nums (suc x.num) (kept xs)) (le→leb m x.num al) (kept-rising (suc x.num) (suc x.num) xs (omega arith) b))
      (λ e. kept-rising m (suc x.num) xs am b)

  pub kept-names : (k : ℕ) (xs : List Node) → ((x : Node) → In x xs → q x.num ≡ false → entries_of x.body ≡ []) → count_names k (kept xs) ≡ count_names k xs
  unfolding keep count_names count_entries
  kept-names k [] h = refl
  kept-names k (x ∷ xs) h =
      let r = kept-names k xs (λ y i. h y (inr i)) in
      by-test (q x.num) {x = x ∷ kept xs} {y = kept xs} (λ z. count_names k z ≡ count_entries k (entries_of x.body) + count_names k xs) (λ e. omega arith)
      (λ e. let c : count_entries k (entries_of x.body) ≡ 0 = ap (count_entries k) (h x (inl refl) e) in omega arith)
