-- Tests, and what is in a list.
-- Assumes nothing.
use Rattle.std.proofs.Common.{◌≡◌, ℕ, Bool, true, false, cond, not, ◌&&◌, ◌||◌, T, eqb, ◌⊎◌, List, [], ◌∷◌, ◌++◌, sym, refl, ap, subst, inl, inr}
use Rattle.std.proofs.lemmas.Bool.{cases_Bool, eqb-true, eqb-false}
use Rattle.model.specs.Tree.{some, every, keep}

pub and-fst : (a b : Bool) → T (a && b) → T a
and-fst true b h = tt
and-fst false b h = h

pub and-snd : (a b : Bool) → T (a && b) → T b
and-snd true b h = h
and-snd false b h = absurd h

pub and_both : (a b : Bool) → T a → T b → T (a && b)
and_both true b p q = q
and_both false b p q = p

pub or-either : (a b : Bool) → T (a || b) → T a ⊎ T b
or-either true b h = inl tt
or-either false b h = inr h

pub or_fst : (a b : Bool) → T a → T (a || b)
or_fst true b h = tt
or_fst false b h = absurd h

pub or_snd : (a b : Bool) → T b → T (a || b)
or_snd true b h = tt
or_snd false b h = h

pub is_true : (b : Bool) → T b → b ≡ true
is_true true h = refl
is_true false h = absurd h

pub is_false : (b : Bool) → (T b → ⊥) → b ≡ false
is_false true h = absurd (h tt)
is_false false h = refl

pub holds : {b : Bool} → b ≡ true → T b
holds e = subst (λ b. T b) (sym e) tt

pub fails : {b : Bool} → b ≡ false → T b → ⊥
fails e h = subst (λ b. T b) e h

pub not-holds : (b : Bool) → T (not b) → b ≡ false
not-holds true h = absurd h
not-holds false h = refl

pub by-test : {A : Type 0} (b : Bool) {x y : A} (P : A → Type 0) → (b ≡ true → P x) → (b ≡ false → P y) → P (cond b x y)
by-test true P f g = f refl
by-test false P f g = g refl

pub unless : {A : Type 0} (P : A → Type 0) (b : Bool) {x y : A} → P x → (b ≡ false → P y) → P (cond b x y)
unless P true p q = p
unless P false p q = q refl

pub when : {A : Type 0} (P : A → Type 0) (b : Bool) {x y : A} → (b ≡ true → P x) → P y → P (cond b x y)
when P true p q = p refl
when P false p q = q

pub cond_yes : {A : Type 0} {b : Bool} (x y : A) → b ≡ true → cond b x y ≡ x
cond_yes x y e = ap (λ b. cond b x y) e

pub cond_no : {A : Type 0} {b : Bool} (x y : A) → b ≡ false → cond b x y ≡ y
cond_no x y e = ap (λ b. cond b x y) e

-- numbers
pub same_or : (a b : ℕ) → (a ≡ b) ⊎ (a ≡ b → ⊥)
same_or a b = elim (cases_Bool (eqb a b)) [ inl e ↦ inl (eqb-true a b e) | inr e ↦ inr (eqb-false a b e) ]

-- lists
abbrev pub In : {A : Type 0} → A → List A → Type 0
In a [] = ⊥
In a (x ∷ xs) = (x ≡ a) ⊎ In a xs

pub every_in : {A : Type 0} (p : A → Bool) (xs : List A) → T (every p xs) → (x : A) → In x xs → T (p x)
unfolding every
every_in p [] h x i = absurd i
every_in p (y ∷ xs) h x (inl e) = subst (λ z. T (p z)) e (and-fst (p y) (every p xs) h)
every_in p (y ∷ xs) h x (inr i) = every_in p xs (and-snd (p y) (every p xs) h) x i

pub in-every : {A : Type 0} (p : A → Bool) (xs : List A) → ((x : A) → In x xs → T (p x)) → T (every p xs)
unfolding every
in-every p [] h = tt
in-every p (x ∷ xs) h = and_both (p x) (every p xs) (h x (inl refl)) (in-every p xs (λ y i. h y (inr i)))

pub some_in : {A : Type 0} (p : A → Bool) (xs : List A) → T (some p xs) → (x : A) × In x xs × T (p x)
unfolding some
some_in p [] h = absurd h
some_in p (x ∷ xs) h =
    elim (or-either (p x) (some p xs) h) [ inl t ↦ (x, inl refl, t) | inr t ↦ let q = some_in p xs t in (q.0, inr q.1, q.2) ]

pub in_some : {A : Type 0} (p : A → Bool) (xs : List A) (x : A) → In x xs → T (p x) → T (some p xs)
unfolding some
in_some p [] x i h = absurd i
in_some p (y ∷ xs) x (inl e) h = or_fst (p y) (some p xs) (subst (λ z. T (p z)) (sym e) h)
in_some p (y ∷ xs) x (inr i) h = or_snd (p y) (some p xs) (in_some p xs x i h)

pub in-keep : {A : Type 0} (p : A → Bool) (xs : List A) (x : A) → In x (keep p xs) → In x xs × T (p x)
unfolding keep
in-keep p [] x i = absurd i
in-keep p (y ∷ xs) x i =
    by-test (p y) {x = y ∷ keep p xs} {y = keep p xs} (λ z. In x z → In x (y ∷ xs) × T (p x))
    (λ e. elim [ inl q ↦ (inl q, subst (λ z. T (p z)) q (holds e)) | inr j ↦ let r = in-keep p xs x j in (inr r.0, r.1) ])
    (λ e j. let r = in-keep p xs x j in (inr r.0, r.1)) i

pub keep-in : {A : Type 0} (p : A → Bool) (xs : List A) (x : A) → In x xs → T (p x) → In x (keep p xs)
unfolding keep
keep-in p [] x i t = absurd i
keep-in p (y ∷ xs) x (inl q) t = by-test (p y) {x = y ∷ keep p xs} {y = keep p xs} (In x) (λ e. inl q) (λ e. absurd (fails e (subst (λ z. T (p z)) (sym q) t)))
keep-in p (y ∷ xs) x (inr i) t = by-test (p y) {x = y ∷ keep p xs} {y = keep p xs} (In x) (λ e. inr (keep-in p xs x i t)) (λ e. keep-in p xs x i t)

pub in_either : {A : Type 0} (xs ys : List A) (x : A) → In x (xs ++ ys) → In x xs ⊎ In x ys
in_either [] ys x i = inr i
in_either (y ∷ xs) ys x (inl e) = inl (inl e)
in_either (y ∷ xs) ys x (inr i) = elim (in_either xs ys x i) [ inl j ↦ inl (inr j) | inr j ↦ inr j ]

pub in_left : {A : Type 0} (xs ys : List A) (x : A) → In x xs → In x (xs ++ ys)
in_left [] ys x i = absurd i
in_left (y ∷ xs) ys x (inl e) = inl e
in_left (y ∷ xs) ys x (inr i) = inr (in_left xs ys x i)

pub in_right : {A : Type 0} (xs ys : List A) (x : A) → In x ys → In x (xs ++ ys)
in_right [] ys x i = i
in_right (y ∷ xs) ys x i = inr (in_right xs ys x i)
