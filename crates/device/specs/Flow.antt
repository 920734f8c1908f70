-- The flow of a function that asks another part: its calls, tests and loops, as the code has them. A function's contract says which flow it runs.
-- Assumes nothing.
use Rattle.std.specs.Prelude.{◌≡◌, ℕ, zero, suc, ◌<◌, ◌≤◌, Bool, true, false, Some, None, Option}

-- A test, by what is known where it holds and where it fails.
pub data Test : Type 0 where
  lt le eq : ℕ → ℕ → Test
  is : Bool → Test

abbrev pub Holds : Test → Type 0
Holds (lt x y) = x < y
Holds (le x y) = x ≤ y
Holds (eq x y) = x ≡ y
Holds (is b) = b ≡ true

abbrev pub Fails : Test → Type 0
Fails (lt x y) = y ≤ x
Fails (le x y) = y < x
Fails (eq x y) = x ≡ y → ⊥
Fails (is b) = b ≡ false

-- C is what may be asked, R c what the answer to c is.
pub data Flow (C : Type 0) (R : C → Type 0) : Type 0 → Type 1 where
  answer : {A : Type 0} → A → Flow C R A
  ask : {A : Type 0} (c : C) → (R c → Flow C R A) → Flow C R A
  -- if .. else
  when : {A : Type 0} → Test → Flow C R A → Flow C R A → Flow C R A
  -- let Some(x) = .. else
  given : {A B : Type 0} → Option B → (B → Flow C R A) → Flow C R A → Flow C R A
  -- a function that is called, and what comes after it
  first : {A B : Type 0} → Flow C R B → (B → Flow C R A) → Flow C R A

-- The flow, run from s, ends at u with the answer b. `steps s c r t`: asked c in s, the part below answers r and is in t.
abbrev pub Runs : {C S : Type 0} {R : C → Type 0} → (S → (c : C) → R c → S → Type 0) → {A : Type 0} → Flow C R A → S → S → A → Type 0
Runs steps (answer a) s u b = (s ≡ u) × (a ≡ b)
Runs {C} {S} {R} steps (ask c k) s u b = (r : R c) × (t : S) × steps s c r t × Runs steps (k r) t u b
Runs steps (when t p q) s u b = (Holds t → Runs steps p s u b) × (Fails t → Runs steps q s u b)
Runs steps (given {A} {B} o f q) s u b = ((x : B) → o ≡ Some x → Runs steps (f x) s u b) × (o ≡ None → Runs steps q s u b)
Runs {C} {S} {R} steps (first {A} {B} p k) s u b = (r : B) × (t : S) × Runs steps p s t r × Runs steps (k r) t u b

-- What a turn of a loop says: go on with a, or leave with b.
pub data Turn (A B : Type 0) : Type 0 where
  on : A → Turn A B
  out : B → Turn A B

module _ {C : Type 0} {R : C → Type 0} where
  -- n turns of f, from a
  unfoldable pub turns : {A : Type 0} → ℕ → (ℕ → A → Flow C R A) → A → Flow C R A
  turns zero f a = answer a
  turns (suc n) f a = first (turns n f a) (λ x. f n x)

  abbrev pub go : {A B : Type 0} → (A → Flow C R (Turn A B)) → Turn A B → Flow C R (Turn A B)
  go f (on x) = f x
  go f (out y) = answer (out y)

  -- at most n turns of f, from a: none after one that leaves
  unfoldable pub tries : {A B : Type 0} → ℕ → (ℕ → A → Flow C R (Turn A B)) → A → Flow C R (Turn A B)
  tries zero f a = answer (on a)
  tries (suc n) f a = first (tries n f a) (go (f n))

  abbrev pub past : {A B : Type 0} → (A → Flow C R B) → Turn A B → Flow C R B
  past k (on x) = k x
  past k (out y) = answer y

  -- a loop of at most n turns that a turn may leave; where none does, k goes on
  unfoldable pub loop : {A B : Type 0} → ℕ → (ℕ → A → Flow C R (Turn A B)) → A → (A → Flow C R B) → Flow C R B
  loop n f a k = first (tries n f a) (past k)
