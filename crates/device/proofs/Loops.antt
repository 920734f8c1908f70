-- Loops of a flow: what a loop's invariant says, and its steps; and the two ways through a test.
-- Assumes nothing.
use Rattle.std.proofs.Common.{◌≡◌, ℕ, zero, suc, ◌+◌, ◌-◌, ◌<◌, true, false, Some, None, Option, refl, suc-add, zero-add, add-one, arith}
use borrow.Author.Tests.{both_ways}
use Rattle.device.specs.Flow.{Test, lt, le, eq, is, Holds, Fails, Flow, Runs, Turn, on, out, turns, tries, loop}

stays : (C S A B : Type 0) (R : C → Type 0) (steps : S → (c : C) → R c → S → Type 0) (f : ℕ → A → Flow C R (Turn A B)) (a : A) (i k : ℕ) (s t : S) (y : B) → Runs steps (tries i f a) s t (out y) → Runs steps (tries (k + i) f a) s t (out y)
unfolding tries
stays C S A B R steps f a i zero s t y p = rw zero-add p
stays C S A B R steps f a i (suc k) s t y p = rw suc-add (out y, t, stays C S A B R steps f a i k s t y p, (refl, refl))

-- the two ways through a `when`, for an answer that is written out
clash : (t : Test) → Holds t → Fails t → ⊥
clash (lt x y) h k = omega arith
clash (le x y) h k = omega arith
clash (eq x y) h k = k h
clash (is b) h k = let z : true ≡ false = cc in elim (both_ways true z refl) [ ]

pub taken : (t : Test) {P Q : Type 0} → Holds t → P → (Holds t → P) × (Fails t → Q)
taken t h p = (λ _. p, λ k. elim (clash t h k) [ ])

pub left : (t : Test) {P Q : Type 0} → Fails t → Q → (Holds t → P) × (Fails t → Q)
left t k q = (λ h. elim (clash t h k) [ ], λ _. q)

-- what is no option's value is no case
pub never-some : {B : Type 0} {o : Option B} {x : B} → None ≡ o → o ≡ Some x → ⊥
never-some e h = let z : ◌≡◌ {A = ℕ} 0 1 = cc in omega arith

-- A loop under way: i turns of f, from a at s, have come to x at t. The two are what a loop's invariant says.
pub record Turned {C S A : Type 0} {R : C → Type 0} (steps : S → (c : C) → R c → S → Type 0) (f : ℕ → A → Flow C R A) (a : A) (s : S) (i : ℕ) (t : S) (x : A) : Type 0 where
  pub run : Runs steps (turns i f a) s t x

pub record Tried {C S A B : Type 0} {R : C → Type 0} (steps : S → (c : C) → R c → S → Type 0) (f : ℕ → A → Flow C R (Turn A B)) (a : A) (s : S) (i : ℕ) (t : S) (x : A) : Type 0 where
  pub run : Runs steps (tries i f a) s t (on x)

module _ {C S : Type 0} {R : C → Type 0} {steps : S → (c : C) → R c → S → Type 0} where
  module _ {A : Type 0} {f : ℕ → A → Flow C R A} {a : A} where
    pub no-turn : {b : A} {s : S} → a ≡ b → Turned steps f a s 0 s b
    unfolding turns
    no-turn e = record { run = (refl, e) }

    pub turn : {i : ℕ} {s t u : S} {x y : A} → Turned steps f a s i t x → Runs steps (f i x) t u y → Turned steps f a s (i + 1) u y
    unfolding turns
    turn p q = record { run = rw add-one (_, _, p.run, q) }

    pub all-turns : {i : ℕ} {s t : S} {x : A} (n : ℕ) (y : A) → Turned steps f a s i t x → i ≡ n → x ≡ y → Runs steps (turns n f a) s t y
    all-turns n y p e d = rw (← e, ← d) p.run

  module _ {A B : Type 0} {f : ℕ → A → Flow C R (Turn A B)} {a : A} where
    pub no-try : {b : A} {s : S} → a ≡ b → Tried steps f a s 0 s b
    unfolding tries
    no-try e = record { run = rw e (refl, refl) }

    pub try-on : {i : ℕ} {s t u : S} {x y : A} → Tried steps f a s i t x → Runs steps (f i x) t u (on y) → Tried steps f a s (i + 1) u y
    unfolding tries
    try-on p q = record { run = rw add-one (_, _, p.run, q) }

    pub leaves : {i : ℕ} {s t : S} {x : A} (n : ℕ) (k : A → Flow C R B) (u : S) (y : B) → Tried steps f a s i t x → i < n → Runs steps (f i x) t u (out y) → Runs steps (loop n f a k) s u y
    unfolding loop tries
    leaves {i} {s} {t} {x} n k u y p h q =
        let e : n ≡ (n - (i + 1)) + (i + 1) = omega arith in
        let z : Runs steps (tries (i + 1) f a) s u (out y) = rw add-one (on x, t, p.run, q) in
        (out y, u, rw e (stays C S A B R steps f a (i + 1) (n - (i + 1)) s u y z), (refl, refl))

    pub lasts : {i : ℕ} {s t : S} {x : A} (n : ℕ) (k : A → Flow C R B) (u : S) (y : B) → Tried steps f a s i t x → i ≡ n → Runs steps (k x) t u y → Runs steps (loop n f a k) s u y
    unfolding loop
    lasts {i} {s} {t} {x} n k u y p e q = (on x, t, rw (← e) p.run, q)
