-- Code that runs a flow plays the program that the flow is, and follows the plan.
-- Assumes nothing.
use Rattle.std.proofs.Common.{◌≡◌, true, false, Some, None, refl, subst}
use mathlib.Core.Path.{subst⁻¹}
use Rattle.std.proofs.lemmas.Bool.{ltb-true, ltb-false, leb-true, leb-false, eqb-true, eqb-false, cond_both}
use Rattle.device.specs.Program.{Io}
use Rattle.device.specs.Layer.{Plan, gives}
use Rattle.device.specs.Flow.{Test, lt, le, eq, is, Holds, Fails, Flow, answer, ask, when, given, first, Runs}
use Rattle.device.specs.Plays.{Asked, Read, Write, Sync, Told, Plays, Follows, decide, io_of, Replies, plan_then, plan_of, among, Flowing, FlowPlays}
use Rattle.device.proofs.Plays.{plays-then}

-- what a test decides is what holds or fails
holds : (t : Test) → decide t ≡ true → Holds t
holds (lt x y) e = ltb-true x y e
holds (le x y) e = leb-true x y e
holds (eq x y) e = eqb-true x y e
holds (is b) e = e

fails : (t : Test) → decide t ≡ false → Fails t
fails (lt x y) e = ltb-false x y e
fails (le x y) e = leb-false x y e
fails (eq x y) e = eqb-false x y e
fails (is b) e = e

module _ {S : Type 0} (steps : S → (c : Asked) → Told c → S → Type 0) where
  pub flow-plays : {A : Type 0} (p : Flow Asked Told A) (s u : S) (b : A) → Runs steps p s u b → Plays steps (io_of p) s u b
  unfolding io_of
  flow-plays (answer a) s u b r = subst (λ x. Plays steps (Io.answer a) s x b) r.0 (subst (λ x. Plays steps (Io.answer a) s s x) r.1 Plays.ends)
  flow-plays (ask (Read n) k) s u b r = Plays.reads r.2 (flow-plays (k r.0) r.1 u b r.3)
  flow-plays (ask (Write n bs) k) s u b r = Plays.writes r.2 (flow-plays (k tt) r.1 u b r.3)
  flow-plays (ask Sync k) s u b r = Plays.syncs r.2 (flow-plays (k tt) r.1 u b r.3)
  flow-plays (when t p q) s u b r =
      cond_both (decide t) (io_of p) (io_of q) (λ x. Plays steps x s u b) (λ e. flow-plays p s u b (r.0 (holds t e))) (λ e. flow-plays q s u b (r.1 (fails t e)))
  flow-plays (given (Some x) f q) s u b r = flow-plays (f x) s u b (r.0 x refl)
  flow-plays (given None f q) s u b r = flow-plays q s u b (r.1 refl)
  flow-plays (first p k) s u b r = plays-then (λ x. io_of (k x)) (flow-plays p s r.1 r.0 r.2) (flow-plays (k r.0) r.1 u b r.3)

-- one plan after another
pub follows_then : {S C R A B : Type 0} {goes : S → C → R → S → Type 0} {p : Plan C R A} (f : A → Plan C R B) {s t u : S} {a : A} {b : B} → Follows goes p s t a → Follows goes (f a) t u b → Follows goes (plan_then p f) s u b
unfolding plan_then
follows_then f Follows.ends r = r
follows_then f (Follows.calls x q) r = Follows.calls x (follows_then f q r)

module _ {C S Reply : Type 0} {R : C → Type 0} (w : Replies C R Reply) (steps : S → (c : C) → R c → S → Type 0) where
  pub flow-follows : {A : Type 0} (p : Flow C R A) (s u : S) (b : A) → Runs steps p s u b → Follows (among w steps) (plan_of w p) s u b
  unfolding plan_of
  flow-follows (answer a) s u b r = subst (λ x. Follows (among w steps) (gives a) s x b) r.0 (subst (λ x. Follows (among w steps) (gives a) s s x) r.1 Follows.ends)
  flow-follows (ask c k) s u b r =
      Follows.calls {r = w.put c r.0} (r.0, refl, r.2)
      (subst⁻¹ (λ x. Follows (among w steps) (plan_of w (k x)) r.1 u b) (w.back c r.0) (flow-follows (k r.0) r.1 u b r.3))
  flow-follows (when t p q) s u b r =
      cond_both (decide t) (plan_of w p) (plan_of w q) (λ x. Follows (among w steps) x s u b) (λ e. flow-follows p s u b (r.0 (holds t e))) (λ e. flow-follows q s u b (r.1 (fails t e)))
  flow-follows (given (Some x) f q) s u b r = flow-follows (f x) s u b (r.0 x refl)
  flow-follows (given None f q) s u b r = flow-follows q s u b (r.1 refl)
  flow-follows (first p k) s u b r = follows_then (λ x. plan_of w (k x)) (flow-follows p s r.1 r.0 r.2) (flow-follows (k r.0) r.1 u b r.3)

pub flow_plays_lem : (g : Flowing) → FlowPlays g
flow_plays_lem g = (λ s t a r. flow-plays g.steps g.on_device s t a r, λ s t a r. flow-follows g.replies g.goes g.on_part s t a r)
