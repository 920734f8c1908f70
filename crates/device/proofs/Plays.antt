-- What is played on a device: joined, through a store, and on an honest device.
-- Assumes nothing.
use Rattle.std.proofs.Common.{◌≡◌, ◌∷◌, refl, subst, subst₂}
use Rattle.device.specs.Sectors.{shown, written, synced}
use Rattle.device.specs.Program.{Io, answer, read, write, sync, run, and_then}
use Rattle.device.specs.Machine.{Machine, called, on, Trace}
use Rattle.device.specs.Layer.{Plan, Layer, through}
use Rattle.device.specs.Plays.{Asked, Told, Plays, Follows, Store, PlaysCalls, PlaysThrough, PlaysOver, stacked, honest, HonestRuns, HonestPlays, PlaysTrace, Showing, ShownRuns}

-- one program after another
pub plays-then : {S A B : Type 0} {steps : S → (c : Asked) → Told c → S → Type 0} {p : Io A} (f : A → Io B) {s t u : S} {a : A} {b : B} → Plays steps p s t a → Plays steps (f a) t u b → Plays steps (and_then p f) s u b
unfolding and_then
plays-then f Plays.ends r = r
plays-then f (Plays.reads x q) r = Plays.reads x (plays-then f q r)
plays-then f (Plays.writes x q) r = Plays.writes x (plays-then f q r)
plays-then f (Plays.syncs x q) r = Plays.syncs x (plays-then f q r)

-- a plan over a store whose calls play what a machine does: what it plays on the device that the store is on
pub plays-through : {S T C R A : Type 0} (e : Machine C R) {steps : S → (c : Asked) → Told c → S → Type 0} {goes : T → C → R → T → Type 0} (dev : T → S) (mem : T → e.Mem) →
    ((c : C) (r : R) (s t : T) → goes s c r t → Plays steps (e.does c (mem s)) (dev s) (dev t) (record { reply = r; mem = mem t })) →
    {p : Plan C R A} {s t : T} {a : A} → Follows goes p s t a → Plays steps (through e p (mem s)) (dev s) (dev t) (record { value = a; below = mem t })
unfolding through
plays-through e dev mem all Follows.ends = Plays.ends
plays-through e dev mem all (Follows.calls {c = c} {k = k} {r = r} {s = s} {t = v} x q) = plays-then (λ z. through e (k z.reply) z.mem) (all c r s v x) (plays-through e dev mem all q)

module _ (g : Store) (all : PlaysCalls g) where
  pub plays_through : (A : Type 0) → PlaysThrough g A
  plays_through A p s t a q = plays-through g.below g.dev g.mem all q

  pub plays_over : {C' R' : Type 0} (l : Layer g.C g.R C' R') → PlaysOver g l
  plays_over l = (
    λ size d s t m up q. plays-then _ up (plays-then _ (plays_through _ (l.comes_up size) s t m q) Plays.ends),
    λ c m s t x q. plays-then _ (plays_through _ (l.answers c m) s t x q) Plays.ends,
  )

  pub plays_stacked : {C' R' : Type 0} (l : Layer g.C g.R C' R') → PlaysCalls (stacked g l)
  plays_stacked l c r s t q = (plays_over l).1 c s.above s.store t.store (record { reply = r; mem = t.above }) q

pub honest_runs_lem : (A : Type 0) → HonestRuns A
unfolding run
honest_runs_lem A p d t a Plays.ends = refl
honest_runs_lem A p d t a (Plays.reads {k = k} {bs = bs} {t = v} x q) = subst₂ (λ b e. run (k b) e ≡ record { value = a; device = t }) x.0 x.1 (honest_runs_lem A (k bs) v t a q)
honest_runs_lem A p d t a (Plays.writes {p = p'} {t = v} x q) = subst (λ e. run p' e ≡ record { value = a; device = t }) x (honest_runs_lem A p' v t a q)
honest_runs_lem A p d t a (Plays.syncs {p = p'} {t = v} x q) = subst (λ e. run p' e ≡ record { value = a; device = t }) x (honest_runs_lem A p' v t a q)

pub honest_plays : (A : Type 0) → HonestPlays A
unfolding run
honest_plays A (answer a) d = Plays.ends
honest_plays A (read n k) d = Plays.reads (refl, refl) (honest_plays A (k (shown d n)) d)
honest_plays A (write n b p) d = Plays.writes refl (honest_plays A p (written n b d))
honest_plays A (sync p) d = Plays.syncs refl (honest_plays A p (synced d))

-- what a device is played with, what it shows is played with
pub shows : {S T A : Type 0} {from : S → (c : Asked) → Told c → S → Type 0} (to : T → (c : Asked) → Told c → T → Type 0) (view : S → T) → ((s t : S) (c : Asked) (r : Told c) → from s c r t → to (view s) c r (view t)) → {p : Io A} {s t : S} {a : A} → Plays from p s t a → Plays to p (view s) (view t) a
shows to view all Plays.ends = Plays.ends
shows to view all (Plays.reads x q) = Plays.reads (all _ _ _ _ x) (shows to view all q)
shows to view all (Plays.writes x q) = Plays.writes (all _ _ _ _ x) (shows to view all q)
shows to view all (Plays.syncs x q) = Plays.syncs (all _ _ _ _ x) (shows to view all q)

pub shown_runs_lem : (v : Showing) (A : Type 0) → ShownRuns v A
shown_runs_lem v A all p s t a q = honest_runs_lem A p (v.view s) (v.view t) a (shows honest v.view all q)

pub plays_trace_lem : {C R : Type 0} (e : Machine C R) → PlaysTrace e
plays_trace_lem e = (
  λ size es d t m h q. subst (λ x. Trace e size es (on x.value x.device)) (honest_runs_lem _ (e.opens size) d t m q) (Trace.opened h),
  λ size es d t c r m n h q. subst (λ x. Trace e size (called c x.value.reply ∷ es) (on x.value.mem x.device)) (honest_runs_lem _ (e.does c m) d t _ q) (Trace.answered c h),
)
