-- One program after another: what it comes to, where it may be cut, what it touches and reads.
-- Assumes nothing.
use Rattle.std.proofs.Common.{◌≡◌, ℕ, ◌⊎◌, refl, inl, inr}
use Rattle.device.specs.Sectors.{Device, shown, written, synced}
use Rattle.device.specs.Program.{Io, answer, read, write, sync, run, Upto, Fair, and_then}

pub run-then : {A B : Type 0} (p : Io A) (f : A → Io B) (d : Device) → run (and_then p f) d ≡ run (f (run p d).value) (run p d).device
unfolding run and_then
run-then (answer a) f d = refl
run-then (read s k) f d = run-then (k (shown d s)) f d
run-then (write s b p) f d = run-then p f (written s b d)
run-then (sync p) f d = run-then p f (synced d)

-- a cut is in the first program or in the second
pub cut-then : {A B : Type 0} (p : Io A) (f : A → Io B) (d g : Device) → Upto (and_then p f) d g → Upto p d g ⊎ Upto (f (run p d).value) (run p d).device g
unfolding run and_then
cut-then (answer a) f d g u = inr u
cut-then (read s k) f d g Upto.here = inl Upto.here
cut-then (read s k) f d g (Upto.reads u) = elim (cut-then (k (shown d s)) f d g u) [ inl v ↦ inl (Upto.reads v) | inr v ↦ inr v ]
cut-then (write s b p) f d g Upto.here = inl Upto.here
cut-then (write s b p) f d g (Upto.writes u) = elim (cut-then p f (written s b d) g u) [ inl v ↦ inl (Upto.writes v) | inr v ↦ inr v ]
cut-then (sync p) f d g Upto.here = inl Upto.here
cut-then (sync p) f d g (Upto.syncs u) = elim (cut-then p f (synced d) g u) [ inl v ↦ inl (Upto.syncs v) | inr v ↦ inr v ]

pub at-end : {A : Type 0} {a : A} {d g : Device} → Upto (answer a) d g → d ≡ g
at-end Upto.here = refl

-- the end of a program is a place where it may be cut
pub whole : {A : Type 0} (p : Io A) (d : Device) → Upto p d (run p d).device
unfolding run
whole (answer a) d = Upto.here
whole (read s k) d = Upto.reads (whole (k (shown d s)) d)
whole (write s b p) d = Upto.writes (whole p (written s b d))
whole (sync p) d = Upto.syncs (whole p (synced d))

pub fair-then : {A B : Type 0} (size : ℕ) (f : A → Io B) {p : Io A} {d : Device} → Fair size p d → Fair size (f (run p d).value) (run p d).device → Fair size (and_then p f) d
unfolding run and_then
fair-then size f (Fair.ends a d) h = h
fair-then size f (Fair.reads i q) h = Fair.reads i (fair-then size f q h)
fair-then size f (Fair.writes i n b q) h = Fair.writes i n b (fair-then size f q h)
fair-then size f (Fair.syncs q) h = Fair.syncs (fair-then size f q h)
