-- What is read, as a sum over the calls made.
-- Assumes nothing.
use Rattle.std.proofs.Common.{◌≡◌, ℕ, ◌+◌, ◌≤◌, List, ◌∷◌, ap, arith}
use Rattle.device.specs.Sectors.{Device, shown, written, synced}
use Rattle.device.specs.Program.{Io, answer, read, write, sync, run, reads_of, and_then}
use Rattle.device.specs.Machine.{Machine, Event, called, on, Trace, Judge, Keeps}
use Rattle.device.specs.Layer.{Plan, gives, asks, Layer, through}
use Rattle.device.specs.Reads.{ReadsThen, asked, total, Costs, CallReads, OpenReads}
use Rattle.device.proofs.Layers.{calls_of, went, under}

pub reads_then_lem : (A B : Type 0) → ReadsThen A B
unfolding reads_of and_then run
reads_then_lem A B (answer a) f d = omega arith
reads_then_lem A B (read s k) f d = let h = reads_then_lem A B (k (shown d s)) f d in omega arith
reads_then_lem A B (write s b p) f d = reads_then_lem A B p f (written s b d)
reads_then_lem A B (sync p) f d = reads_then_lem A B p f (synced d)

-- naming the result reads nothing
pub reads-named : {A B : Type 0} (p : Io A) (f : A → B) (d : Device) → reads_of (and_then p (λ x. answer (f x))) d ≡ reads_of p d
unfolding reads_of
reads-named {A} {B} p f d = let h = reads_then_lem A B p (λ x. answer (f x)) d in omega arith

-- a plan reads at most what its calls cost
pub reads-through : {C R A : Type 0} (e : Machine C R) (size : ℕ) (cost : C → ℕ) → Costs e size cost → (p : Plan C R A) (es : List (Event C R)) (m : e.Mem) (d : Device) → Trace e size es (on m d) → reads_of (through e p m) d ≤ total cost (calls_of e p m d)
unfolding through reads_of total calls_of
reads-through e size cost all (gives a) es m d t = omega arith
reads-through e size cost all (asks c k) es m d t =
    let y = run (e.does c m) d in
    let one = all es m d t c in
    let more = reads-through e size cost all (k y.value.reply) (called c y.value.reply ∷ es) y.value.mem y.device (Trace.answered c t) in
    let both = reads_then_lem _ _ (e.does c m) (λ z. through e (k z.reply) z.mem) d in
    omega arith

-- a sum is the same over the same calls
at_most : {C : Type 0} (cost : C → ℕ) {a b : ℕ} {xs ys : List C} → a ≡ b → b ≤ total cost ys → xs ≡ ys → a ≤ total cost xs
at_most cost p h q = let same = ap (total cost) q in omega arith

at-most-after : {C : Type 0} (o : ℕ) (cost : C → ℕ) {a b x : ℕ} {xs ys : List C} → a ≡ o + x → x ≡ b → b ≤ total cost ys → xs ≡ ys → a ≤ o + total cost xs
at-most-after o cost r p h q = let same = ap (total cost) q in omega arith

module _ {C R C' R' : Type 0} (j : ℕ → Judge C R) (e : Machine C R) (l : Layer C R C' R') (cost : ℕ → C → ℕ) (keeps : Keeps j e) where
  pub call_reads : CallReads j e l cost
  call_reads size low high all es' m d t c =
      let q = under (j size) e l size t in
      let p = l.answers c m.above in
      let w = went (j size) e size p q.0 m.below d q.1 in
      let k = keeps size low high w.events _ w.trace in
      let b = w.back k.0 k.1 in
      let most = reads-through e size (cost size) all p q.0 m.below d q.1 in
      (b.0, k.0, _, b.2, q.2 b.0 b.1, at_most (cost size) {xs = asked b.2} (reads-named (through e p m.below) _ d) most b.3)

  pub open_reads : OpenReads j e l cost
  open_reads size low high all es' d t =
      let q = under (j size) e l size t in
      let y = run (e.opens size) d in
      let p = l.comes_up size in
      let w = went (j size) e size p q.0 y.value y.device (Trace.opened q.1) in
      let k = keeps size low high w.events _ w.trace in
      let b = w.back k.0 k.1 in
      let most = reads-through e size (cost size) all p q.0 y.value y.device (Trace.opened q.1) in
      (b.0, k.0, _, b.2, q.2 b.0 b.1, at-most-after (reads_of (e.opens size) d) (cost size) {xs = asked b.2} (reads_then_lem _ _ (e.opens size) _ d) (reads-named (through e p y.value) _ y.device) most b.3)
