-- A layer on a machine: each of its traces is one of the machine below, and what a judge allows of that is what the layer may meet.
-- Assumes nothing.
use Rattle.std.proofs.Common.{◌≡◌, ℕ, List, [], ◌∷◌, sym, refl, ap, ◌∙◌, subst, inl, inr}
use Rattle.device.specs.Sectors.{Device, AfterCut}
use Rattle.device.specs.Program.{Io, answer, Ran, run, Upto, Fair, and_then}
use Rattle.device.specs.Machine.{Machine, Event, called, cut_in, cut_between, cut_opening, World, off, on, Trace, Judge, Allowed}
use Rattle.device.specs.Layer.{Plan, gives, asks, Layer, through, over, Comes, CutShort, down, up, Above, LayersCompose, WithinOver}
use Rattle.device.specs.Reads.{asked}
use Rattle.device.proofs.Programs.{run-then, cut-then, at-end, whole, fair-then}

-- the calls that a plan makes of the machine below
unfoldable pub calls_of : {C R A : Type 0} → (e : Machine C R) → Plan C R A → e.Mem → Device → List C
calls_of e (gives a) m d = []
calls_of e (asks c k) m d = c ∷ calls_of e (k (run (e.does c m) d).value.reply) (run (e.does c m) d).value.mem (run (e.does c m) d).device

-- what was allowed before the latest event
module _ {C R : Type 0} {j : Judge C R} where
  before-begin : {s : j.State} → Allowed j [] s → j.start ≡ s
  before-begin Allowed.at_start = refl

  before-call : {es : List (Event C R)} {c : C} {r : R} {t : j.State} → Allowed j (called c r ∷ es) t → (s : j.State) × Allowed j es s × j.Answers c s r t
  before-call (Allowed.answers {s = s} h a) = (s, h, a)

  before-cut : {es : List (Event C R)} {u : j.State} → Allowed j (cut_between ∷ es) u → (s : j.State) × Allowed j es s × j.Down s u
  before-cut (Allowed.came_between {s = s} h a) = (s, h, a)

  before-opening : {es : List (Event C R)} {u : j.State} → Allowed j (cut_opening ∷ es) u → (s : j.State) × Allowed j es s × j.Down s u
  before-opening (Allowed.came_opening {s = s} h a) = (s, h, a)

  before-cut_in : {A : Type 0} {es : List (Event C R)} {c : C} {u : j.State} (k : R → Plan C R A) → Allowed j (cut_in c ∷ es) u → (s : j.State) × Allowed j es s × CutShort j (asks c k) s u
  before-cut_in k (Allowed.was_lost {s = s} h x) = (s, h, CutShort.at_once x)
  before-cut_in k (Allowed.was_done {s = s} h a x) = (s, h, CutShort.in_call a x)

module _ {C R : Type 0} (j : Judge C R) (e : Machine C R) (size : ℕ) where
  abbrev pub Done : Type 0 → Type 0
  Done A = Ran (record { value : A; below : e.Mem })

  -- a plan came to x after the events es: more events of the machine below, and each state they may leave is one that the plan may come to
  pub record Went {A : Type 0} (es : List (Event C R)) (p : Plan C R A) (cs : List C) (x : Done A) : Type 0 where
    pub events : List (Event C R)
    pub trace : Trace e size events (on x.value.below x.device)
    pub back : (t : j.State) → Allowed j events t → (s : j.State) × Allowed j es s × (w : Comes j p s x.value.value t) × (asked w ≡ cs)

  pub went : {A : Type 0} (p : Plan C R A) (es : List (Event C R)) (m : e.Mem) (d : Device) → Trace e size es (on m d) → Went es p (calls_of e p m d) (run (through e p m) d)
  unfolding through run calls_of asked
  went (gives a) es m d t = record { events = es; trace = t; back = λ s h. (s, h, Comes.ends, refl) }
  went (asks c k) es m d t =
      let y = run (e.does c m) d in
      let w = went (k y.value.reply) (called c y.value.reply ∷ es) y.value.mem y.device (Trace.answered c t) in
      subst (λ x. Went es (asks c k) (calls_of e (asks c k) m d) x) (sym (run-then (e.does c m) (λ x. through e (k x.reply) x.mem) d))
      (record {
        events = w.events;
        trace = w.trace;
        back = λ u h.
            let b = w.back u h in
            let a = before-call b.1 in
            (a.0, a.1, Comes.goes_on a.2 b.2, ap (λ cs. c ∷ cs) b.3);
      })

  -- a plan was cut
  pub record Broke {A : Type 0} (es : List (Event C R)) (p : Plan C R A) (g : Device) : Type 0 where
    pub events : List (Event C R)
    pub trace : Trace e size events (off g)
    pub back : (u : j.State) → Allowed j events u → (s : j.State) × Allowed j es s × CutShort j p s u

  pub broke : {A : Type 0} (p : Plan C R A) (es : List (Event C R)) (m : e.Mem) (d f g : Device) → Trace e size es (on m d) → Upto (through e p m) d f → AfterCut f g → Broke es p g
  unfolding through
  broke (gives a) es m d f g t u x =
      record {
        events = cut_between ∷ es;
        trace = Trace.between_cut t (subst (λ z. AfterCut z g) (sym (at-end u)) x);
        back = λ v h. let b = before-cut h in (b.0, b.1, CutShort.at_once b.2);
      }
  broke (asks c k) es m d f g t u x =
      let y = run (e.does c m) d in
      elim (cut-then (e.does c m) (λ z. through e (k z.reply) z.mem) d f u) [
        | inl v ↦ record { events = cut_in c ∷ es; trace = Trace.call_cut c t v x; back = λ w h. before-cut_in k h }
        | inr v ↦
            let b = broke (k y.value.reply) (called c y.value.reply ∷ es) y.value.mem y.device f g (Trace.answered c t) v x in
            record {
              events = b.events;
              trace = b.trace;
              back = λ w h.
                  let q = b.back w h in
                  let a = before-call q.1 in
                  (a.0, a.1, CutShort.later a.2 q.2);
            }
      ]

-- a cut in what only names the result is a cut in the plan
pub cut-named : {A B : Type 0} (p : Io A) (f : A → B) (d g : Device) → Upto (and_then p (λ x. answer (f x))) d g → Upto p d g
cut-named p f d g u = elim (cut-then p (λ x. answer (f x)) d g u) [ inl v ↦ v | inr v ↦ subst (λ z. Upto p d z) (at-end v) (whole p d) ]

pub run-named : {A B : Type 0} (p : Io A) (f : A → B) (d : Device) → run (and_then p (λ x. answer (f x))) d ≡ record { value = f (run p d).value; device = (run p d).device }
unfolding run
run-named p f d = run-then p (λ x. answer (f x)) d

module _ {C R C' R' : Type 0} (j : Judge C R) (e : Machine C R) (l : Layer C R C' R') (size : ℕ) where
  -- what a trace of the layer on the machine is of the machine, and above the judge
  abbrev pub Under : List (Event C' R') → World (over e l) → Type 0
  Under es' (off d) = (es : List (Event C R)) × Trace e size es (off d) × ((s : j.State) → Allowed j es s → Above j l size es' (down s))
  Under es' (on m d) = (es : List (Event C R)) × Trace e size es (on m.below d) × ((s : j.State) → Allowed j es s → Above j l size es' (up m.above s))

  pub under : {es' : List (Event C' R')} {w : World (over e l)} → Trace (over e l) size es' w → Under es' w
  under Trace.begin = ([], Trace.begin, λ s h. subst (λ z. Above j l size [] (down z)) (before-begin h) Above.first)
  under (Trace.opened {es = es'} {d = d} t) =
      let q = under t in
      let y = run (e.opens size) d in
      let w = went j e size (l.comes_up size) q.0 y.value y.device (Trace.opened q.1) in
      subst (λ x. Under es' (on x.value x.device)) (sym (run-then (e.opens size) _ d ∙ run-named (through e (l.comes_up size) y.value) _ y.device))
      (w.events, w.trace, λ s h. let b = w.back s h in Above.rises (q.2 b.0 b.1) b.2)
  under (Trace.opening_cut {es = es'} {d = d} {f = f} {g = g} t u x) =
      let q = under t in
      let y = run (e.opens size) d in
      elim (cut-then (e.opens size) _ d f u) [
        | inl v ↦ (cut_opening ∷ q.0, Trace.opening_cut q.1 v x, λ s h. let b = before-opening h in Above.rise_cut (q.2 b.0 b.1) (CutShort.at_once b.2))
        | inr v ↦
            let b = broke j e size (l.comes_up size) q.0 y.value y.device f g (Trace.opened q.1) (cut-named (through e (l.comes_up size) y.value) _ y.device f v) x in
            (b.events, b.trace, λ s h. let k = b.back s h in Above.rise_cut (q.2 k.0 k.1) k.2)
      ]
  under (Trace.answered {es = es'} {m = m} {d = d} c t) =
      let q = under t in
      let w = went j e size (l.answers c m.above) q.0 m.below d q.1 in
      subst (λ (x : Ran (record { reply : R'; mem : record { below : e.Mem; above : l.Mem } })). Under (called c x.value.reply ∷ es') (on x.value.mem x.device)) (sym (run-named (through e (l.answers c m.above) m.below) _ d))
      (w.events, w.trace, λ s h. let b = w.back s h in Above.does c _ (q.2 b.0 b.1) b.2)
  under (Trace.call_cut {es = es'} {m = m} {d = d} {f = f} {g = g} c t u x) =
      let q = under t in
      let b = broke j e size (l.answers c m.above) q.0 m.below d f g q.1 (cut-named (through e (l.answers c m.above) m.below) _ d f u) x in
      (b.events, b.trace, λ s h. let k = b.back s h in Above.does_cut c (q.2 k.0 k.1) k.2)
  under (Trace.between_cut t x) =
      let q = under t in
      (cut_between ∷ q.0, Trace.between_cut q.1 x, λ s h. let b = before-cut h in Above.cut (q.2 b.0 b.1) b.2)

pub layers_compose_lem : LayersCompose
layers_compose_lem C R C' R' j j' e l keeps above size low high es' w t = stands w (under (j size) e l size t)
  where
    stands : (v : World (over e l)) → Under (j size) e l size es' v → (s : (j' size).State) × Allowed (j' size) es' s
    stands (off d) q = let k = keeps size low high q.0 _ q.1 in above size low high es' _ (q.2 k.0 k.1)
    stands (on m d) q = let k = keeps size low high q.0 _ q.1 in above size low high es' _ (q.2 k.0 k.1)

-- a judge that allows everything: under it, `under` says only what trace of the machine below there is
lax : (C R : Type 0) → Judge C R
lax C R = record { State = Unit; start = tt; Answers = λ c s r t. Unit; Down = λ s t. Unit }

-- a plan touches nothing but the device if no call does
pub fair-through : {C R A : Type 0} (e : Machine C R) (size : ℕ) → ((es : List (Event C R)) (m : e.Mem) (d : Device) → Trace e size es (on m d) → (c : C) → Fair size (e.does c m) d) → (p : Plan C R A) (es : List (Event C R)) (m : e.Mem) (d : Device) → Trace e size es (on m d) → Fair size (through e p m) d
unfolding through
fair-through e size all (gives a) es m d t = Fair.ends _ d
fair-through e size all (asks c k) es m d t =
    let y = run (e.does c m) d in
    fair-then size (λ z. through e (k z.reply) z.mem) (all es m d t c) (fair-through e size all (k y.value.reply) (called c y.value.reply ∷ es) y.value.mem y.device (Trace.answered c t))

pub within_over_lem : WithinOver
within_over_lem C R C' R' e l within size low high =
    let h = within size low high in (
      λ es' d t.
          let q = under (lax C R) e l size t in
          let y = run (e.opens size) d in
          fair-then size _ (h.0 q.0 d q.1) (fair-then size _ (fair-through e size h.1 (l.comes_up size) q.0 y.value y.device (Trace.opened q.1)) (Fair.ends _ _)),
      λ es' m d t c.
          let q = under (lax C R) e l size t in
          fair-then size _ (fair-through e size h.1 (l.answers c m.above) q.0 m.below d q.1) (Fair.ends _ _),
    )
