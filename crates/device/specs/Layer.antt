-- Layers: a part that asks the one below it, call by call, and nothing else.
-- Assumes nothing.
use Rattle.std.specs.Prelude.{ℕ, ◌≤◌, List, [], ◌∷◌}
use Rattle.device.specs.Program.{Io, answer, and_then}
use Rattle.device.specs.Machine.{Machine, Event, called, cut_in, cut_between, cut_opening, Judge, Allowed, Keeps, Within}

-- calls of the part below, each chosen by the replies before it
pub data Plan (C R A : Type 0) : Type 0 where
  gives : A → Plan C R A
  asks : C → (R → Plan C R A) → Plan C R A

pub record Layer (C R C' R' : Type 0) : Type 1 where
  pub Mem : Type 0
  pub comes_up : ℕ → Plan C R Mem
  pub answers : C' → Mem → Plan C R (record { reply : R'; mem : Mem })

-- a plan, carried out by a machine
unfoldable pub through : {C R A : Type 0} → (e : Machine C R) → Plan C R A → e.Mem → Io (record { value : A; below : e.Mem })
through e (gives a) m = answer (record { value = a; below = m })
through e (asks c k) m = and_then (e.does c m) (λ x. through e (k x.reply) x.mem)

-- the machine of a layer on a machine
abbrev pub over : {C R C' R' : Type 0} → Machine C R → Layer C R C' R' → Machine C' R'
over {C} {R} {C'} {R'} e l =
    record {
      Mem = record { below : e.Mem; above : l.Mem };
      opens = λ size. and_then (e.opens size) (λ m. and_then (through e (l.comes_up size) m) (λ x. answer (record { below = x.below; above = x.value })));
      does = λ c m. and_then (through e (l.answers c m.above) m.below) (λ x. answer (record { reply = x.value.reply; mem = record { below = x.below; above = x.value.mem } }));
    }

-- what a plan may come to, if all that it asks is answered as a judge allows; and where it may be cut
pub data Comes {C R A : Type 0} (j : Judge C R) : Plan C R A → j.State → A → j.State → Type 0 where
  ends : {a : A} {s : j.State} → Comes j (gives a) s a s
  goes_on : {c : C} {k : R → Plan C R A} {r : R} {a : A} {s t u : j.State} → j.Answers c s r t → Comes j (k r) t a u → Comes j (asks c k) s a u

pub data CutShort {C R A : Type 0} (j : Judge C R) : Plan C R A → j.State → j.State → Type 0 where
  at_once : {p : Plan C R A} {s u : j.State} → j.Down s u → CutShort j p s u
  in_call : {c : C} {k : R → Plan C R A} {r : R} {s t u : j.State} → j.Answers c s r t → j.Down t u → CutShort j (asks c k) s u
  later : {c : C} {k : R → Plan C R A} {r : R} {s t u : j.State} → j.Answers c s r t → CutShort j (k r) t u → CutShort j (asks c k) s u

pub data Stand {C R C' R' : Type 0} (j : Judge C R) (l : Layer C R C' R') : Type 0 where
  down : j.State → Stand j l
  up : l.Mem → j.State → Stand j l

-- Everything that can happen to a layer above a part that keeps to its judge.
pub data Above {C R C' R' : Type 0} (j : Judge C R) (l : Layer C R C' R') (size : ℕ) : List (Event C' R') → Stand j l → Type 0 where
  first : Above j l size [] (down j.start)
  rises : {es : List (Event C' R')} {m : l.Mem} {s t : j.State} → Above j l size es (down s) → Comes j (l.comes_up size) s m t → Above j l size es (up m t)
  rise_cut : {es : List (Event C' R')} {s u : j.State} → Above j l size es (down s) → CutShort j (l.comes_up size) s u → Above j l size (cut_opening ∷ es) (down u)
  does : {es : List (Event C' R')} {m : l.Mem} {s t : j.State} (c : C') (x : record { reply : R'; mem : l.Mem }) → Above j l size es (up m s) → Comes j (l.answers c m) s x t → Above j l size (called c x.reply ∷ es) (up x.mem t)
  does_cut : {es : List (Event C' R')} {m : l.Mem} {s u : j.State} (c : C') → Above j l size es (up m s) → CutShort j (l.answers c m) s u → Above j l size (cut_in c ∷ es) (down u)
  cut : {es : List (Event C' R')} {m : l.Mem} {s u : j.State} → Above j l size es (up m s) → j.Down s u → Above j l size (cut_between ∷ es) (down u)

abbrev pub KeepsAbove : {C R C' R' : Type 0} → (ℕ → Judge C R) → (ℕ → Judge C' R') → Layer C R C' R' → Type 0
KeepsAbove {C} {R} {C'} {R'} j j' l =
    (size : ℕ) → 8192 ≤ size → size ≤ 1099511627776 → (es : List (Event C' R')) (w : Stand (j size) l) → Above (j size) l size es w → (s : (j' size).State) × Allowed (j' size) es s

-- A layer that is right above a judge is right above every machine that keeps to it.
abbrev pub LayersCompose : Type 1
LayersCompose =
    (C R C' R' : Type 0) (j : ℕ → Judge C R) (j' : ℕ → Judge C' R') (e : Machine C R) (l : Layer C R C' R') → Keeps j e → KeepsAbove j j' l → Keeps j' (over e l)

-- A layer on a machine that touches nothing but the device touches nothing but the device.
abbrev pub WithinOver : Type 1
WithinOver = (C R C' R' : Type 0) (e : Machine C R) (l : Layer C R C' R') → Within e → Within (over e l)
