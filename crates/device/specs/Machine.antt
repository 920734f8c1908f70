-- Machines on a device, everything that can happen to one, and judges of what may be seen of it.
-- Assumes nothing.
use Rattle.std.specs.Prelude.{ℕ, ◌≤◌, List, [], ◌∷◌}
use Rattle.device.specs.Sectors.{Device, blank_device, AfterCut}
use Rattle.device.specs.Program.{Io, run, Upto, Fair}

-- A part of the code: what it keeps in memory between calls, how it comes up on a device of so many sectors, what it does at a call.
pub record Machine (C R : Type 0) : Type 1 where
  pub Mem : Type 0
  pub opens : ℕ → Io Mem
  pub does : C → Mem → Io (record { reply : R; mem : Mem })

pub data Event (C R : Type 0) : Type 0 where
  called : C → R → Event C R
  -- the power fails in the midst of a call, between calls, while the machine comes up
  cut_in : C → Event C R
  cut_between : Event C R
  cut_opening : Event C R

pub data World {C R : Type 0} (e : Machine C R) : Type 0 where
  off : Device → World e
  on : e.Mem → Device → World e

-- Everything that can happen from a blank device on, the latest event first.
pub data Trace {C R : Type 0} (e : Machine C R) (size : ℕ) : List (Event C R) → World e → Type 0 where
  begin : Trace e size [] (off blank_device)
  opened : {es : List (Event C R)} {d : Device} → Trace e size es (off d) → Trace e size es (on (run (e.opens size) d).value (run (e.opens size) d).device)
  opening_cut : {es : List (Event C R)} {d f g : Device} → Trace e size es (off d) → Upto (e.opens size) d f → AfterCut f g → Trace e size (cut_opening ∷ es) (off g)
  answered : {es : List (Event C R)} {m : e.Mem} {d : Device} (c : C) → Trace e size es (on m d) →
      Trace e size (called c (run (e.does c m) d).value.reply ∷ es) (on (run (e.does c m) d).value.mem (run (e.does c m) d).device)
  call_cut : {es : List (Event C R)} {m : e.Mem} {d f g : Device} (c : C) → Trace e size es (on m d) → Upto (e.does c m) d f → AfterCut f g → Trace e size (cut_in c ∷ es) (off g)
  between_cut : {es : List (Event C R)} {m : e.Mem} {d g : Device} → Trace e size es (on m d) → AfterCut d g → Trace e size (cut_between ∷ es) (off g)

-- What a part is to be: its states, what a call may answer and leave, and what is left of a state when the power fails.
pub record Judge (C R : Type 0) : Type 1 where
  pub State : Type 0
  pub start : State
  pub Answers : C → State → R → State → Type 0
  pub Down : State → State → Type 0

-- What may be seen. A call that was cut either never was, or was done.
pub data Allowed {C R : Type 0} (j : Judge C R) : List (Event C R) → j.State → Type 0 where
  at_start : Allowed j [] j.start
  answers : {es : List (Event C R)} {s t : j.State} {k : C} {r : R} → Allowed j es s → j.Answers k s r t → Allowed j (called k r ∷ es) t
  was_lost : {es : List (Event C R)} {s u : j.State} {k : C} → Allowed j es s → j.Down s u → Allowed j (cut_in k ∷ es) u
  was_done : {es : List (Event C R)} {s t u : j.State} {k : C} {r : R} → Allowed j es s → j.Answers k s r t → j.Down t u → Allowed j (cut_in k ∷ es) u
  came_between : {es : List (Event C R)} {s u : j.State} → Allowed j es s → j.Down s u → Allowed j (cut_between ∷ es) u
  came_opening : {es : List (Event C R)} {s u : j.State} → Allowed j es s → j.Down s u → Allowed j (cut_opening ∷ es) u

-- On any device of 4 MiB to 512 TiB, everything that is ever seen is allowed.
abbrev pub Keeps : {C R : Type 0} → (ℕ → Judge C R) → Machine C R → Type 0
Keeps {C} {R} j e = (size : ℕ) → 8192 ≤ size → size ≤ 1099511627776 → (es : List (Event C R)) (w : World e) → Trace e size es w → (s : (j size).State) × Allowed (j size) es s

-- And nothing is touched but the device.
abbrev pub Within : {C R : Type 0} → Machine C R → Type 0
Within {C} {R} e =
    (size : ℕ) → 8192 ≤ size → size ≤ 1099511627776 →
    ((es : List (Event C R)) (d : Device) → Trace e size es (off d) → Fair size (e.opens size) d) × ((es : List (Event C R)) (m : e.Mem) (d : Device) → Trace e size es (on m d) → (c : C) → Fair size (e.does c m) d)
