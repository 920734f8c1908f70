-- How many sectors are read: by one program after another, by a plan, by a layer on a machine.
-- Assumes nothing.
use Rattle.std.specs.Prelude.{◌≡◌, ℕ, ◌+◌, ◌≤◌, List, [], ◌∷◌}
use Rattle.device.specs.Sectors.{Device}
use Rattle.device.specs.Program.{Io, run, reads_of, and_then}
use Rattle.device.specs.Machine.{Machine, Event, off, on, Trace, Judge}
use Rattle.device.specs.Layer.{Plan, Layer, over, Comes, down, up, Above}

-- one program after another reads what both read
abbrev pub ReadsThen : Type 0 → Type 0 → Type 0
ReadsThen A B = (p : Io A) (f : A → Io B) (d : Device) → reads_of (and_then p f) d ≡ reads_of p d + reads_of (f (run p d).value) (run p d).device

-- the calls that a plan makes, one after the other, on one way that a judge allows
unfoldable pub asked : {C R A : Type 0} {j : Judge C R} {p : Plan C R A} {s t : j.State} {a : A} → Comes j p s a t → List C
asked Comes.ends = []
asked (Comes.goes_on {c = c} x w) = c ∷ asked w

unfoldable pub total : {C : Type 0} → (C → ℕ) → List C → ℕ
total cost [] = 0
total cost (c ∷ cs) = cost c + total cost cs

-- no call of the machine reads more than it costs, whatever came before
abbrev pub Costs : {C R : Type 0} → Machine C R → (size : ℕ) → (C → ℕ) → Type 0
Costs {C} {R} e size cost = (es : List (Event C R)) (m : e.Mem) (d : Device) → Trace e size es (on m d) → (c : C) → reads_of (e.does c m) d ≤ cost c

-- then a layer on it reads at most what the calls cost that it makes, on some way that it may go above the judge
abbrev pub CallReads : {C R C' R' : Type 0} → (ℕ → Judge C R) → Machine C R → Layer C R C' R' → (ℕ → C → ℕ) → Type 0
CallReads {C} {R} {C'} {R'} j e l cost =
    (size : ℕ) → 8192 ≤ size → size ≤ 1099511627776 → Costs e size (cost size) → (es : List (Event C' R')) (m : (over e l).Mem) (d : Device) → Trace (over e l) size es (on m d) → (c : C') →
    (s : (j size).State) × (t : (j size).State) × (x : record { reply : R'; mem : l.Mem }) × (w : Comes (j size) (l.answers c m.above) s x t) × Above (j size) l size es (up m.above s) × (reads_of ((over e l).does c m) d ≤ total (cost size) (asked w))

abbrev pub OpenReads : {C R C' R' : Type 0} → (ℕ → Judge C R) → Machine C R → Layer C R C' R' → (ℕ → C → ℕ) → Type 0
OpenReads {C} {R} {C'} {R'} j e l cost =
    (size : ℕ) → 8192 ≤ size → size ≤ 1099511627776 → Costs e size (cost size) → (es : List (Event C' R')) (d : Device) → Trace (over e l) size es (off d) →
    (s : (j size).State) × (t : (j size).State) × (m : l.Mem) × (w : Comes (j size) (l.comes_up size) s m t) × Above (j size) l size es (down s) × (reads_of ((over e l).opens size) d ≤ reads_of (e.opens size) d + total (cost size) (asked w))
