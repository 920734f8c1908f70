-- What code that asks a device, or a part on it, comes to: the relations of contracts, and how a flow of the code is a program on the device.
-- Assumes nothing.
use Rattle.std.specs.Prelude.{◌≡◌, ℕ, Bool, cond, List, ◌∷◌, Some, None, Option, ◌==◌, nat_le, nat_lt}
use Rattle.device.specs.Sectors.{Device, shown, written, synced}
use Rattle.device.specs.Program.{Io, run, and_then}
use Rattle.device.specs.Machine.{Machine, Event, called, off, on, Trace}
use Rattle.device.specs.Layer.{Plan, gives, asks, Layer, through, over}
use Rattle.device.specs.Flow.{Test, lt, le, eq, is, Flow, answer, ask, when, given, first, Runs}

-- what a device may be asked, and what it tells
pub data Asked : Type 0 where
  Read : ℕ → Asked
  Write : ℕ → List ℕ → Asked
  Sync : Asked

abbrev pub Told : Asked → Type 0
Told (Read n) = List ℕ
Told (Write n bs) = Unit {0}
Told Sync = Unit {0}

-- a program, played on a device in a state, leaves a state and answers
pub data Plays {S A : Type 0} (steps : S → (c : Asked) → Told c → S → Type 0) : Io A → S → S → A → Type 0 where
  ends : {a : A} {s : S} → Plays steps (Io.answer a) s s a
  reads : {n : ℕ} {k : List ℕ → Io A} {bs : List ℕ} {s t u : S} {a : A} → steps s (Read n) bs t → Plays steps (k bs) t u a → Plays steps (Io.read n k) s u a
  writes : {n : ℕ} {p : Io A} {bs : List ℕ} {s t u : S} {a : A} → steps s (Write n bs) tt t → Plays steps p t u a → Plays steps (Io.write n bs p) s u a
  syncs : {p : Io A} {s t u : S} {a : A} → steps s Sync tt t → Plays steps p t u a → Plays steps (Io.sync p) s u a

-- a plan, followed on a part in a state, leaves a state and gives
pub data Follows {S C R A : Type 0} (goes : S → C → R → S → Type 0) : Plan C R A → S → S → A → Type 0 where
  ends : {a : A} {s : S} → Follows goes (gives a) s s a
  calls : {c : C} {k : R → Plan C R A} {r : R} {s t u : S} {a : A} → goes s c r t → Follows goes (k r) t u a → Follows goes (asks c k) s u a

-- FLOWS AS PROGRAMS. The tests of a flow are decided.
abbrev pub decide : Test → Bool
decide (lt x y) = nat_lt x y
decide (le x y) = nat_le x y
decide (eq x y) = x == y
decide (is b) = b

abbrev pub if_some : {A B : Type 0} → Option B → (B → A) → A → A
if_some (Some x) f a = f x
if_some None f a = a

-- the program on the device that a flow is
unfoldable pub io_of : {A : Type 0} → Flow Asked Told A → Io A
io_of (answer a) = Io.answer a
io_of (ask (Read n) k) = Io.read n (λ bs. io_of (k bs))
io_of (ask (Write n bs) k) = Io.write n bs (io_of (k tt))
io_of (ask Sync k) = Io.sync (io_of (k tt))
io_of (when t p q) = cond (decide t) (io_of p) (io_of q)
io_of (given o f q) = if_some o (λ x. io_of (f x)) (io_of q)
io_of (first p k) = and_then (io_of p) (λ x. io_of (k x))

-- The replies R c to each call, told apart, within one type of replies.
pub record Replies (C : Type 0) (R : C → Type 0) (Reply : Type 0) : Type 0 where
  pub put : (c : C) → R c → Reply
  pub take : (c : C) → Reply → R c
  pub back : (c : C) (r : R c) → take c (put c r) ≡ r

unfoldable pub plan_then : {C R A B : Type 0} → Plan C R A → (A → Plan C R B) → Plan C R B
plan_then (gives a) f = f a
plan_then (asks c k) f = asks c (λ r. plan_then (k r) f)

-- the plan that a flow over a part is
unfoldable pub plan_of : {C : Type 0} {R : C → Type 0} {Reply A : Type 0} → Replies C R Reply → Flow C R A → Plan C Reply A
plan_of w (answer a) = gives a
plan_of w (ask c k) = asks c (λ r. plan_of w (k (w.take c r)))
plan_of w (when t p q) = cond (decide t) (plan_of w p) (plan_of w q)
plan_of w (given o f q) = if_some o (λ x. plan_of w (f x)) (plan_of w q)
plan_of w (first p k) = plan_then (plan_of w p) (λ x. plan_of w (k x))

-- the same steps, with replies of one type
abbrev pub among : {C S Reply : Type 0} {R : C → Type 0} → Replies C R Reply → (S → (c : C) → R c → S → Type 0) → S → C → Reply → S → Type 0
among {C} {S} {Reply} {R} w steps s c r t = (x : R c) × (r ≡ w.put c x) × steps s c x t

-- A flow with what may run it: code that runs the flow plays the program, and follows the plan.
pub record Flowing : Type 1 where
  pub S : Type 0
  pub Out : Type 0
  pub steps : S → (c : Asked) → Told c → S → Type 0
  pub on_device : Flow Asked Told Out
  pub C : Type 0
  pub R : C → Type 0
  pub Reply : Type 0
  pub replies : Replies C R Reply
  pub T : Type 0
  pub goes : T → (c : C) → R c → T → Type 0
  pub on_part : Flow C R Out

abbrev pub FlowPlays : Flowing → Type 0
FlowPlays g =
    ((s t : g.S) (a : g.Out) → Runs g.steps g.on_device s t a → Plays g.steps (io_of g.on_device) s t a) ×
    ((s t : g.T) (a : g.Out) → Runs g.goes g.on_part s t a → Follows (among g.replies g.goes) (plan_of g.replies g.on_part) s t a)

-- STORES. A part on a device: of its states T the device is in dev and the machine's memory is mem; and each call plays on the device what the machine does.
pub record Store : Type 1 where
  pub C : Type 0
  pub R : Type 0
  pub below : Machine C R
  pub S : Type 0
  pub T : Type 0
  pub steps : S → (c : Asked) → Told c → S → Type 0
  pub goes : T → C → R → T → Type 0
  pub dev : T → S
  pub mem : T → below.Mem

abbrev pub PlaysCalls : Store → Type 0
PlaysCalls g = (c : g.C) (r : g.R) (s t : g.T) → g.goes s c r t → Plays g.steps (g.below.does c (g.mem s)) (g.dev s) (g.dev t) (record { reply = r; mem = g.mem t })

-- following a plan over the store plays on the device what the plan does through the machine
abbrev pub PlaysThrough : Store → Type 0 → Type 0
PlaysThrough g A = (p : Plan g.C g.R A) (s t : g.T) (a : A) → Follows g.goes p s t a → Plays g.steps (through g.below p (g.mem s)) (g.dev s) (g.dev t) (record { value = a; below = g.mem t })

-- and so a layer above it plays what the layer on the machine does
abbrev pub PlaysOver : (g : Store) {C' R' : Type 0} → Layer g.C g.R C' R' → Type 0
PlaysOver g {C'} {R'} l =
    ((size : ℕ) (d : g.S) (s t : g.T) (m : l.Mem) → Plays g.steps (g.below.opens size) d (g.dev s) (g.mem s) → Follows g.goes (l.comes_up size) s t m →
    Plays g.steps ((over g.below l).opens size) d (g.dev t) (record { below = g.mem t; above = m })) ×
    ((c : C') (m : l.Mem) (s t : g.T) (x : record { reply : R'; mem : l.Mem }) → Follows g.goes (l.answers c m) s t x →
    Plays g.steps ((over g.below l).does c (record { below = g.mem s; above = m })) (g.dev s) (g.dev t) (record { reply = x.reply; mem = record { below = g.mem t; above = x.mem } }))

-- a layer on a store is a store again, and its calls play what the layer on the machine does
abbrev pub stacked : (g : Store) {C' R' : Type 0} → Layer g.C g.R C' R' → Store
stacked g {C'} {R'} l =
    record {
      C = C';
      R = R';
      below = over g.below l;
      S = g.S;
      T = record { store : g.T; above : l.Mem };
      steps = g.steps;
      goes = λ s c r t. Follows g.goes (l.answers c s.above) s.store t.store (record { reply = r; mem = t.above });
      dev = λ s. g.dev s.store;
      mem = λ s. record { below = g.mem s.store; above = s.above };
    }

-- THE HONEST DEVICE does what is asked.
abbrev pub honest : Device → (c : Asked) → Told c → Device → Type 0
honest d (Read n) bs t = (bs ≡ shown d n) × (t ≡ d)
honest d (Write n bs) r t = t ≡ written n bs d
honest d Sync r t = t ≡ synced d

-- what is played on it is what the program runs to
abbrev pub HonestRuns : Type 0 → Type 0
HonestRuns A = (p : Io A) (d t : Device) (a : A) → Plays honest p d t a → run p d ≡ record { value = a; device = t }

-- and each program is played so
abbrev pub HonestPlays : Type 0 → Type 0
HonestPlays A = (p : Io A) (d : Device) → Plays honest p d (run p d).device (run p d).value

-- a device that shows itself, in each state, as an honest one
pub record Showing : Type 1 where
  pub S : Type 0
  pub steps : S → (c : Asked) → Told c → S → Type 0
  pub view : S → Device

abbrev pub ShownRuns : Showing → Type 0 → Type 0
ShownRuns v A = ((s t : v.S) (c : Asked) (r : Told c) → v.steps s c r t → honest (v.view s) c r (v.view t)) → (p : Io A) (s t : v.S) (a : A) → Plays v.steps p s t a → run p (v.view s) ≡ record { value = a; device = v.view t }

-- so calls that are played on it are a trace of the machine
abbrev pub PlaysTrace : {C R : Type 0} → Machine C R → Type 0
PlaysTrace {C} {R} e =
    ((size : ℕ) (es : List (Event C R)) (d t : Device) (m : e.Mem) → Trace e size es (off d) → Plays honest (e.opens size) d t m → Trace e size es (on m t)) ×
    ((size : ℕ) (es : List (Event C R)) (d t : Device) (c : C) (r : R) (m n : e.Mem) → Trace e size es (on m d) → Plays honest (e.does c m) d t (record { reply = r; mem = n }) → Trace e size (called c r ∷ es) (on n t))
