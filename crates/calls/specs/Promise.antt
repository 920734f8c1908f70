-- What is promised of the whole file system, on the machine that the public call plays.
-- Assumes nothing.
use Rattle.std.specs.Prelude.{ℕ, zero, suc, ◌+◌, ◌*◌, ◌≤◌, max, Bool, cond, List, [], ◌∷◌, length, ◌==◌}
use Rattle.device.specs.Sectors.{Device}
use Rattle.device.specs.Program.{reads_of}
use Rattle.device.specs.Machine.{Machine, Judge, Keeps, Within, Event, Trace, off, on, Allowed}
use Rattle.model.specs.Tree.{Fs, Node, body_at, is_folder, parent_of, blank}
use Rattle.model.specs.Calls.{Call, Reply, State, fresh}
use Rattle.model.specs.Answers.{Answers, Down}

-- The judge of files: from a blank tree on, every reply is the one that the calls' meaning gives, and a power cut leaves one of the trees that it may. `can`: the calls that are built so far.
abbrev pub files : (Call → Bool) → ℕ → Judge Call Reply
files can size = record { State = State; start = fresh blank; Answers = Answers can size; Down = Down }

-- It comes up after reading at most 64 sectors and a 64th of the card.
abbrev pub ComesUpSoon : {C R : Type 0} → Machine C R → Type 0
ComesUpSoon {C} {R} e =
    (size : ℕ) → 8192 ≤ size → size ≤ 1099511627776 → (es : List (Event C R)) (d : Device) → Trace e size es (off d) → 64 * reads_of (e.opens size) d ≤ 4096 + size

-- how many folders a folder is under; the first number bounds the steps up
unfoldable pub depth_of : ℕ → Fs → ℕ → ℕ
depth_of zero f n = 0
depth_of (suc k) f n = cond (n == 0) 0 (1 + depth_of k f (parent_of (body_at f n)))

unfoldable pub deepest : Fs → List Node → ℕ
deepest f [] = 0
deepest f (n ∷ ns) = max (deepest f ns) (cond (is_folder n.body) (depth_of (length f.nodes) f n.num) 0)

-- No call does what coming up left undone: whatever came before, the machine is in a state that may be, and each call from there reads at most 2^20 sectors, and 64 for each folder that the deepest one is under.
abbrev pub CallsBounded : (Call → Bool) → Machine Call Reply → Type 0
CallsBounded can e =
    (size : ℕ) → 8192 ≤ size → size ≤ 1099511627776 → (es : List (Event Call Reply)) (m : e.Mem) (d : Device) → Trace e size es (on m d) →
    (s : State) × Allowed (files can size) es s × ((c : Call) → reads_of (e.does c m) d ≤ 1048576 + 64 * deepest s.now s.now.nodes)

-- THE PROMISE. Over every list of calls from a blank card of 4 MiB to 512 TiB on, with power cuts anywhere, also in a call and in coming up: everything that is seen is as the meaning says; nothing outside the card
-- is touched; it is ready after reading a bounded part of the card, and no call reads without bound.
abbrev pub Whole : (Call → Bool) → Machine Call Reply → Type 0
Whole can e = Keeps (files can) e × Within e × ComesUpSoon e × CallsBounded can e
