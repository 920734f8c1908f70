-- What the device in memory is to those who ask it.
-- Assumes nothing.
use Rattle.std.specs.Prelude.{◌≡◌, ℕ, ◌+◌, ◌-◌, ◌^◌, ◌<◌, min, Bool, true, false, cond, ◌⊎◌, List, [], ◌∷◌, ◌++◌, vec_items, vec_len, vec_capacity, ◌==◌, slice_index_or}
use Rattle.device.specs.Sectors.{Device, blank_sector, blank_device}
use Rattle.device.specs.Program.{Io, run, Fair, Upto}
use Rattle.device.specs.Plays.{Asked, Read, Write, Sync, Told, Plays, honest}
use Rattle.device.specs.declared.memory.Logged.{Logged}
use Rattle.device.specs.declared.memory.Power.{Power}
use Rattle.device.specs.declared.memory.Power.TheVariants.{Unlimited, For, Off}
use Rattle.device.specs.declared.memory.Askings.{Askings}
use Rattle.device.specs.declared.memory.Memory.{Memory}

-- THE POWER
abbrev pub lit : Power → Bool
lit Unlimited = true
lit (For n) = true
lit Off = false

-- after one more thing was asked
abbrev pub spent : Power → Power
spent Unlimited = Unlimited
spent (For n) = cond (n == 0) Off (For (n - 1))
spent Off = Off

-- to be answered n times more, unless it has failed already
abbrev pub limited : ℕ → Power → Power
limited n Unlimited = For n
limited n (For m) = For n
limited n Off = Off

-- THE VIEW. What a sector s that shows `now` held at the last sync: what the first write to it since then replaced.
unfoldable pub kept_of : ℕ → List ℕ → List Logged → List ℕ
kept_of s now [] = now
kept_of s now (w ∷ ws) = cond (w.at == s) w.was (kept_of s now ws)

-- What was written to it since, the latest first: what a write wrote, the next one replaced, or it is there now.
unfoldable pub since_of : ℕ → List ℕ → List Logged → List (List ℕ)
since_of s now [] = []
since_of s now (w ∷ ws) = cond (w.at == s) (since_of s now ws ++ kept_of s now ws ∷ []) (since_of s now ws)

abbrev pub is_on : Memory → Bool
is_on m = lit m.power

abbrev pub size_of : Memory → ℕ
size_of m = vec_len m.shown

-- past the end all is blank
abbrev pub sector_of : Memory → ℕ → List ℕ
sector_of m s = slice_index_or (vec_items m.shown) s blank_sector

abbrev pub view_of : Memory → Device
view_of m = record { kept = λ s. kept_of s (sector_of m s) (vec_items m.log); since = λ s. since_of s (sector_of m s) (vec_items m.log) }

-- WHAT IS COUNTED, up to the largest number of 64 bits
pub record Counts : Type 0 where
  pub reads : ℕ
  pub writes : ℕ
  pub syncs : ℕ

abbrev pub no_counts : Counts
no_counts = record { reads = 0; writes = 0; syncs = 0 }

abbrev pub counts : Askings → Counts
counts a = record { reads = a.reads; writes = a.writes; syncs = a.syncs }

abbrev pub counts_of : Memory → Counts
counts_of m = counts m.answered

abbrev pub one_more : ℕ → ℕ
one_more n = min (n + 1) (2 ^ 64 - 1)

abbrev pub counted : Asked → Counts → Counts
counted (Read n) k = record { reads = one_more k.reads; writes = k.writes; syncs = k.syncs }
counted (Write n bs) k = record { reads = k.reads; writes = one_more k.writes; syncs = k.syncs }
counted Sync k = record { reads = k.reads; writes = k.writes; syncs = one_more k.syncs }

-- a new device
pub record Blank (m : Memory) (sectors : ℕ) : Type 0 where
  pub size : size_of m ≡ sectors
  pub view : view_of m ≡ blank_device
  pub power : m.power ≡ Unlimited
  pub counts : counts_of m ≡ no_counts

-- all but the power is as it was
pub record Unchanged (s t : Memory) : Type 0 where
  pub size : size_of t ≡ size_of s
  pub view : view_of t ≡ view_of s
  pub counts : counts_of t ≡ counts_of s

-- WHAT IS ASKED. It lies within a device of so many sectors.
abbrev pub Inside : ℕ → Asked → Type 0
Inside size (Read n) = n < size
Inside size (Write n bs) = n < size
Inside size Sync = Unit {0}

-- a read that is not answered shows zeros
abbrev pub Silent : (c : Asked) → Told c → Type 0
Silent (Read n) bs = bs ≡ blank_sector
Silent (Write n bs) r = Unit {0}
Silent Sync r = Unit {0}

-- What is left of the power. A write that finds no memory for the log is its end too, and it finds some where the log has room.
abbrev pub Powered : Asked → Memory → Power → Type 0
Powered (Read n) s q = q ≡ spent s.power
Powered (Write n bs) s q = ((q ≡ spent s.power) ⊎ (q ≡ Off)) × (vec_len s.log < vec_capacity s.log → q ≡ spent s.power)
Powered Sync s q = q ≡ spent s.power

pub record Answered (s : Memory) (c : Asked) (r : Told c) (t : Memory) : Type 0 where
  pub honestly : honest (view_of s) c r (view_of t)
  pub counting : counts_of t ≡ counted c (counts_of s)

pub record Ignored (s : Memory) (c : Asked) (r : Told c) (t : Memory) : Type 0 where
  pub unchanged : Unchanged s t
  pub silent : Silent c r

-- What is asked within the device is answered as by an honest one, if the power is still on then. If not, or past the end, nothing is done. Off stays off, since what is left of no power is none.
pub record MemorySteps (s : Memory) (c : Asked) (r : Told c) (t : Memory) : Type 0 where
  pub size : size_of t ≡ size_of s
  pub power : Powered c s t.power
  pub inside : is_on t ≡ true → Inside (size_of s) c → Answered s c r t
  pub dark : is_on t ≡ false → Ignored s c r t
  pub outside : (Inside (size_of s) c → ⊥) → Ignored s c r t

-- WHAT IS PLAYED. With the power on at the end, a program that keeps within the device is played on the honest device that is seen,
abbrev pub MemoryPlays : Type 0 → Type 0
MemoryPlays A = (p : Io A) (s t : Memory) (a : A) → Plays MemorySteps p s t a → Fair (size_of s) p (view_of s) → is_on t ≡ true → Plays honest p (view_of s) (view_of t) a

-- so it comes to what it runs to.
abbrev pub MemoryRuns : Type 0 → Type 0
MemoryRuns A = (p : Io A) (s t : Memory) (a : A) → Plays MemorySteps p s t a → Fair (size_of s) p (view_of s) → is_on t ≡ true → run p (view_of s) ≡ record { value = a; device = view_of t }

-- However it ends, what is seen is what the program leaves somewhere on its way, and the device is as large as it was.
abbrev pub MemoryCuts : Type 0 → Type 0
MemoryCuts A = (p : Io A) (s t : Memory) (a : A) → Plays MemorySteps p s t a → Fair (size_of s) p (view_of s) → Upto p (view_of s) (view_of t) × (size_of t ≡ size_of s)
