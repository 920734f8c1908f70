-- Programs that use a device, one asking after another.
-- Assumes nothing.
use Rattle.std.specs.Prelude.{◌≡◌, ℕ, ◌+◌, ◌<◌, T, List, length}
use Rattle.device.specs.Sectors.{Device, shown, written, synced, all_bytes}

-- what is done between a call and its answer
pub data Io (A : Type 0) : Type 0 where
  answer : A → Io A
  read : ℕ → (List ℕ → Io A) → Io A
  write : ℕ → List ℕ → Io A → Io A
  sync : Io A → Io A

pub record Ran (A : Type 0) : Type 0 where
  pub value : A
  pub device : Device

-- what a program comes to on a device
unfoldable pub run : {A : Type 0} → Io A → Device → Ran A
run (answer a) d = record { value = a; device = d }
run (read s k) d = run (k (shown d s)) d
run (write s b p) d = run p (written s b d)
run (sync p) d = run p (synced d)

-- where a program may be interrupted: the device as it is then
pub data Upto {A : Type 0} : Io A → Device → Device → Type 0 where
  here : {p : Io A} {d : Device} → Upto p d d
  reads : {s : ℕ} {k : List ℕ → Io A} {d e : Device} → Upto (k (shown d s)) d e → Upto (read s k) d e
  writes : {s : ℕ} {b : List ℕ} {p : Io A} {d e : Device} → Upto p (written s b d) e → Upto (write s b p) d e
  syncs : {p : Io A} {d e : Device} → Upto p (synced d) e → Upto (sync p) d e

-- it reads and writes sectors of the device only, and writes whole ones, of bytes
pub data Fair (size : ℕ) {A : Type 0} : Io A → Device → Type 0 where
  ends : (a : A) (d : Device) → Fair size (answer a) d
  reads : {s : ℕ} {k : List ℕ → Io A} {d : Device} → s < size → Fair size (k (shown d s)) d → Fair size (read s k) d
  writes : {s : ℕ} {b : List ℕ} {p : Io A} {d : Device} → s < size → length b ≡ 512 → T (all_bytes b) → Fair size p (written s b d) → Fair size (write s b p) d
  syncs : {p : Io A} {d : Device} → Fair size p (synced d) → Fair size (sync p) d

-- how many sectors a program reads
unfoldable pub reads_of : {A : Type 0} → Io A → Device → ℕ
reads_of (answer a) d = 0
reads_of (read s k) d = 1 + reads_of (k (shown d s)) d
reads_of (write s b p) d = reads_of p (written s b d)
reads_of (sync p) d = reads_of p (synced d)

-- one program, and then another that is chosen by its answer
unfoldable pub and_then : {A B : Type 0} → Io A → (A → Io B) → Io B
and_then (answer a) f = f a
and_then (read s k) f = read s (λ b. and_then (k b) f)
and_then (write s b p) f = write s b (and_then p f)
and_then (sync p) f = sync (and_then p f)
