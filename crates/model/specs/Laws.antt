-- Laws of paths and of the bytes of files.
-- Assumes nothing.
use Rattle.std.specs.Prelude.{◌≡◌, ℕ, ◌+◌, ◌<◌, ◌≤◌, max, Bool, ◌||◌, T, List, [], ◌∷◌, length, ◌==◌, ◌≢◌, nat_lt, slice_index}
use mathlib.Core.List.{Memᴰ}
use Rattle.model.specs.Tree.{Fs, body_at, name_count}
use Rattle.model.specs.Walk.{On, Came, steps, path_ok, components, place}
use Rattle.model.specs.Calls.{Write, Read, Resize, Done, Bytes, Handle, State, does, is_open, written, resized}
use Rattle.model.specs.Sound.{Sound, SoundState}

-- Every path comes somewhere, by 8 links at most: to that place after any number of steps from 4,609 on.
abbrev pub Comes : Type 0
Comes = (f : Fs) (follow : Bool) (p : List ℕ) (n : ℕ) → Sound f → T (path_ok p) → 4609 ≤ n → steps n follow f (On 8 0 (components p [])) ≡ Came (place follow f p)

-- the length of a file after bytes are written: none change nothing
unfoldable pub length_after : ℕ → List ℕ → List ℕ → ℕ
length_after from [] old = length old
length_after from (b ∷ bs) old = max (length old) (from + length (b ∷ bs))

-- What is written is read, and all else of the file stays; 0 is read past the end, and so between the old end and what is written.
pub record Writes (from : ℕ) (new old : List ℕ) : Type 0 where
  pub long : length (written from new old) ≡ length_after from new old
  pub inside : (i : ℕ) → i < length new → slice_index (written from new old) (from + i) ≡ slice_index new i
  pub before : (i : ℕ) → i < from → slice_index (written from new old) i ≡ slice_index old i
  pub after : (i : ℕ) → from + length new ≤ i → slice_index (written from new old) i ≡ slice_index old i

abbrev pub ReadsWritten : Type 0
ReadsWritten = (from : ℕ) (new old : List ℕ) → Writes from new old

-- a file cut or made longer: as it was below the new end, 0 where it is new
abbrev pub ReadsResized : Type 0
ReadsResized = (n : ℕ) (old : List ℕ) → (length (resized n old) ≡ n) × ((i : ℕ) → i < n → slice_index (resized n old) i ≡ slice_index old i)

-- bytes that were written are what a read of them gives
abbrev pub ReadsBack : Type 0
ReadsBack = (s : State) (h from : ℕ) (bs : List ℕ) → SoundState s → (does (Write h from bs) s).reply ≡ Done → (does (Read h from (length bs)) (does (Write h from bs) s).state).reply ≡ Bytes bs

-- Writing to one file changes no other, nor does giving it another size: what another number stands for, as long as it has a name or is open.
abbrev pub OnlyIts : Type 0
OnlyIts =
    (s : State) (h k : ℕ) → SoundState s → T (k == 0 || nat_lt 0 (name_count s.now k) || is_open s.handles k) → ((x : Handle) → Memᴰ x s.handles → x.num ≡ h → x.node ≢ k) →
    ((from : ℕ) (bs : List ℕ) → body_at (does (Write h from bs) s).state.now k ≡ body_at s.now k) × ((n : ℕ) → body_at (does (Resize h n) s).state.now k ≡ body_at s.now k)
