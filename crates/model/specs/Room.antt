-- What proofs of room lean on: how a call changes what the tree weighs, and what a cut may leave.
-- Assumes nothing.
use Rattle.std.specs.Prelude.{◌≡◌, ℕ, ◌+◌, ◌*◌, ◌<◌, ◌≤◌, Bool, ◌||◌, T, ◌⊎◌, List, ◌∷◌, ◌==◌, nat_lt}
use mathlib.Core.List.{Memᴰ}
use Rattle.model.specs.Tree.{Fs, name_count, swept, weight, data_weight, name_weight}
use Rattle.model.specs.Calls.{Call, State, is_open, does}
use Rattle.model.specs.Answers.{synced, needed4, Down}
use Rattle.model.specs.Sound.{is_there, Sound, SoundState, Reached}

-- each node but the topmost has a name or is open
abbrev pub Tidy : State → Type 0
Tidy s = (k : ℕ) → T (is_there s.now k) → T (k == 0 || nat_lt 0 (name_count s.now k) || is_open s.handles k)

abbrev pub AlwaysTidy : Type 0
AlwaysTidy = (s : State) → Reached s → Tidy s

-- neither the blocks nor the names of f weigh more than those of g
abbrev pub NoHeavier : Fs → Fs → Type 0
NoHeavier f g = (data_weight f.nodes ≤ data_weight g.nodes) × (name_weight f.nodes ≤ name_weight g.nodes)

-- A call changes blocks and names in one direction. (Where something lies about without a name, a new file may sweep it away: then the blocks are fewer and the names more.)
abbrev pub WeighsOneWay : Type 0
WeighsOneWay = (c : Call) (s : State) → SoundState s → Tidy s → NoHeavier s.now (does c s).state.now ⊎ NoHeavier (does c s).state.now s.now

-- so one that does not make the tree heavier makes neither of the two heavier
abbrev pub NoPartHeavier : Type 0
NoPartHeavier = (c : Call) (s : State) → SoundState s → Tidy s → weight (does c s).state.now ≤ weight s.now → NoHeavier (does c s).state.now s.now

-- sweeping makes nothing heavier
abbrev pub SweepsLighter : Type 0
SweepsLighter = (o : ℕ → Bool) (f : Fs) → NoHeavier (swept o f) f

-- four times the bytes that are surely enough for the tree f alone; where f alone does not surely fit, it does not beside another
abbrev pub needed_alone : Fs → ℕ
needed_alone f = 8388608 + (5 * data_weight f.nodes + 12 * name_weight f.nodes)

abbrev pub AloneIsLess : Type 0
AloneIsLess = (size : ℕ) (f g : Fs) → 2048 * size < needed_alone f → 2048 * size < needed4 f g

-- The tree now is the first of those that a cut may leave, and the one at the last sync is one of them.
abbrev pub NowIsFirst : Type 0
NowIsFirst = (s : State) → Reached s → ((others : List Fs) × (s.could ≡ s.now ∷ others)) × Memᴰ (synced s.now s.could) s.could

-- after a cut the tree is sound, and each node but the topmost has a name
abbrev pub CutNamed : Type 0
CutNamed = (s t : State) → Reached s → Down s t → Sound t.now × ((k : ℕ) → T (is_there t.now k) → (k ≡ 0) ⊎ (1 ≤ name_count t.now k))
