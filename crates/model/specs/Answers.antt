-- What a call may answer on a card of so many sectors, and what a power cut leaves.
-- Assumes nothing.
use Rattle.std.specs.Prelude.{ℕ, ◌+◌, ◌*◌, ◌<◌, Bool, false, not, T, List, [], ◌∷◌}
use mathlib.Core.List.{Memᴰ}
use Rattle.model.specs.Tree.{Fs, swept, weight, data_weight, name_weight}
use Rattle.model.specs.Calls.{Call, Reply, No, Full, State, fresh, does}

-- the tree at the last sync: the last of those that a cut may leave
unfoldable pub synced : Fs → List Fs → Fs
synced f [] = f
synced f (g ∷ gs) = synced g gs

-- Four times the bytes that are surely enough for the tree f beside the tree g: 2 MiB, five of four times the blocks, three times the names.
abbrev pub needed4 : Fs → Fs → ℕ
needed4 f g = 8388608 + (5 * (data_weight f.nodes + data_weight g.nodes) + 12 * (name_weight f.nodes + name_weight g.nodes))

-- `can`: the calls that are built so far; the others are refused by 12. Full is only for a call that makes the tree heavier, and only where it does not surely fit; it changes nothing.
pub data Answers (can : Call → Bool) (size : ℕ) : Call → State → Reply → State → Type 0 where
  as-meant : (c : Call) (s : State) → T (can c) → Answers can size c s (does c s).reply (does c s).state
  not_yet : (c : Call) (s : State) → T (not (can c)) → Answers can size c s (No 12) s
  full : (c : Call) (s : State) → T (can c) → weight s.now < weight (does c s).state.now → 2048 * size < needed4 (does c s).state.now (synced s.now s.could) → Answers can size c s Full s

-- A cut leaves one of the trees that could be; nothing is open, so nodes without a name are gone.
pub data Down : State → State → Type 0 where
  leaves : (s : State) (f : Fs) → Memᴰ f s.could → Down s (fresh (swept (λ n. false) f))
