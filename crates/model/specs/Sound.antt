-- The tree stays a tree: what a sound tree is, that every call keeps it so, and that there is never any other.
-- Assumes nothing.
use Rattle.std.specs.Prelude.{◌≡◌, ℕ, suc, Bool, true, not, ◌&&◌, ◌||◌, T, List, [], ◌∷◌, length, ◌==◌, nat_eq, nat_le, nat_lt}
use mathlib.Core.List.{Memᴰ}
use Rattle.model.specs.Tree.{Name, Entry, Node, Fs, blank, some, every, same_name, less_name, body_at, entries_of, is_folder, is_file, bytes_of, parent_of, name_count, is_above}
use Rattle.model.specs.Walk.{path_ok, dot, dot_dot}
use Rattle.model.specs.Calls.{Call, Reply, Handle, State, fresh, does}
use Rattle.model.specs.Answers.{Answers, Down}

unfoldable pub rising_nums : ℕ → List Node → Bool
rising_nums n [] = true
rising_nums n (x ∷ xs) = nat_le n x.num && rising_nums (suc x.num) xs

unfoldable pub rising_names : List Entry → Bool
rising_names [] = true
rising_names (e ∷ []) = true
rising_names (e ∷ f ∷ es) = less_name e.name f.name && rising_names (f ∷ es)

-- 1 to 255 bytes, none of them 0 or a stroke; not . or ..
abbrev pub name_ok : Name → Bool
name_ok n = nat_lt 0 (length n) && nat_le (length n) 255 && every (λ (b : ℕ). nat_lt 0 b && nat_lt b 256 && not (b == 47)) n && not (same_name n dot) && not (same_name n dot_dot)

abbrev pub is_there : Fs → ℕ → Bool
is_there f k = some (λ (x : Node). nat_eq k x.num) f.nodes

-- Its number is below the next; a link holds a path; the entries of a folder rise by names that can be names, each of a node that is there.
-- A folder but the topmost has one name, in its parent, and going up from it leads to the top; or it has none, and is empty.
abbrev pub node_ok : Fs → Node → Bool
node_ok f x =
    nat_lt x.num f.next && (is_folder x.body || is_file x.body || path_ok (bytes_of x.body)) && rising_names (entries_of x.body) && every (λ (e : Entry). name_ok e.name && is_there f e.node) (entries_of x.body) &&
    (not (is_folder x.body) || x.num == 0 ||
    (name_count f x.num == 1 && some (λ (e : Entry). nat_eq e.node x.num) (entries_of (body_at f (parent_of x.body))) && is_above (length f.nodes) f 0 x.num) ||
    (name_count f x.num == 0 && length (entries_of x.body) == 0))

-- no number twice, every node right; the topmost is a folder, its own parent, and has no name
abbrev pub Sound : Fs → Type 0
Sound f = T (rising_nums 0 f.nodes) × T (every (node_ok f) f.nodes) × T (is_folder (body_at f 0)) × (parent_of (body_at f 0) ≡ 0) × (name_count f 0 ≡ 0)

-- with what is open: a node that is there, and to write only a file
abbrev pub handle_ok : Fs → Handle → Bool
handle_ok f h = is_there f h.node && (not h.writes || is_file (body_at f h.node))

abbrev pub SoundState : State → Type 0
SoundState s = Sound s.now × T (every (handle_ok s.now) s.handles)

abbrev pub StaysSound : Type 0
StaysSound = (c : Call) (s : State) → SoundState s → SoundState (does c s).state

-- what there can be: from a blank tree, by calls and cuts
pub data Reached : State → Type 0 where
  start : Reached (fresh blank)
  call : {s : State} → Reached s → (c : Call) → Reached (does c s).state
  cut : {s t : State} → Reached s → Down s t → Reached t

-- the tree is sound with what is open, and so is each tree that a cut may leave
abbrev pub AlwaysSound : Type 0
AlwaysSound = (s : State) → Reached s → SoundState s × ((f : Fs) → Memᴰ f s.could → Sound f)

-- whatever a call answers on a card, what it leaves is such a state
abbrev pub AnswersReach : Type 0
AnswersReach = (can : Call → Bool) (size : ℕ) (c : Call) (s t : State) (r : Reply) → Reached s → Answers can size c s r t → Reached t
