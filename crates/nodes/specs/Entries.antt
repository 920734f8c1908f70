-- Entries of a node, and the room that they take.
-- Assumes nothing.
use Rattle.std.specs.Prelude.{ℕ, zero, suc, ◌+◌, ◌-◌, ◌≤◌, cond, List, [], ◌∷◌, length, nat_le}

pub record Entry : Type 0 where
  pub key : List ℕ
  pub value : List ℕ

abbrev pub entry_of : List ℕ → List ℕ → Entry
entry_of k v = record { key = k; value = v }

-- what stands for an entry where there is none
abbrev pub blank : Entry
blank = entry_of [] []

-- the bytes that an entry takes: its own, 2 for each length, 2 for its slot
abbrev pub entry_weight : Entry → ℕ
entry_weight e = length e.key + length e.value + 6

abbrev pub weight_of : List Entry → ℕ
weight_of [] = 0
weight_of (e ∷ es) = entry_weight e + weight_of es

-- they have room in a page
abbrev pub Fits : List Entry → Type 0
Fits es = weight_of es ≤ 4088

-- the longest front of entries that weighs at most so much
unfoldable pub fitting : ℕ → List Entry → List Entry
fitting room [] = []
fitting room (e ∷ es) = cond (nat_le (entry_weight e) room) (e ∷ fitting (room - entry_weight e) es) []

-- how many entries the shortest front has that weighs at least so much; all, where they weigh less
unfoldable pub front_count : ℕ → List Entry → ℕ
front_count zero es = 0
front_count (suc t) [] = 0
front_count (suc t) (e ∷ es) = front_count (suc t - entry_weight e) es + 1
