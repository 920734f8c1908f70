-- The page of a node: how level and entries are written, and what any bytes say when they are read as a node.
-- Assumes nothing.
use Rattle.std.specs.Prelude.{◌≡◌, ℕ, ◌+◌, ◌-◌, ◌*◌, ◌/◌, ◌%◌, Bool, true, ◌&&◌, List, [], ◌∷◌, ◌++◌, map, length, take, drop, replicate, nat_le, slice_index}
use Rattle.std.specs.List.{range_with_len}
use Rattle.nodes.specs.Entries.{Entry, entry_weight, weight_of, Fits, fitting}

-- a number in two bytes, the low one first
abbrev pub two_bytes : ℕ → List ℕ
two_bytes n = n % 256 ∷ n / 256 ∷ []

-- an entry as it stands in a page
abbrev pub item : Entry → List ℕ
item e = two_bytes (length e.key) ++ (e.key ++ (two_bytes (length e.value) ++ e.value))

abbrev pub body : List Entry → List ℕ
body [] = []
body (e ∷ es) = item e ++ body es

-- where each entry begins, from the last to the first
abbrev pub slots : ℕ → List Entry → List ℕ
slots at [] = []
slots at (e ∷ es) = slots (at + length (item e)) es ++ two_bytes at

abbrev pub head : ℕ → List Entry → List ℕ
head l es = 183 ∷ l ∷ (two_bytes (length es) ++ (two_bytes (weight_of es) ++ (0 ∷ 0 ∷ [])))

-- a node's page: mark, level, count, weight; the entries from byte 8 on; zeros; the slots, the first at the very end
unfoldable pub encode : ℕ → List Entry → List ℕ
encode l es = head l es ++ (body es ++ (replicate (4088 - weight_of es) 0 ++ slots 8 es))

-- READING. Past the end of a page stands 0, and a text is cut short there.
abbrev pub word_at : List ℕ → ℕ → ℕ
word_at p at = slice_index p at + 256 * slice_index p (at + 1)

-- the bytes that stand at a place after their length
abbrev pub text_at : List ℕ → ℕ → List ℕ
text_at p at = take (word_at p at) (drop (at + 2) p)

-- where the entry i begins
abbrev pub slot_at : List ℕ → ℕ → ℕ
slot_at p i = word_at p (4094 - 2 * i)

abbrev pub entry_at : List ℕ → ℕ → Entry
entry_at p i = record { key = text_at p (slot_at p i); value = text_at p (slot_at p i + 2 + word_at p (slot_at p i)) }

abbrev pub level_of : List ℕ → ℕ
level_of p = slice_index p 1

unfoldable pub entries_of : List ℕ → List Entry
entries_of p = map (entry_at p) (range_with_len 0 (word_at p 2))

-- the weight that a page says its entries have
abbrev pub weight_at : List ℕ → ℕ
weight_at p = word_at p 4

-- the page is the node of this level with these entries
pub record IsNode (p : List ℕ) (l : ℕ) (es : List Entry) : Type 0 where
  pub bytes : p ≡ encode l es
  pub fits : Fits es

-- the page is a node
abbrev pub Node : List ℕ → Type 0
Node p = IsNode p (level_of p) (entries_of p)

-- BUILDING
-- the page with bytes put at a place
abbrev pub put_at : ℕ → List ℕ → List ℕ → List ℕ
put_at at bs p = take at p ++ (bs ++ drop (at + length bs) p)

-- there is room for an entry, by what the page says of its count and weight, if these can be a node's
abbrev pub has_room : List ℕ → Entry → Bool
has_room p e = nat_le (6 * length (entries_of p)) (weight_at p) && nat_le (weight_at p + entry_weight e) 4088

-- What becomes of the node of l and es when the entries fs are to follow: as many of them as fit do, and `all` tells whether all did.
pub record Appended (l : ℕ) (es fs : List Entry) (p : List ℕ) (all : Bool) : Type 0 where
  pub told : all ≡ nat_le (weight_of es + weight_of fs) 4088
  pub node : IsNode p l (es ++ fitting (4088 - weight_of es) fs)
  pub whole : all ≡ true → IsNode p l (es ++ fs)
