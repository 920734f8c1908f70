-- Places among the entries of a node, by their keys. How they are found is left open.
-- Assumes nothing.
use Rattle.std.specs.Prelude.{◌≡◌, ℕ, ◌+◌, ◌<◌, Bool, true, cond, not, ◌&&◌, Result, Ok, Err, List, [], ◌∷◌, length, nat_lt, slice_index_or}
use Rattle.model.specs.Tree.{less_name, same_name}
use Rattle.nodes.specs.Entries.{Entry, blank}

-- the first entry that passes a test; one past the last where none does
unfoldable pub first_where : (Entry → Bool) → List Entry → ℕ
first_where f [] = 0
first_where f (e ∷ es) = cond (f e) 0 (first_where f es + 1)

-- the first entry whose key is not before k
abbrev pub first_from : List ℕ → List Entry → ℕ
first_from k es = first_where (λ e. not (less_name e.key k)) es

-- the first entry whose key is after k
abbrev pub first_after : List ℕ → List Entry → ℕ
first_after k es = first_where (λ e. less_name k e.key) es

-- the first entry whose key is not before k has that very key
abbrev pub has_key : List ℕ → List Entry → Bool
has_key k es = nat_lt (first_from k es) (length es) && same_name k (slice_index_or es (first_from k es) blank).key

-- what a look-up of k answers: Ok and the place where it stands, or Err and the place where it would
abbrev pub found : List ℕ → List Entry → Result ℕ ℕ
found k es = cond (has_key k es) (Ok (first_from k es)) (Err (first_from k es))

-- each key is before all that follow it
abbrev pub Rising : List Entry → Type 0
Rising es = (i j : ℕ) → i < j → j < length es → less_name (slice_index_or es i blank).key (slice_index_or es j blank).key ≡ true
