-- The words of a line: what stands between spaces. A carriage return at the very end is no part of the line.
-- Assumes nothing.
use Rattle.std.specs.Prelude.{ℕ, ◌-◌, cond, List, [], ◌∷◌, ◌++◌, length, take, ◌==◌, slice_index}

abbrev pub without_return : List ℕ → List ℕ
without_return line = cond (slice_index line (length line - 1) == 13) (take (length line - 1) line) line

-- a word that ends, if one was begun
abbrev pub ended : List ℕ → List (List ℕ)
ended [] = []
ended (b ∷ bs) = (b ∷ bs) ∷ []

-- `word` is what was seen of a word so far
abbrev pub cut : List ℕ → (word : List ℕ) → List (List ℕ)
cut [] word = ended word
cut (b ∷ bs) word = cond (b == 32) (ended word ++ cut bs []) (cut bs (word ++ (b ∷ [])))

abbrev pub words_of : List ℕ → List (List ℕ)
words_of line = cut (without_return line) []
