-- Page numbers as values: five bytes, the low one first.
-- Assumes nothing.
use Rattle.std.specs.Prelude.{ℕ, ◌+◌, ◌*◌, ◌/◌, ◌%◌, List, [], ◌∷◌, slice_index}

abbrev pub number_bytes : ℕ → List ℕ
number_bytes n = n % 256 ∷ n / 256 % 256 ∷ n / 65536 % 256 ∷ n / 16777216 % 256 ∷ n / 4294967296 % 256 ∷ []

-- bytes that are not there stand for 0, and more than five are not looked at
abbrev pub number_of : List ℕ → ℕ
number_of bs = slice_index bs 0 + 256 * (slice_index bs 1 + 256 * (slice_index bs 2 + 256 * (slice_index bs 3 + 256 * slice_index bs 4)))
