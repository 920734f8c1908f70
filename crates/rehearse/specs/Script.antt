-- The lines of a script.
-- Assumes nothing.
use Rattle.std.specs.Prelude.{ℕ, Bool, List, ◌==◌}
use Rattle.std.specs.List.{before_first, after_first}

abbrev pub is_newline : ℕ → Bool
is_newline b = b == 10

-- a text up to its first newline, and what comes after that
abbrev pub line_of : List ℕ → List ℕ
line_of text = before_first is_newline text

abbrev pub after_line : List ℕ → List ℕ
after_line text = after_first is_newline text
