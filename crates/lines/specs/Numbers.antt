-- Decimal numbers, as the words of a line have them.
-- Assumes nothing.
use Rattle.std.specs.Prelude.{ℕ, ◌+◌, ◌-◌, ◌*◌, ◌^◌, cond, ◌&&◌, List, [], ◌∷◌, length, Ok, Err, Result, nat_lt}
use Rattle.std.specs.Str.{all_ascii_digits}
use Rattle.lines.specs.declared.faults.Fault.{Fault}
use Rattle.lines.specs.declared.faults.Fault.TheVariants as fault

-- what digits come to after the number n
abbrev pub read_on : ℕ → List ℕ → ℕ
read_on n [] = n
read_on n (c ∷ cs) = read_on (10 * n + (c - 48)) cs

unfoldable pub number_of : List ℕ → Result ℕ Fault
number_of w =
    cond (nat_lt 0 (length w) && all_ascii_digits w)
    (cond (nat_lt (read_on 0 w) (2 ^ 64)) (Ok (read_on 0 w)) (Err fault.NumberTooLarge))
    (Err fault.NoNumber)
