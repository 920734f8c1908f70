-- Bytes, as the words of a line and the answers have them.
-- Assumes nothing.
use Rattle.std.specs.Prelude.{ℕ, zero, suc, ◌+◌, ◌-◌, ◌*◌, ◌/◌, ◌%◌, Bool, cond, not, ◌&&◌, List, [], ◌∷◌, flat_map, length, Some, None, Option, Result, ◌==◌, nat_lt}
use Rattle.std.specs.Int.{is_in_range}
use Rattle.std.specs.Str.{bytes_eq}
use Rattle.std.specs.Option.{ok_or, option_map}
use Rattle.lines.specs.declared.faults.Fault.{Fault}
use Rattle.lines.specs.declared.faults.Fault.TheVariants as fault
use Rattle.lines.specs.declared.notations.Notation.{Notation}
use Rattle.lines.specs.declared.notations.Notation.TheVariants.{Hex, Path}

-- PRINTED: two digits in lower case for each byte; or, of a path or name, the bytes 33 to 126 but the backslash as they stand, any other as a backslash and two digits.
abbrev pub hex_digit : ℕ → ℕ
hex_digit d = cond (nat_lt d 10) (48 + d) (87 + d)

abbrev pub hex_pair : ℕ → List ℕ
hex_pair b = hex_digit (b / 16) ∷ (hex_digit (b % 16) ∷ [])

abbrev pub is_plain : ℕ → Bool
is_plain b = is_in_range 33 126 b && not (b == 92)

abbrev pub byte_text : Notation → ℕ → List ℕ
byte_text Hex b = hex_pair b
byte_text Path b = cond (is_plain b) (b ∷ []) (92 ∷ hex_pair b)

abbrev pub all_text : Notation → List ℕ → List ℕ
all_text n = flat_map (byte_text n)

-- no bytes at all: nothing, or `\.`
abbrev pub no_bytes : Notation → List ℕ
no_bytes Hex = []
no_bytes Path = 92 ∷ (46 ∷ [])

abbrev pub text_of : Notation → List ℕ → List ℕ
text_of n [] = no_bytes n
text_of n (b ∷ bs) = all_text n (b ∷ bs)

-- READ: digits of either case, and any byte above 32 as it stands. First the byte that a text begins with, and the text after it.
abbrev pub hex_value : ℕ → Option ℕ
hex_value c =
    cond (is_in_range 48 57 c) (Some (c - 48))
    (cond (is_in_range 97 102 c) (Some (c - 87))
    (cond (is_in_range 65 70 c) (Some (c - 55)) None))

abbrev pub of_digits : Option ℕ → Option ℕ → Option ℕ
of_digits None low = None
of_digits (Some high) None = None
of_digits (Some high) (Some low) = Some (16 * high + low)

abbrev pub pair_value : ℕ → ℕ → Option ℕ
pair_value a b = of_digits (hex_value a) (hex_value b)

abbrev pub first_pair : List ℕ → Option (ℕ × List ℕ)
first_pair [] = None
first_pair (a ∷ []) = None
first_pair (a ∷ (b ∷ rest)) = option_map (λ (x : ℕ). (x, rest)) (pair_value a b)

abbrev pub first_escaped : List ℕ → Option (ℕ × List ℕ)
first_escaped [] = None
first_escaped (b ∷ rest) = cond (b == 92) (first_pair rest) (cond (nat_lt 32 b) (Some (b, rest)) None)

abbrev pub first_of : Notation → List ℕ → Option (ℕ × List ℕ)
first_of Hex w = first_pair w
first_of Path w = first_escaped w

-- that byte, and then what `onward` makes of the text after it
abbrev pub and_after : Option (ℕ × List ℕ) → (onward : List ℕ → Option (List ℕ)) → Option (List ℕ)
and_after None onward = None
and_after (Some p) onward = option_map (λ (bs : List ℕ). p.0 ∷ bs) (onward p.1)

-- all bytes of a text; the number bounds how many
abbrev pub read_all : ℕ → Notation → List ℕ → Option (List ℕ)
read_all zero n [] = Some []
read_all (suc k) n [] = Some []
read_all zero n (b ∷ bs) = None
read_all (suc k) n (b ∷ bs) = and_after (first_of n (b ∷ bs)) (read_all k n)

abbrev pub fault_of : Notation → Fault
fault_of Hex = fault.BadHex
fault_of Path = fault.BadEscape

unfoldable pub bytes_of : Notation → List ℕ → Result (List ℕ) Fault
bytes_of n w = ok_or (cond (bytes_eq w (no_bytes n)) (Some []) (read_all (length w) n w)) (fault_of n)
