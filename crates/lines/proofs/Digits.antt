-- Decimal digits, read from the left. Assumes nothing.
use Rattle.std.proofs.Common.{◌≡◌, ℕ, ◌^◌, ◌<◌, true, cond, ◌&&◌, List, length, get_or, ltb, leb, Ok, Err, Result, ⊎_elim, sym, refl, ap, ◌∙◌, arith, rules}
use Rattle.std.specs.Char.{is_ascii_digit}
use Rattle.std.specs.List.{list_all}
use Rattle.std.specs.Result.{OkIff, result_or}
use Rattle.std.specs.Str.{all_ascii_digits, IsAscii, IsUtf8}
use Rattle.std.specs.Str.Parse.{ParsesUnsigned}
use Rattle.std.proofs.lemmas.Bool.{and_parts, leb-true, cond-true, cond-false, and_from, lt-ltb, le-ltb, cases_lt}
use Rattle.std.proofs.lemmas.List.{get_or_past}
use Rattle.std.proofs.lemmas.List.Recursion.{same_from_clauses, and_at}
use Rattle.std.proofs.lemmas.Str.{IsUtf8-from_ascii}
use Rattle.std.proofs.lemmas.Str.Parse.{IsNumeralModel, numerals_by_fold, parse_digits, tells_all_ascii_digits}
use Rattle.lines.specs.declared.faults.Fault.TheVariants as fault
use Rattle.lines.specs.Numbers.{read_on, number_of}

pub all-digits : (w : List ℕ) → list_all is_ascii_digit w ≡ all_ascii_digits w
all-digits = same_from_clauses (list_all is_ascii_digit) all_ascii_digits (λ c b. is_ascii_digit c && b) refl (λ _ _. refl) (λ _ _. refl)

-- the text of digits and the number that it stands for, in std's words
pub own : IsNumeralModel (λ ds. all_ascii_digits ds ≡ true) (read_on 0)
own = numerals_by_fold _ tells_all_ascii_digits read_on (search rules)

digits-ascii : (w : List ℕ) → all_ascii_digits w ≡ true → IsAscii w
digits-ascii w e i =
    ⊎_elim
    (λ l. let p = and_parts (leb 48 (get_or w i 0)) (leb (get_or w i 0) 57) (and_at all_ascii_digits is_ascii_digit refl (λ _ _. refl) w i 0 l e) in omega (arith, leb-true (get_or w i 0) 57 p.1))
    (λ l. omega (arith, get_or_past w i 0 l))
    (cases_lt i (length w))

-- digits are text
pub digits_text : (w : List ℕ) → all_ascii_digits w ≡ true → IsUtf8 w
digits_text w e = IsUtf8-from_ascii w (digits-ascii w e)

-- what `parse` makes of digits, with the one fault that is left
pub parsed : {E : Type 0} (w : List ℕ) (r : Result ℕ E) → all_ascii_digits w ≡ true → 0 < length w → ParsesUnsigned 64 10 w r → result_or r (Err fault.NumberTooLarge) ≡ number_of w
unfolding number_of
parsed {E} w r e l h = outcome r (parse_digits own 64 w r h e) ∙ sym (cond-true _ _ _ (and_from _ _ (lt-ltb 0 (length w) l) e))
  where
    outcome : (o : Result ℕ E) → OkIff o ((0 < length w) × (read_on 0 w < 2 ^ 64)) (read_on 0 w) → result_or o (Err fault.NumberTooLarge) ≡ cond (ltb (read_on 0 w) (2 ^ 64)) (Ok (read_on 0 w)) (Err fault.NumberTooLarge)
    outcome (Ok n) p = ap Ok p.1 ∙ sym (cond-true _ _ _ (lt-ltb (read_on 0 w) (2 ^ 64) p.0.1))
    outcome (Err x) p = sym (cond-false _ _ _ (le-ltb (read_on 0 w) (2 ^ 64) (⊎_elim (λ q. absurd (p (l, q))) (λ q. q) (cases_lt (read_on 0 w) (2 ^ 64)))))
