-- The words after the first: how many, and what those that are neither number nor bytes stand for.
-- Assumes nothing.
use Rattle.std.specs.Prelude.{ℕ, Bool, true, false, cond, List, length, Ok, Err, codes, Result, nat_lt}
use Rattle.std.specs.Str.{bytes_eq}
use Rattle.model.specs.Calls.{Way, Old, May, New}
use Rattle.lines.specs.declared.faults.Fault.{Fault}
use Rattle.lines.specs.declared.faults.Fault.TheVariants as fault

abbrev pub Word : Type 0
Word = List ℕ

-- as many as may be
unfoldable pub counted : (least most : ℕ) → List Word → Result (Unit {0}) Fault
counted least most ws =
    cond (nat_lt (length ws) least) (Err fault.TooFewWords)
    (cond (nat_lt most (length ws)) (Err fault.TooManyWords) (Ok tt))

unfoldable pub way_for : Word → Result Way Fault
way_for w =
    cond (bytes_eq w (codes "old")) (Ok Old)
    (cond (bytes_eq w (codes "may")) (Ok May)
    (cond (bytes_eq w (codes "new")) (Ok New) (Err fault.BadWay)))

-- whether a file is opened for writing
unfoldable pub access_for : Word → Result Bool Fault
access_for w =
    cond (bytes_eq w (codes "read")) (Ok false)
    (cond (bytes_eq w (codes "write")) (Ok true) (Err fault.BadAccess))
