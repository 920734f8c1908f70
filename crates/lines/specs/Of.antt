-- What the values that the code uses mean.
-- Assumes nothing.
use Rattle.std.specs.Prelude.{◌≡◌, ℕ, List, map, Ok, Err, Option, Result}
use Rattle.std.specs.Borrow.{Bor}
use Rattle.std.specs.Option.{option_map}
use Rattle.lines.specs.declared.faults.Fault.{Fault}
use Rattle.lines.specs.declared.faults.ParseError.{ParseError}
use Rattle.lines.specs.declared.faults.ParseError.TheVariants.{Wrong, Memory}

-- r is what is meant: its value, or its fault; where memory fails it may be anything
abbrev pub Comes : {X Y : Type 0} → (X → Y) → Result X ParseError → Result Y Fault → Type 0
Comes of (Ok x) meant = meant ≡ Ok (of x)
Comes of (Err (Wrong why)) meant = meant ≡ Err why
Comes of (Err Memory) meant = Unit {0}

abbrev pub first_in : Option (ℕ × Bor (List ℕ)) → Option (ℕ × List ℕ)
first_in r = option_map (λ (p : ℕ × Bor (List ℕ)). (p.0, p.1.now)) r

abbrev pub words_in : List (Bor (List ℕ)) → List (List ℕ)
words_in = map (λ (w : Bor (List ℕ)). w.now)

-- the same without memory that might fail
abbrev pub told : {X Y : Type 0} → (X → Y) → Result X Fault → Result Y Fault
told of (Ok x) = Ok (of x)
told of (Err why) = Err why
