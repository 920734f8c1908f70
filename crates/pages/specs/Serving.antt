-- What the store is to its machine, and when it comes up.
-- Assumes nothing.
use Rattle.std.specs.Prelude.{◌≡◌, ℕ, ◌*◌, true, cond, Some, None, Ok, Err, List, Option, Result, nat_lt}
use Rattle.device.specs.Flow.{Runs}
use Rattle.device.specs.Plays.{Asked, Told}
use Rattle.paging.specs.Layout.{numbers}
use Rattle.paging.specs.Memory.{Mem}
use Rattle.paging.specs.Store.{Stored, shut, open_flow}
use Rattle.pages.specs.declared.store.Store.{Store}
use Rattle.pages.specs.declared.store.OpenError.{OpenError}
use Rattle.pages.specs.declared.store.OpenError.TheVariants.{TooFewSectors, TooManySectors, TooFewWords}
use Rattle.pages.specs.Of.{lent_to, seen}

-- up, with a label, or not
abbrev pub stored : Option (List ℕ) → Mem → Stored
stored (Some l) m = record { known = true; label = l; mem = m }
stored None m = shut

abbrev pub stored_of : {D : Type 0} → Store D → Stored
stored_of s = stored s.label (seen s.memory)

-- why there is no card of so many sectors
abbrev pub size_fault : ℕ → Option OpenError
size_fault sectors =
    cond (nat_lt sectors 8192) (Some TooFewSectors)
    (cond (nat_lt 1099511627776 sectors) (Some TooManySectors) None)

-- why it does not come up
abbrev pub open_fault : (sectors words : ℕ) → Option OpenError
open_fault sectors words =
    cond (nat_lt sectors 8192) (Some TooFewSectors)
    (cond (nat_lt 1099511627776 sectors) (Some TooManySectors)
    (cond (nat_lt words (2 * numbers sectors)) (Some TooFewWords) None))

abbrev pub words_of : {D : Type 0} → Store D → ℕ
words_of s = lent_to s.memory.words

-- It comes up as its flow does, exactly where nothing is at fault; else nothing was asked of the device, and it is shut.
abbrev pub ComesUp : {D : Type 0} → (D → (c : Asked) → Told c → D → Type 0) → ℕ → Store D → Store D → Result ℕ OpenError → Type 0
ComesUp steps sectors s t (Ok reads) = (open_fault sectors (words_of s) ≡ None) × Runs steps (open_flow sectors) s.device t.device (stored_of t, reads)
ComesUp steps sectors s t (Err why) = (open_fault sectors (words_of s) ≡ Some why) × (t.device ≡ s.device) × (stored_of t ≡ shut)
