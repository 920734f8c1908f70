-- What the file system's values are to its machine, and when it comes up.
-- Assumes nothing.
use Rattle.std.specs.Prelude.{◌≡◌, ℕ, ◌+◌, ◌*◌, ◌/◌, cond, List, codes, Some, None, Ok, Err, Option, Result, nat_lt}
use Rattle.device.specs.Plays.{Asked, Told, Plays}
use Rattle.calls.specs.declared.OpenError.{OpenError}
use Rattle.calls.specs.declared.OpenError.TheVariants.{TooFewSectors, TooManySectors, TooFewPages, TooFewWords}
use Rattle.calls.specs.declared.FileSystem.{FileSystem}
use Rattle.calls.specs.declared.NotOpened.{NotOpened}
use Rattle.calls.specs.Files.{machine}

-- so many pages of 8 sectors has a card
abbrev pub pages_of : ℕ → ℕ
pages_of sectors = (sectors + 7) / 8

-- why it does not come up: the card has 8,192 to 2^40 sectors, and 64 pages of memory and two words for each page of the card are lent
abbrev pub open_fault : (sectors pages words : ℕ) → Option OpenError
open_fault sectors pages words =
    cond (nat_lt sectors 8192) (Some TooFewSectors)
    (cond (nat_lt 1099511627776 sectors) (Some TooManySectors)
    (cond (nat_lt pages 64) (Some TooFewPages)
    (cond (nat_lt words (2 * pages_of sectors)) (Some TooFewWords) None)))

abbrev pub open_error_text : OpenError → List ℕ
open_error_text TooFewSectors = codes "a card has at least 8192 sectors of 512 bytes"
open_error_text TooManySectors = codes "a card has at most 2^40 sectors of 512 bytes"
open_error_text TooFewPages = codes "too few pages of memory"
open_error_text TooFewWords = codes "too few words of memory"

abbrev pub mem_of : {D : Type 0} → FileSystem D → machine.Mem
mem_of f = tt

-- It comes up as the machine does, exactly where nothing is at fault; else nothing was asked of the device, which comes back.
abbrev pub ComesUp : {D : Type 0} → (D → (c : Asked) → Told c → D → Type 0) → (sectors pages words : ℕ) → D → Result (FileSystem D) (NotOpened D) → Type 0
ComesUp steps sectors pages words d (Ok f) = (open_fault sectors pages words ≡ None) × Plays steps (machine.opens sectors) d f.device (mem_of f)
ComesUp steps sectors pages words d (Err e) = (open_fault sectors pages words ≡ Some e.why) × (e.device ≡ d)
