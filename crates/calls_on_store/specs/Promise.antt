-- What is promised of a card of another form, beside the promise `Whole` of the crate `calls`.
-- Assumes nothing.
use Rattle.std.specs.Prelude.{◌≡◌, ℕ, false}
use Rattle.device.specs.Sectors.{Device, shown}
use Rattle.device.specs.Program.{run}
use Rattle.device.specs.Machine.{Machine}
use Rattle.paging.specs.Sectors.{root_known}
use Rattle.model.specs.Calls.{Call, Reply, No}

-- A CARD OF ANOTHER FORM, on a device of any size: coming up leaves the device as it is, and so does every call, which is refused by 19. No trace from a blank card leads there, so it is said apart.
abbrev pub RefusesForeign : Machine Call Reply → Type 0
RefusesForeign e =
    (size : ℕ) (d : Device) → root_known (shown d 0) ≡ false → ((run (e.opens size) d).device ≡ d) ×
    ((c : Call) →
    ((run (e.does c (run (e.opens size) d).value) d).value.reply ≡ No 19) × ((run (e.does c (run (e.opens size) d).value) d).value.mem ≡ (run (e.opens size) d).value) ×
    ((run (e.does c (run (e.opens size) d).value) d).device ≡ d))
