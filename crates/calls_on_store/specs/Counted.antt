-- What coming up tells of the sectors that it reads.
-- Assumes nothing.
use Rattle.std.specs.Prelude.{◌≡◌, ℕ}
use Rattle.device.specs.Sectors.{Device}
use Rattle.device.specs.Program.{run, reads_of}
use Rattle.calls_on_store.specs.Files.{machine}
use Rattle.calls_on_store.specs.Of.{up_reads}

-- On any device it reads just as many sectors as it tells.
abbrev pub OpenCounted : ℕ → Type 0
OpenCounted frames = (size : ℕ) (d : Device) → reads_of ((machine frames).opens size) d ≡ up_reads size (run ((machine frames).opens size) d).value.above.known
