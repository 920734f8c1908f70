-- The machine of the file system.
-- Assumes nothing.
use Rattle.std.specs.Prelude.{Bool, false}
use Rattle.device.specs.Program.{answer}
use Rattle.device.specs.Machine.{Machine}
use Rattle.model.specs.Calls.{Call, Reply, No}

-- the calls that are built so far: none, so each is refused by 12
abbrev pub built : Call → Bool
built c = false

abbrev pub machine : Machine Call Reply
machine = record { Mem = Unit {0}; opens = λ size. answer tt; does = λ c m. answer (record { reply = No 12; mem = m }) }
