-- The two halves of a sync.
-- Assumes nothing.
use Rattle.std.specs.Prelude.{ℕ, List}
use Rattle.device.specs.Flow.{answer, ask, first}
use Rattle.device.specs.Plays.{Write, Sync}
use Rattle.paging.specs.Memory.{Mem}
use Rattle.paging.specs.Store.{OnDevice, write_below}

-- the nodes that are to be written, and the root, each for good
abbrev pub nodes_written : Mem → OnDevice (Unit {0})
nodes_written m = first (write_below 3 m 0) (λ _. ask Sync (λ _. answer tt))

abbrev pub root_written : List ℕ → OnDevice (Unit {0})
root_written root = ask (Write 0 root) (λ _. ask Sync (λ _. answer tt))
