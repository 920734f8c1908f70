use Rattle.device.proofs.MemoryLaws.{memory_plays, memory_runs_lem, memory_cuts}
use Rattle.device.proofs.memory.memory_runs.Goals as goal

pub returns : goal.returns
returns g c = let A = g.A.Answering.Out in record { plays = memory_plays A; runs = memory_runs_lem A; cuts = memory_cuts A }
