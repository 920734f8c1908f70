use Rattle.device.proofs.theorems.reads_sum.Goals as goal
use Rattle.device.proofs.Sums.{call_reads, open_reads}

pub returns : goal.returns
returns g c = let t = g.L.Layered.tower in λ keeps. (call_reads t.judge_below t.below t.layer t.cost keeps, open_reads t.judge_below t.below t.layer t.cost keeps)
