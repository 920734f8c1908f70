use Rattle.device.proofs.theorems.reads_then.Goals as goal
use Rattle.device.proofs.Sums.{reads_then_lem}

pub returns : goal.returns
returns g c = reads_then_lem g.A.Answering.Out g.B.Answering.Out
