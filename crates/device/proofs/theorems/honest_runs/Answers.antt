use Rattle.device.proofs.theorems.honest_runs.Goals as goal
use Rattle.device.proofs.Plays.{honest_runs_lem, honest_plays}

pub returns : goal.returns
returns g c = (honest_runs_lem g.A.Answering.Out, honest_plays g.A.Answering.Out)
