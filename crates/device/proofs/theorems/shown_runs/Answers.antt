use Rattle.device.proofs.theorems.shown_runs.Goals as goal
use Rattle.device.proofs.Plays.{shown_runs_lem}

pub returns : goal.returns
returns g c = shown_runs_lem g.S.Shows.showing g.A.Answering.Out
