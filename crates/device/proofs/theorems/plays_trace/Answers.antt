use Rattle.device.proofs.theorems.plays_trace.Goals as goal
use Rattle.device.proofs.Plays.{plays_trace_lem}

pub returns : goal.returns
returns g c = plays_trace_lem g.L.Layered.tower.below
