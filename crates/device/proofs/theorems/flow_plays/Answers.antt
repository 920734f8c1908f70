use Rattle.device.proofs.theorems.flow_plays.Goals as goal
use Rattle.device.proofs.Flows.{flow_plays_lem}

pub returns : goal.returns
returns g c = flow_plays_lem g.F.Flows.flowing
