use Rattle.device.proofs.theorems.within_over.Goals as goal
use Rattle.device.proofs.Layers.{within_over_lem}

pub returns : goal.returns
returns g c = let t = g.L.Layered.tower in within_over_lem _ _ _ _ t.below t.layer
