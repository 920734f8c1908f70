use Rattle.device.proofs.theorems.layers_compose.Goals as goal
use Rattle.device.proofs.Layers.{layers_compose_lem}

pub returns : goal.returns
returns g c = let t = g.L.Layered.tower in layers_compose_lem _ _ _ _ t.judge_below t.judge t.below t.layer
