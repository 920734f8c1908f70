use Rattle.device.proofs.theorems.plays_down.Goals as goal
use Rattle.device.proofs.Plays.{plays_through, plays_over, plays_stacked}

pub returns : goal.returns
returns g c = let f = g.F.Floored.floors in λ all. (plays_through f.store all f.Out, plays_over f.store all f.layer, plays_stacked f.store all f.layer)
