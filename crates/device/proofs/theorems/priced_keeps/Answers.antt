use Rattle.device.proofs.theorems.priced_keeps.Goals as goal
use Rattle.device.proofs.Prices.{keeps, within}

pub returns : goal.returns
returns g c = λ p. (keeps p, within p)
