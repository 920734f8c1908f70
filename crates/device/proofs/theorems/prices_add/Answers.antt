use Rattle.device.proofs.theorems.prices_add.Goals as goal
use Rattle.device.proofs.Prices.{priced-over}

pub returns : goal.returns
returns g c = λ p q. priced-over p q
