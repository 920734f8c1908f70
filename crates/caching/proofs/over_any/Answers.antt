use Rattle.caching.proofs.Layers.{over_any}
use Rattle.caching.proofs.over_any.Goals as goal

pub returns : goal.returns
returns g c = over_any g.M.PageMachine.machine
