use Rattle.nodes.proofs.Fronts.{front-is-shortest}
use Rattle.nodes.proofs.laws.front_is_shortest.Goals as goal

pub returns : goal.returns
returns c = front-is-shortest
