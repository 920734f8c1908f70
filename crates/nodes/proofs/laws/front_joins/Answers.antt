use Rattle.nodes.proofs.Fronts.{front-joins}
use Rattle.nodes.proofs.laws.front_joins.Goals as goal

pub returns : goal.returns
returns c = front-joins
