use Rattle.nodes.proofs.Firsts.{first-is-first}
use Rattle.nodes.proofs.laws.first_is_first.Goals as goal

pub returns : goal.returns
returns c = first-is-first
