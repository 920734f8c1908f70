use Rattle.nodes.proofs.Plain.{one-node}
use Rattle.nodes.proofs.laws.one_node.Goals as goal

pub returns : goal.returns
returns c = one-node
