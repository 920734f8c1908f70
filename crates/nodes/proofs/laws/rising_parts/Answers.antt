use Rattle.nodes.proofs.Rising.{rising-parts}
use Rattle.nodes.proofs.laws.rising_parts.Goals as goal

pub returns : goal.returns
returns c = rising-parts
