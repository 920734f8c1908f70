use Rattle.nodes.proofs.Plain.{reads-back}
use Rattle.nodes.proofs.laws.reads_back.Goals as goal

pub returns : goal.returns
returns c = reads-back
