use Rattle.nodes.proofs.Plain.{never-blank}
use Rattle.nodes.proofs.laws.never_blank.Goals as goal

pub returns : goal.returns
returns c = never-blank
