use Rattle.model.proofs.Steps
use Rattle.model.proofs.laws.paths_come.Goals as goal

pub returns : goal.returns
returns c = Rattle.model.proofs.Steps.comes
