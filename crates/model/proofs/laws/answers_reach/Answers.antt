use Rattle.model.proofs.Keeping
use Rattle.model.proofs.laws.answers_reach.Goals as goal

pub returns : goal.returns
returns c = Rattle.model.proofs.Keeping.answers_reach_lem
