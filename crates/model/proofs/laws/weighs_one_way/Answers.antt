use Rattle.model.proofs.Weights
use Rattle.model.proofs.laws.weighs_one_way.Goals as goal

pub returns : goal.returns
returns c = Rattle.model.proofs.Weights.weighs_one_way_lem
