use Rattle.model.proofs.Weights
use Rattle.model.proofs.laws.sweeps_lighter.Goals as goal

pub returns : goal.returns
returns c = Rattle.model.proofs.Weights.sweeps_lighter_lem
