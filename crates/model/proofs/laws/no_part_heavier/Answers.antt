use Rattle.model.proofs.Weights
use Rattle.model.proofs.laws.no_part_heavier.Goals as goal

pub returns : goal.returns
returns c = Rattle.model.proofs.Weights.no_part_heavier_lem
