use Rattle.model.proofs.Cuts
use Rattle.model.proofs.laws.always_tidy.Goals as goal

pub returns : goal.returns
returns c = Rattle.model.proofs.Cuts.always_tidy_lem
