use Rattle.model.proofs.Cuts
use Rattle.model.proofs.laws.now_is_first.Goals as goal

pub returns : goal.returns
returns c = Rattle.model.proofs.Cuts.now_is_first_lem
