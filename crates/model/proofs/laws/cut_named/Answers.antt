use Rattle.model.proofs.Cuts
use Rattle.model.proofs.laws.cut_named.Goals as goal

pub returns : goal.returns
returns c = Rattle.model.proofs.Cuts.cut_named_lem
