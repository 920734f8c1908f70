use Rattle.model.proofs.Writes
use Rattle.model.proofs.laws.reads_back.Goals as goal

pub returns : goal.returns
returns c = Rattle.model.proofs.Writes.reads_back_lem
