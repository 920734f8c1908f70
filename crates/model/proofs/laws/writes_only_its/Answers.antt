use Rattle.model.proofs.Writes
use Rattle.model.proofs.laws.writes_only_its.Goals as goal

pub returns : goal.returns
returns c = Rattle.model.proofs.Writes.only_its
