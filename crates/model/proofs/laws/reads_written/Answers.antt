use Rattle.model.proofs.Bytes
use Rattle.model.proofs.laws.reads_written.Goals as goal

pub returns : goal.returns
returns c = Rattle.model.proofs.Bytes.reads_written_lem
