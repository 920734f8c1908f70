use Rattle.model.proofs.Rows
use Rattle.model.proofs.laws.examples_hold.Goals as goal

pub returns : goal.returns
returns c = Rattle.model.proofs.Rows.examples_hold_lem
