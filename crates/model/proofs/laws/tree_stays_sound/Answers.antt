use Rattle.model.proofs.Keeping
use Rattle.model.proofs.laws.tree_stays_sound.Goals as goal

pub returns : goal.returns
returns c = Rattle.model.proofs.Keeping.stays_sound
