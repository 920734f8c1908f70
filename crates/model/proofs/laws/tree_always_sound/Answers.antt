use Rattle.model.proofs.Keeping
use Rattle.model.proofs.laws.tree_always_sound.Goals as goal

pub returns : goal.returns
returns c = Rattle.model.proofs.Keeping.always_sound
