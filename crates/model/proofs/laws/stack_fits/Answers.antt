use Rattle.model.proofs.Chains
use Rattle.model.proofs.laws.stack_fits.Goals as goal

pub returns : goal.returns
returns c = Rattle.model.proofs.Chains.stack_fits_lem
