use Rattle.model.proofs.Chains
use Rattle.model.proofs.laws.chain_above.Goals as goal

pub returns : goal.returns
returns c = Rattle.model.proofs.Chains.chain_above_lem
