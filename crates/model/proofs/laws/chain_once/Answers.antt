use Rattle.model.proofs.Chains
use Rattle.model.proofs.laws.chain_once.Goals as goal

pub returns : goal.returns
returns c = Rattle.model.proofs.Chains.chain_once_lem
