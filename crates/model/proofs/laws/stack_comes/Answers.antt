use Rattle.model.proofs.Chains
use Rattle.model.proofs.laws.stack_comes.Goals as goal

pub returns : goal.returns
returns c = Rattle.model.proofs.Chains.stack_comes_lem
