use Rattle.nodes.proofs.Fitting.{fitting-is-longest}
use Rattle.nodes.proofs.laws.fitting_is_longest.Goals as goal

pub returns : goal.returns
returns c = fitting-is-longest
