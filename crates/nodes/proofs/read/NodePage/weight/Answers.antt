use Rattle.std.proofs.Common.{◌∙◌}
use Rattle.nodes.proofs.Nodes.{weight-at}
use Rattle.nodes.proofs.read.NodePage.weight.Goals as goal

pub returns-clause-is : goal.returns-clause-is
returns-clause-is c l es h = c.word.ensures ∙ weight-at h
