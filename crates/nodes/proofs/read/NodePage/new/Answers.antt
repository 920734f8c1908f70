use Rattle.std.proofs.Common.{arith}
use Rattle.nodes.proofs.Entries.{length-entries}
use Rattle.nodes.proofs.read.NodePage.new.Goals as goal

pub invariant_of-result : goal.invariant_of-result
invariant_of-result c = let n = length-entries c.args.page.now in record { whole = c.told-page; counted = omega arith; few = omega arith }
