use Rattle.std.proofs.Common.{sym, arith}
use Rattle.pages.specs.Of.{seen}
use Rattle.pages.proofs.Kept.{durable-beyond}
use Rattle.pages.proofs.memory.Memory.durable_at.Goals as goal

pub returns-else-n-pages-clause-is : goal.returns-else-n-pages-clause-is
returns-else-n-pages-clause-is c = sym (durable-beyond (seen c.args.self.now) c.args.n c.args.self.now.inside (omega arith))
