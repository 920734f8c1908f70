use Rattle.std.proofs.Common.{arith}
use Rattle.pages.proofs.Kept.{marks-more, marks-all}
use Rattle.pages.proofs.memory.Memory.mark.Goals as goal

pub loop-k-preserved : goal.loop-k-preserved
loop-k-preserved c = marks-more c.args.self.now c.loop-k.self c.set.new.self c.args.node c.loop-k.k c.loop-k.invariant (omega arith) c.set.ensures

pub returns : goal.returns
returns c = marks-all c.args.self.now c.loop-k.self c.set-2.new.self c.args.node c.loop-k.k c.loop-k.invariant (omega arith) c.set-2.ensures
