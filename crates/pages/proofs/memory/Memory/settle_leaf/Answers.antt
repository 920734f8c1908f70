use Rattle.std.proofs.Common.{sym, refl}
use Rattle.pages.specs.Of.{seen}
use Rattle.pages.proofs.Kept.{settled_from-none, next-settled}
use Rattle.pages.proofs.memory.Memory.settle_leaf.Goals as goal

pub loop-i-init : goal.loop-i-init
loop-i-init c = record { is = sym (settled_from-none c.args.first (seen c.args.self.now)); size = refl }

pub loop-i-preserved : goal.loop-i-preserved
loop-i-preserved c = next-settled c.args.self.now c.loop-i.self c.settle_at.new.self c.loop-i.i c.args.first c.loop-i.invariant c.settle_at.ensures
