use Rattle.std.proofs.Common.{refl}
use Rattle.pages.specs.Of.{seen}
use Rattle.pages.proofs.Kept.{bits_none, bits-more}
use Rattle.pages.proofs.memory.Memory.take_bits.Goals as goal

pub loop-b-init : goal.loop-b-init
loop-b-init c = record { is = bits_none c.args.node c.args.sector.now (seen c.args.self.now); size = refl }

pub loop-b-preserved : goal.loop-b-preserved
loop-b-preserved c = bits-more c.args.self.now c.loop-b.self c.take_bit.new.self c.loop-b.b c.args.node c.args.sector.now c.loop-b.invariant c.take_bit.ensures
