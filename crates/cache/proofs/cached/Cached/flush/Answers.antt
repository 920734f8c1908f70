use Rattle.std.proofs.Common.{refl, ◌∙◌, arith}
use Rattle.device.proofs.Loops.{no-turn, turn, all-turns}
use Rattle.cache.proofs.cached.Cached.flush.Goals as goal

pub loop-i-init : goal.loop-i-init
loop-i-init g c = record { count = refl; turned = no-turn refl }

pub loop-i-preserved : goal.loop-i-preserved
loop-i-preserved g c = record { count = c.write_back.ensures.count ∙ c.loop-i.invariant.count; turned = turn c.loop-i.invariant.turned c.write_back.ensures.runs }

pub returns : goal.returns
returns g c = all-turns _ _ c.loop-i.invariant.turned (omega arith) refl
