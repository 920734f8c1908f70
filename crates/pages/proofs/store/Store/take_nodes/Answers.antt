use Rattle.std.proofs.Common.{◌+◌, sym, refl, ap, ◌∙◌, arith}
use Rattle.device.proofs.Loops.{no-turn, turn, all-turns}
use Rattle.paging.specs.Layout.{slot}
use Rattle.pages.proofs.store.Store.take_nodes.Goals as goal

pub loop-i-init : goal.loop-i-init
loop-i-init g c = (refl, refl, no-turn refl)

pub loop-i-preserved : goal.loop-i-preserved
loop-i-preserved g c =
    let e = c.slot_of.ensures ∙ ap (slot (c.loop-i.i + 1)) c.has-second.ensures in
    (c.loop-i.invariant.0, c.take_node.ensures.size ∙ c.loop-i.invariant.1, turn c.loop-i.invariant.2 (_, _, rw e at c.read.ensures, (refl, sym c.take_node.ensures.is)))

pub returns-clause-runs : goal.returns-clause-runs
returns-clause-runs g c = all-turns _ _ c.loop-i.invariant.2 (omega arith) refl
