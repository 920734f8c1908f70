use Rattle.std.proofs.Common.{refl, ◌∙◌, arith}
use Rattle.device.proofs.Loops.{no-turn, turn, all-turns}
use Rattle.pages.proofs.store.Store.reclaim_pages.Goals as goal

pub loop-n-init : goal.loop-n-init
loop-n-init g c = (refl, refl, no-turn refl)

pub loop-n-preserved : goal.loop-n-preserved
loop-n-preserved g c =
    (c.reclaim_page.ensures.label ∙ c.loop-n.invariant.0, c.reclaim_page.ensures.size ∙ c.loop-n.invariant.1, turn c.loop-n.invariant.2 c.reclaim_page.ensures.runs)

pub returns-clause-runs : goal.returns-clause-runs
returns-clause-runs g c = all-turns _ _ c.loop-n.invariant.2 (omega arith) refl
