use Rattle.std.proofs.Common.{sym, ◌∙◌}
use Rattle.paging.specs.Store.{store_flow}
use Rattle.pages.specs.Of.{seen}
use Rattle.pages.proofs.Served.{left_up, left_down}
use Rattle.pages.proofs.serve.StorePages.left.Goals as goal

pub returns-then-is_some : goal.returns-then-is_some
unfolding store_flow
returns-then-is_some g c = let s = c.args.self.now in left_up g.D.Device.steps s.label (seen s.memory) s.device (sym c.is_some.ensures ∙ c.if-is_some.true)

pub returns-else-is_some : goal.returns-else-is_some
unfolding store_flow
returns-else-is_some g c = let s = c.args.self.now in left_down g.D.Device.steps s.label (seen s.memory) s.device (sym c.is_some.ensures ∙ c.if-is_some.false)
