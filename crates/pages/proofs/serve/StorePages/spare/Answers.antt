use Rattle.std.proofs.Common.{not, ap, ◌∙◌}
use Rattle.paging.specs.Store.{store_flow}
use Rattle.pages.specs.Of.{seen}
use Rattle.pages.proofs.Served.{spare-up, spare-down}
use Rattle.pages.proofs.serve.StorePages.spare.Goals as goal

pub returns-then-is_none-clause-told : goal.returns-then-is_none-clause-told
unfolding store_flow
returns-then-is_none-clause-told g c = let s = c.args.self.now in spare-down g.D.Device.steps s.label (seen s.memory) s.device c.args.from (c.is_none.ensures ∙ ap not c.if-is_none.true)

pub returns-clause-told : goal.returns-clause-told
unfolding store_flow
returns-clause-told g c =
    let s = c.args.self.now in spare-up g.D.Device.steps s.label (seen s.memory) s.device c.args.from _ (c.is_none.ensures ∙ ap not c.if-is_none.false) c.spare_from.ensures.told
