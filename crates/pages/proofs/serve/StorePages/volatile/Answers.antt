use Rattle.std.proofs.Common.{sym, ◌∙◌}
use Rattle.paging.specs.Store.{store_flow}
use Rattle.pages.specs.Of.{seen}
use Rattle.pages.proofs.Served.{volatile-none, volatile-blank, volatile-moved}
use Rattle.pages.proofs.serve.StorePages.volatile.Goals as goal

pub returns-then-not-has : goal.returns-then-not-has
unfolding store_flow
returns-then-not-has g c = let s = c.args.self.now in volatile-none g.D.Device.steps s.label (seen s.memory) s.device c.args.n (sym c.has.ensures ∙ c.if-not-has.true)

pub returns-then-is_some : goal.returns-then-is_some
unfolding store_flow
returns-then-is_some g c =
    let s = c.args.self.now in
    volatile-moved g.D.Device.steps s.label (seen s.memory) s.device c.args.n c.place-place.result (seen c.move_page.new.self) (sym c.has.ensures ∙ c.if-not-has.false) c.place-place.ensures (sym c.is_some.ensures ∙ c.if-is_some.true)
    c.move_page.ensures.is

pub returns-else-is_some : goal.returns-else-is_some
unfolding store_flow
returns-else-is_some g c =
    let s = c.args.self.now in
    volatile-blank g.D.Device.steps s.label (seen s.memory) s.device c.args.n c.place-place.result (sym c.has.ensures ∙ c.if-not-has.false) c.place-place.ensures (sym c.is_some.ensures ∙ c.if-is_some.false)
