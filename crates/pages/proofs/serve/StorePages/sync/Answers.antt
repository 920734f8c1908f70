use Rattle.std.proofs.Common.{sym, ◌∙◌}
use Rattle.paging.specs.Store.{store_flow}
use Rattle.pages.specs.Of.{seen}
use Rattle.pages.proofs.Served.{sync-same, sync-done}
use Rattle.pages.proofs.serve.StorePages.sync.Goals as goal

pub returns-then-is_unchanged : goal.returns-then-is_unchanged
unfolding store_flow
returns-then-is_unchanged g c = let s = c.args.self.now in sync-same g.D.Device.steps s.label (seen s.memory) s.device c.args.label.now (sym c.is_unchanged.ensures ∙ c.if-is_unchanged.true)

pub returns : goal.returns
unfolding store_flow
returns g c =
    let s = c.args.self.now in
    sync-done g.D.Device.steps s.label (seen s.memory) s.device c.args.label.now c.root_sector-root.result (seen c.tidy.new.self) c.write_nodes.new.device c.write_root.new.device
    (sym c.is_unchanged.ensures ∙ c.if-is_unchanged.false) c.write_nodes.ensures c.root_sector-root.ensures c.write_root.ensures c.tidy.ensures.is
