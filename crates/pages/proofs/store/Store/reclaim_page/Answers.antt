use Rattle.pages.specs.Of.{seen}
use Rattle.pages.proofs.Served.{reclaim-same, reclaim-apart}
use Rattle.pages.proofs.store.Store.reclaim_page.Goals as goal

pub returns-then-same_pages-clause-runs : goal.returns-then-same_pages-clause-runs
returns-then-same_pages-clause-runs g c =
    let s = c.args.self.now in
    reclaim-same g.D.Device.steps (seen s.memory) s.device c.args.n c.in-Some.now c.in-Some.synced c.home.result c.home-2.result c.same_pages.new.device c.in-Some.ensures c.home.ensures c.home-2.ensures c.same_pages.result c.same_pages.ensures
    c.if-same_pages.true (seen c.move_page.new.self) c.has-volatile.result c.has-volatile.ensures c.move_page.ensures.is

pub returns-else-same_pages-clause-runs : goal.returns-else-same_pages-clause-runs
returns-else-same_pages-clause-runs g c =
    let s = c.args.self.now in
    reclaim-apart g.D.Device.steps (seen s.memory) s.device c.args.n c.in-Some.now c.in-Some.synced c.home.result c.home-2.result c.same_pages.new.device c.in-Some.ensures c.home.ensures c.home-2.ensures c.same_pages.result c.same_pages.ensures
    c.if-same_pages.false
