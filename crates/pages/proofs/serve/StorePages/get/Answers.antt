use Rattle.std.proofs.Common.{◌≡◌, ℕ, replicate, sym, ap, ◌∙◌}
use Rattle.paging.specs.Store.{store_flow}
use Rattle.pages.specs.Of.{seen}
use Rattle.pages.proofs.Served.{get-blank, get-read}
use Rattle.pages.proofs.serve.StorePages.get.Goals as goal

pub returns-in-None : goal.returns-in-None
unfolding store_flow
returns-in-None g c =
    let s = c.args.self.now in
    let f : c.fill.new.self ≡ replicate 4096 0 = c.fill.ensures.after (λ y e. e) ∙ ap (λ (n : ℕ). replicate n 0) c.told-into in
    get-blank g.D.Device.steps s.label (seen s.memory) s.device c.args.n c.fill.new.self (sym c.in-None.ensures) f

pub returns-in-Some : goal.returns-in-Some
unfolding store_flow
returns-in-Some g c =
    let s = c.args.self.now in
    get-read g.D.Device.steps s.label (seen s.memory) s.device c.args.n c.in-Some.p c.home-home.result c.read_page.new.page c.read_page.new.device c.in-Some.ensures c.home-home.ensures c.read_page.ensures
