use Rattle.std.proofs.Common.{sym, ◌∙◌}
use Rattle.caching.specs.Cache.{cache_flow}
use Rattle.cache.specs.Serving.{cache_of}
use Rattle.cache.proofs.Served.{get-read}
use Rattle.cache.proofs.serve.CachedPages.get.Goals as goal

pub returns : goal.returns
unfolding cache_flow
returns g c =
    let s = c.args.self.now in
    let u = c.evict-i.new.self in
    get-read g.P.Pages.goes c.args.n (cache_of s) s.pages c.if-n-self.false (sym c.find.ensures.is ∙ c.in_default.is) c.evict-i.result (cache_of u) _ c.get-2.new.into u.pages c.get-2.new.self
    (λ e. c.if-count-eq0.false (c.count.ensures ∙ e)) c.evict-i.ensures.runs c.evict-i.ensures.hand c.get-2.ensures c.fill.ensures
