use Rattle.std.proofs.Common.{sym, refl, ap, ◌∙◌, subst, arith}
use Rattle.device.specs.Flow.{Runs}
use Rattle.device.proofs.Loops.{no-try, try-on, leaves, lasts}
use Rattle.paging.specs.Pages.{Spare}
use Rattle.pages.specs.Of.{page_told}
use Rattle.caching.specs.Frames.{is_marked}
use Rattle.caching.specs.Cache.{spare_after, cache_flow}
use Rattle.cache.specs.declared.frames.Frames.{Frames}
use Rattle.cache.specs.Of.{seen}
use Rattle.cache.specs.Serving.{cache_of}
use Rattle.cache.proofs.Served.{told_as, spare-on, spare-out}
use Rattle.cache.proofs.serve.CachedPages.spare.Goals as goal

pub loop-init : goal.loop-init
loop-init g c = record { frames = refl; tried = no-try refl }

pub loop-preserved : goal.loop-preserved
loop-preserved g c =
    let n = c.unwrap_or-n.result in
    let t = c.spare-found.new.self in
    let q = subst (λ n. g.P.Pages.goes c.loop.self.pages (Spare c.loop.at) n t) (told_as c.spare-found.result n c.unwrap_or-n.ensures) c.spare-found.ensures.told in
    let e = ap (λ (f : Frames). is_marked (seen f) n) (sym c.loop.invariant.frames) ∙ (sym c.is_marked.ensures ∙ c.if-not-is_marked.false) in
    record {
      frames = c.loop.invariant.frames;
      tried = try-on c.loop.invariant.tried (spare-on g.P.Pages.goes (cache_of c.args.self.now) c.loop.counter c.loop.at n c.loop.self.pages t q e);
    }

pub returns-then-not-is_marked-clause-told : goal.returns-then-not-is_marked-clause-told
unfolding cache_flow
returns-then-not-is_marked-clause-told g c =
    let m = cache_of c.args.self.now in
    let o = c.spare-found.result in
    let n = c.unwrap_or-n.result in
    let e = ap (is_marked m) (told_as o n c.unwrap_or-n.ensures) ∙ (ap (λ (f : Frames). is_marked (seen f) n) (sym c.loop.invariant.frames) ∙ (sym c.is_marked.ensures ∙ c.if-not-is_marked.true)) in
    leaves _ (λ _. spare_after c.args.from m) _ _ c.loop.invariant.tried (omega arith)
    (spare-out g.P.Pages.goes m c.loop.counter c.loop.at (page_told o) c.loop.self.pages c.spare-found.new.self c.spare-found.ensures.told (cache_of c.loop.self) e (ap seen (sym c.loop.invariant.frames)))

pub returns-clause-told : goal.returns-clause-told
unfolding cache_flow
returns-clause-told g c =
    let m = cache_of c.args.self.now in
    let t = c.spare_after.new.self in
    lasts _ (λ _. spare_after c.args.from m) _ _ c.loop.invariant.tried (omega arith)
    (subst (λ m. Runs g.P.Pages.goes (spare_after c.args.from m) c.loop.self.pages t.pages (page_told c.spare_after.result, cache_of t)) (ap seen c.loop.invariant.frames) c.spare_after.ensures.runs)
