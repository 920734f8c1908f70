use Rattle.std.proofs.Common.{true, sym, refl, ◌∙◌}
use Rattle.cache.specs.Serving.{cache_of}
use Rattle.cache.proofs.Served.{with_some}
use Rattle.cache.proofs.cached.Cached.put_with.Goals as goal

pub returns-in-Some : goal.returns-in-Some
returns-in-Some g c =
    let u = c.frame_for-i.new.self in
    with_some c.in-Some.tag (sym c.staying.ensures ∙ c.in-Some.is) ((c.frame_for-i.result, cache_of u), u.pages, c.frame_for-i.ensures.runs, (refl, λ j. (true, sym c.fill.ensures j)))
