use Rattle.std.proofs.Common.{sym, refl}
use Rattle.cache.specs.Serving.{cache_of}
use Rattle.cache.proofs.cached.Cached.evict.Goals as goal

pub returns-clause-runs : goal.returns-clause-runs
returns-clause-runs g c = let t = c.write_back.new.self in (cache_of t, t.pages, c.write_back.ensures.runs, (refl, sym c.turn.ensures))
