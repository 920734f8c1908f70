use Rattle.std.proofs.Common.{◌≡◌}
use Rattle.device.proofs.Loops.{Tried}
use Rattle.caching.specs.Cache.{spare_turn}
use Rattle.cache.specs.Serving.{cache_of}
use Rattle.cache.proofs.serve.CachedPages.spare.Given as goal

abbrev pub invariant-loop : goal.invariant-loop
invariant-loop g l = record {
  frames : l.self.frames ≡ l.initial.self.frames;
  tried : Tried g.P.Pages.goes (spare_turn (cache_of l.initial.self)) l.from l.initial.self.pages l.counter l.self.pages l.at;
}
