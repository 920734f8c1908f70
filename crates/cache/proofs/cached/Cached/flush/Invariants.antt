use Rattle.std.proofs.Common.{◌≡◌, length}
use Rattle.device.proofs.Loops.{Turned}
use Rattle.caching.specs.Cache.{write_back}
use Rattle.cache.specs.Serving.{cache_of}
use Rattle.cache.proofs.cached.Cached.flush.Given as goal

abbrev pub invariant-loop-i : goal.invariant-loop-i
invariant-loop-i g l = record {
  count : length l.self.frames.bytes.now ≡ length l.initial.self.frames.bytes.now;
  turned : Turned g.P.Pages.goes write_back (cache_of l.initial.self) l.initial.self.pages l.i l.self.pages (cache_of l.self);
}
