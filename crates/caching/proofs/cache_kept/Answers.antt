use Rattle.caching.proofs.Layers.{cache-kept}
use Rattle.caching.proofs.cache_kept.Goals as goal

pub returns : goal.returns
returns c = cache-kept
