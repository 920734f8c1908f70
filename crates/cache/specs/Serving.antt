-- What the whole cache is to its layer.
-- Assumes nothing.
use Rattle.caching.specs.Frames.{Cache}
use Rattle.cache.specs.declared.cached.Cached.{Cached}
use Rattle.cache.specs.Of.{seen}

abbrev pub cache_of : {P : Type 0} → Cached P → Cache
cache_of c = seen c.frames
