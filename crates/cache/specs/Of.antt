-- What the cache's values are to its layer.
-- Assumes nothing.
use Rattle.caching.specs.Frames.{Cache}
use Rattle.cache.specs.declared.frames.Frames.{Frames}

abbrev pub seen : Frames → Cache
seen f = record { numbers = f.numbers; frames = f.bytes.now; tags = f.tags; hand = f.hand }
