use Rattle.caching.proofs.Layers.{hits, misses, stays-there}
use Rattle.caching.proofs.frames_serve.Goals as goal

pub returns : goal.returns
returns c = (hits, misses, stays-there)
