use Rattle.caching.proofs.Layers.{over-store}
use Rattle.caching.proofs.over_store.Goals as goal

pub returns : goal.returns
returns c = over-store
