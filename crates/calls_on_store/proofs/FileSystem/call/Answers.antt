use Rattle.calls_on_store.proofs.Syncs.{whole}
use Rattle.calls_on_store.proofs.Foreign.{refuses-foreign}
use Rattle.calls_on_store.proofs.Played.{plays-call}
use Rattle.calls_on_store.proofs.FileSystem.call.Goals as goal

pub returns : goal.returns
returns g c = record { plays = λ frames. plays-call g.D.Device.steps frames _ _ _ _ _ _ c.serve.ensures; whole = whole; foreign = refuses-foreign }
