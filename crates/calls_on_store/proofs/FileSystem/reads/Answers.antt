use Rattle.std.proofs.Common.{refl}
use Rattle.calls_on_store.proofs.Counted.{open-counted}
use Rattle.calls_on_store.proofs.FileSystem.reads.Goals as goal

pub returns : goal.returns
returns g c = record { value = refl; counted = open-counted }
