use Rattle.device.specs.Plays.{Plays}
use Rattle.calls.proofs.Refusing.{whole}
use Rattle.calls.proofs.FileSystem.call.Goals as goal

pub returns : goal.returns
returns g c = record { plays = Plays.ends; whole = whole }
