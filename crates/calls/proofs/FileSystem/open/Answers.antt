use Rattle.std.proofs.Common.{rules}
use Rattle.device.specs.Plays.{Plays}
use Rattle.calls.proofs.FileSystem.open.Goals as goal

pub returns-in-None : goal.returns-in-None
returns-in-None g c = (search rules, Plays.ends)
