use Rattle.nodes.proofs.Plain.{bytes-stay}
use Rattle.nodes.proofs.laws.bytes_stay.Goals as goal

pub returns : goal.returns
returns c = bytes-stay
