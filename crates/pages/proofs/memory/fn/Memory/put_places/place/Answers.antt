use Rattle.std.proofs.Common.{ap, ◌∙◌}
use Rattle.paging.specs.Sectors.{bytes_le}
use Rattle.pages.proofs.Bytes.{le_is}
use Rattle.pages.proofs.memory.fn.Memory.put_places.place.Goals as goal

pub returns : goal.returns
returns c = c.to_le_bytes.ensures ∙ (le_is c.number_of.result ∙ ap (bytes_le 8) (c.number_of.ensures ∙ c.durable_at.ensures.is))
