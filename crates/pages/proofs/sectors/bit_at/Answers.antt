use Rattle.std.proofs.Common.{◌+◌, ◌/◌, ◌%◌, get_or}
use Rattle.pages.proofs.Bytes.{bit_is}
use Rattle.pages.proofs.sectors.bit_at.Goals as goal

pub returns : goal.returns
returns c = bit_is (c.args.b % 8) (get_or c.args.sector.now (256 + c.args.b / 8) 0)
