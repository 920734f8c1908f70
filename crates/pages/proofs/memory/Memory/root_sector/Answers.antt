use Rattle.std.proofs.Common.{refl}
use Rattle.device.specs.Sectors.{blank_sector}
use Rattle.paging.specs.Sectors.{form_bytes}
use Rattle.pages.proofs.Bytes.{root_is}
use Rattle.pages.proofs.memory.Memory.root_sector.Goals as goal

pub returns : goal.returns
returns c =
    root_is form_bytes c.args.label.now blank_sector c.copy_from_slice.new.self c.copy_from_slice-2.new.self c.put_bits.new.sector _ refl c.told-label c.copy_from_slice.ensures.after c.copy_from_slice-2.ensures.after
    c.put_bits.ensures
