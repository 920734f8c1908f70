use Rattle.std.proofs.Common.{rules}
use Rattle.std.specs.List.{each_same}
use Rattle.device.specs.Sectors.{blank_sector}
use Rattle.device.proofs.MemoryLaws.{seen-blank}
use Rattle.device.proofs.memory.Memory.new.Goals as goal

pub returns : goal.returns
returns c =
    let v = c.in_ok-vec.field-0 in
    let e = c.in_ok-vec.ensures.items_if_clones_equal (λ y h. each_same _ _ h.whole) in
    record {
      size = search rules;
      view = seen-blank blank_sector c.args.sectors v.items c.new.result.items e c.new.ensures.items;
      power = search rules;
      counts = search rules;
    }
