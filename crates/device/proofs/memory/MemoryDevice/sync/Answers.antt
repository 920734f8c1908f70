use Rattle.std.proofs.Common.{ap, ◌∙◌, rules}
use Rattle.device.specs.Sectors.{blank_sector}
use Rattle.device.proofs.MemoryLaws.{seen, seen-synced}
use Rattle.device.proofs.memory.MemoryDevice.sync.Goals as goal

-- With the log forgotten, what each sector shows is kept.
pub returns-then-spend : goal.returns-then-spend
returns-then-spend c =
    let xs = c.args.self.now.shown.items in
    record {
      size = search rules;
      power = search rules;
      inside = λ on within.
          record {
            honestly = ap (seen blank_sector xs) c.clear.ensures.items ∙ seen-synced blank_sector xs c.args.self.now.log.items;
            counting = search rules;
          };
      dark = search rules;
      outside = λ no. absurd (no tt);
    }
