use Rattle.std.proofs.Common.{get_or, sym, refl, ◌∙◌, rules}
use Rattle.std.proofs.lemmas.List.{get_or_read_under}
use Rattle.device.specs.Sectors.{blank_sector}
use Rattle.device.proofs.MemoryLaws.{shows-now}
use Rattle.device.proofs.memory.MemoryDevice.read.Goals as goal

-- What stands at the sector is the latest that was written.
pub returns-then-at-sectors : goal.returns-then-at-sectors
returns-then-at-sectors c =
    let v = c.args.self.now.shown in
    record {
      size = search rules;
      power = search rules;
      inside = λ on within.
          record {
            honestly = (get_or_read_under v.items c.args.at v.len c.index.result.now blank_sector c.index.ensures within v.ok.0 ∙ sym (shows-now c.args.at (get_or v.items c.args.at blank_sector) c.args.self.now.log.items), refl);
            counting = search rules;
          };
      dark = search rules;
      outside = λ no. absurd (no (search rules));
    }
