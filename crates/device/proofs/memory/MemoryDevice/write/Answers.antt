use Rattle.std.proofs.Common.{set, refl, ap, ◌∙◌, arith, rules}
use Rattle.std.proofs.lemmas.List.{get_or_read_under}
use Rattle.device.specs.Sectors.{blank_sector}
use Rattle.device.proofs.MemoryLaws.{seen, seen-written}
use Rattle.device.proofs.memory.MemoryDevice.write.Goals as goal

-- The log has what the write replaced.
pub returns-in-Ok : goal.returns-in-Ok
returns-in-Ok c =
    let v = c.args.self.now.shown in
    let at = c.args.at in
    let bs = c.args.bytes.now in
    let was = c.index-was.result.now in
    record {
      size = search rules;
      power = search rules;
      inside = λ on within.
          record {
            honestly = ap (seen blank_sector (set v.items at bs)) c.in-Ok.ensures.items ∙ seen-written blank_sector v.items c.args.self.now.log.items at bs (record { at = at; was = was }) (omega (arith, v.ok.0)) refl (get_or_read_under v.items at v.len was blank_sector c.index-was.ensures within v.ok.0);
            counting = search rules;
          };
      dark = search rules;
      outside = λ no. absurd (no (search rules));
    }
