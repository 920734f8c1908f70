use Rattle.std.proofs.Common.{◌<◌, length, sym, ◌∙◌, arith}
use Rattle.std.proofs.lemmas.List.{nil_from_length}
use Rattle.device.specs.Sectors.{blank_sector}
use Rattle.device.proofs.MemoryLaws.{forgets, undoes, left_after}
use Rattle.device.proofs.memory.Memory.cut.Goals as goal

pub loop-write-preserved-then-write-sectors : goal.loop-write-preserved-then-write-sectors
loop-write-preserved-then-write-sectors c =
    let m = c.loop-write.self in
    let w = c.in-Some.write in
    let l : w.at < length m.shown.items = omega (arith, m.shown.ok.0) in
    (λ s x h. c.loop-write.invariant.0 s x (undoes blank_sector m.shown.items m.log.items w c.pop.new.self.items c.in-Some.ensures.items l s x h), c.loop-write.invariant.1, c.loop-write.invariant.2)

pub loop-write-preserved : goal.loop-write-preserved
loop-write-preserved c =
    let m = c.loop-write.self in
    (λ s x h. c.loop-write.invariant.0 s x (forgets blank_sector m.shown.items m.log.items c.in-Some.write c.pop.new.self.items c.in-Some.ensures.items s x h), c.loop-write.invariant.1, c.loop-write.invariant.2)

pub returns-clause-view : goal.returns-clause-view
returns-clause-view c =
    let m = c.args.self.now in
    let last = c.loop-write.self in
    let none = c.in_default.ensures.cases in
    let es = nil_from_length last.log.items (sym last.log.ok.0 ∙ none.0) in
    let vs = nil_from_length c.pop.new.self.items (sym c.pop.new.self.ok.0 ∙ none.1) in
    left_after blank_sector m.shown.items m.log.items last.shown.items last.log.items c.pop.new.self.items es vs c.loop-write.invariant.0
