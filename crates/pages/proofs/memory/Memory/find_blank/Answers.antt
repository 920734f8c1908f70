use Rattle.std.proofs.Common.{◌-◌, ℕ, Bool, eqb, refl, sym, ap, ◌∙◌, rules, tests}
use Rattle.std.proofs.lemmas.Iterator.{YieldsList-from_range}
use Rattle.std.proofs.lemmas.Iterator.Adapters.{option_map_id}
use Rattle.std.proofs.lemmas.Iterator.Search.{find_from_yields_List}
use Rattle.pages.specs.Of.{page_told, seen}
use Rattle.pages.proofs.Looks.{found-blank}
use Rattle.pages.proofs.memory.Memory.find_blank.Goals as goal

pub returns-clause-told : goal.returns-clause-told
returns-clause-told c =
    let m = seen c.args.self.now in
    let t : ℕ → Bool = λ n. eqb (m.now n) 0 in
    let n = c.args.to - c.args.from in
    let e = find_from_yields_List t _ _ c.find.result c.find.ensures.ran (YieldsList-from_range c.args.from c.args.to n refl refl) (λ x b q k. search (rules, tests)) in
    ap page_told (sym (option_map_id c.find.result) ∙ e) ∙ found-blank m n c.args.from
