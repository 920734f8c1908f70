use Rattle.std.proofs.Common.{ℕ, Bool, sym, ap, ◌∙◌, rules, tests}
use Rattle.std.proofs.lemmas.Iterator.Adapters.{option_map_id}
use Rattle.std.proofs.lemmas.Iterator.Search.{find_from_yields_List}
use Rattle.paging.specs.Memory.{vacant}
use Rattle.pages.specs.Flags.{as_place}
use Rattle.pages.specs.Of.{seen}
use Rattle.pages.proofs.Looks.{found-down, yields_down}
use Rattle.pages.proofs.memory.Memory.find_down.Goals as goal

pub returns : goal.returns
returns c =
    let t : ℕ → Bool = vacant (seen c.args.self.now).busy (seen c.args.self.now).held in
    let e = find_from_yields_List t _ _ c.find.result c.find.ensures.ran (yields_down c.args.below c.rev.ensures.source) (λ x b q k. search (rules, tests)) in
    ap as_place (sym (option_map_id c.find.result) ∙ e) ∙ found-down t c.args.below
