use Rattle.std.proofs.Common.{◌≡◌, ℕ, true, false, Bool, not, List, ap, sym, ◌∙◌, rules}
use Rattle.std.specs.Option.{unwrap_or}
use Rattle.std.proofs.lemmas.Iterator.{IsFirst-from_position}
use Rattle.std.proofs.lemmas.Iterator.Consumers.{YieldsList-from_first}
use borrow.Author.Tests.{tests}
use Rattle.model.specs.Tree.{less_name}
use Rattle.nodes.specs.Entries.{Entry, entry_of}
use Rattle.nodes.specs.Page.{entries_of}
use Rattle.nodes.proofs.Firsts.{first-index}
use Rattle.nodes.proofs.Order.{less-ge}
use Rattle.nodes.proofs.read.NodePage.first_from.Goals as goal

pub returns-clause-is : goal.returns-clause-is
returns-clause-is c =
    let k : List ℕ = c.args.sought.now in
    let es : List Entry = entries_of c.args.self.now.page.now in
    let t : Entry → Bool = λ e. not (less_name e.key k) in
    let a = first-index t es c.position-place.result
    (IsFirst-from_position c.position-place.new.self _ c.position-place.result (λ e. t e ≡ true) (λ e. t e ≡ false) c.position-place.ensures.ran
    (YieldsList-from_first (λ x. entry_of x.0.now x.1.now) (λ s. s) es c.entries.ensures)
    (λ x q h. sym (less-ge x.0.now k true (search (rules, tests)))) (λ x q h. (search (rules, tests), sym (less-ge x.0.now k false (search (rules, tests)))))) in
    c.unwrap_or.ensures ∙ ap (unwrap_or c.position-place.result) c.count.ensures ∙ sym a
