use Rattle.std.proofs.Common.{◌+◌, List, ℕ, sym, ap, ◌∙◌}
use Rattle.nodes.specs.Entries.{Entry, blank}
use Rattle.nodes.specs.Page.{word_at, text_at}
use Rattle.nodes.proofs.Entries.{get_or-entries}
use Rattle.nodes.proofs.read.NodePage.value.Goals as goal

pub returns-clause-is : goal.returns-clause-is
returns-clause-is c =
    let p : List ℕ = c.args.self.now.page.now in
    let n = c.from.ensures ∙ c.word.ensures in
    c.text.ensures
    ∙ ap (λ (k : ℕ). text_at p (c.in-Some.at + 2 + k)) n
    ∙ ap (λ (a : ℕ). text_at p (a + 2 + word_at p a)) c.in-Some.ensures.1
    ∙ sym (ap (λ (x : Entry). x.value) (get_or-entries p c.args.i blank c.in-Some.ensures.0))
