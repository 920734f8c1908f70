use Rattle.std.proofs.Common.{List, ℕ, sym, ap, ◌∙◌, arith}
use Rattle.nodes.specs.Entries.{Entry, blank}
use Rattle.nodes.specs.Page.{text_at}
use Rattle.nodes.proofs.Entries.{get_or-entries}
use Rattle.nodes.proofs.read.NodePage.key.Goals as goal

pub returns-clause-is : goal.returns-clause-is
returns-clause-is c =
    let p : List ℕ = c.args.self.now.page.now in
    c.text.ensures ∙ ap (text_at p) (omega arith) ∙ sym (ap (λ (x : Entry). x.key) (get_or-entries p c.args.i blank c.in-Some.ensures.0))
