use Rattle.std.proofs.Common.{ℕ, true, false, Ok, Err, List, sym, ap, ◌∙◌, arith}
use Rattle.model.specs.Tree.{same_name}
use Rattle.nodes.specs.Entries.{Entry}
use Rattle.nodes.specs.Page.{entries_of}
use Rattle.nodes.proofs.Firsts.{found-none, found-at}
use Rattle.nodes.proofs.Order.{same-eq}
use Rattle.nodes.proofs.read.NodePage.find.Goals as goal
use Rattle.nodes.proofs.read.NodePage.find.Goals.{else-at-count-via-then-at-count+else-eq, else-at-count-via-else-at-count}

pub returns-then-eq-clause-is : goal.returns-then-eq-clause-is
returns-then-eq-clause-is c =
    let k : List ℕ = c.args.sought.now in
    let es : List Entry = entries_of c.args.self.now.page.now in
    ap Ok (omega arith) ∙ found-at k es c.first_from-at.result true (sym c.first_from-at.ensures.is) (omega arith) (same-eq k c.key.result.now true c.if-eq.ensures ∙ ap (same_name k) c.key.ensures.is)

pub returns-else-at-count-clause-is : goal.returns-else-at-count-clause-is
returns-else-at-count-clause-is c =
    let k : List ℕ = c.args.sought.now in
    let es : List Entry = entries_of c.args.self.now.page.now in
    ap Err (omega arith) ∙ elim c.else-at-count.branch [
      | else-at-count-via-then-at-count+else-eq w ↦
          found-at k es c.first_from-at.result false (sym c.first_from-at.ensures.is) (omega arith) (same-eq k w.key.result.now false w.if-eq.ensures ∙ ap (same_name k) w.key.ensures.is)
      | else-at-count-via-else-at-count w ↦ found-none k es c.first_from-at.result (sym c.first_from-at.ensures.is) (omega arith)
    ]
