use Rattle.std.proofs.Common.{rules}
use Rattle.std.proofs.lemmas.Result.{IfOk-weaker}
use Rattle.lines.proofs.Printed.{are-bytes, text-back}
use Rattle.lines.proofs.notations.Notation.text.Goals as goal

pub returns-clause-back : goal.returns-clause-back
returns-clause-back c =
    let bs = c.args.bytes.now in
    IfOk-weaker c.to_string.result _ _ (λ s e. text-back c.args.self bs _ (are-bytes bs (λ i. (c.type_inv.bytes i).fits)) e) (search rules)
