use Rattle.std.proofs.Common.{◌≡◌, take, arith}
use Rattle.std.proofs.lemmas.Grind.{common_steps}
use Rattle.lines.specs.Bytes.{all_text}
use Rattle.lines.proofs.Printed.{are-bytes}
use Rattle.lines.proofs.Roundtrips.{text_utf8}
use Rattle.lines.proofs.notations.Notation.put_all.Goals as goal

pub returns-clause-utf8 : goal.returns-clause-utf8
returns-clause-utf8 c =
    let bs = c.args.bytes.now in
    let e : take c.loop-byte.end c.loop-byte.text ≡ all_text c.args.self bs = grind (arith, common_steps) in
    rw e (text_utf8 c.args.self bs (are-bytes bs (λ i. (c.type_inv.bytes i).fits)))
