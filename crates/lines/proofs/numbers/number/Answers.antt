use Rattle.std.proofs.Common.{◌∙◌, rules}
use Rattle.lines.proofs.Digits.{parsed}
use Rattle.lines.proofs.numbers.number.Goals as goal

pub returns : goal.returns
returns c =
    let w = c.args.word.now in
    c.or.ensures ∙ parsed w c.parse.result (search rules) (search rules) (rw c.from_utf8_unchecked-digits.ensures at c.parse.ensures.value.0)
