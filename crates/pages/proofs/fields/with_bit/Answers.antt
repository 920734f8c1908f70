use Rattle.pages.proofs.Setting.{flag_on, flag_off}
use Rattle.pages.proofs.fields.with_bit.Goals as goal

pub returns-then-on : goal.returns-then-on
returns-then-on c = rw c.if-on.true (flag_on c.args.word c.args.bit c.requires.0 c.requires.1)

pub returns-else-on : goal.returns-else-on
returns-else-on c = rw c.if-on.false (flag_off c.args.word c.args.bit c.requires.0 c.requires.1)
