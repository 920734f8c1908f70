use Rattle.std.proofs.Common.{ℕ, ◌+◌, ◌*◌, ap, ◌∙◌}
use Rattle.pages.proofs.Counts.{from-bool}
use Rattle.pages.proofs.geometry.slot_of.Goals as goal

pub returns : goal.returns
returns c = ap (λ (n : ℕ). 2 * c.args.node + n) (c.from.ensures ∙ from-bool c.args.second)
