use Rattle.std.proofs.Common.{ℕ, List, length, set, ap, ◌∙◌, arith}
use Rattle.nodes.proofs.Puts.{start_is}
use Rattle.nodes.proofs.build.start.Goals as goal

pub returns : goal.returns
returns c =
    record {
      bytes = ap (λ (x : List ℕ). set (set x 0 183) 1 c.args.level) (c.fill.ensures.after (λ y e. e)) ∙ start_is (length c.args.page.now) c.args.level c.told-page;
      fits = omega arith;
    }
