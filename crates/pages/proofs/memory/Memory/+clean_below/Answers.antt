use Rattle.std.proofs.Common.{◌-◌, sym, refl, ◌∙◌, inl, inr, arith}
use Rattle.paging.specs.Memory.{cleaned_below}
use Rattle.pages.specs.Of.{seen}
use Rattle.pages.proofs.Kept.{children-none, child-cleaned, child-left, below_all, below_none, ends_at}
use Rattle.pages.proofs.memory.Memory.+clean_below.Goals as goal
use Rattle.pages.proofs.memory.Memory.+clean_below.Goals.{then-depth-eq0-via-then-depth-eq0, then-depth-eq0-via-else-depth-eq0+then-node-inner, then-is_marked, else-is_marked}

pub returns-then-depth-eq0 : goal.returns-then-depth-eq0
returns-then-depth-eq0 t c =
    elim c.then-depth-eq0.branch [
      | then-depth-eq0-via-then-depth-eq0 w ↦ below_none c.args.self.now c.args.depth c.args.node (inl w.if-depth-eq0.true)
      | then-depth-eq0-via-else-depth-eq0+then-node-inner w ↦ below_none c.args.self.now c.args.depth c.args.node (inr (omega arith))
    ]

pub loop-b-init : goal.loop-b-init
loop-b-init t c = record { is = children-none (cleaned_below (c.args.depth - 1)) c.args.node (seen c.args.self.now); size = refl }

pub loop-b-preserved : goal.loop-b-preserved
loop-b-preserved t c =
    elim c.if-is_marked.branch [
      | then-is_marked w ↦
          ends_at c.args.self.now w.clean.new.self c.if-is_marked.self _ w.self-is
          (child-cleaned c.args.self.now c.loop-b.self (c.args.depth - 1) c.loop-b.b c.args.node c.loop-b.invariant w.clean_below.new.self w.clean.new.self (sym (rw c.child_of-child.ensures at c.is_marked.ensures) ∙ w.if-is_marked.true) (rw c.child_of-child.ensures at w.clean_below.ensures) (rw c.child_of-child.ensures at w.clean.ensures))
      | else-is_marked w ↦
          ends_at c.args.self.now c.loop-b.self c.if-is_marked.self _ w.self-is
          (child-left c.args.self.now c.loop-b.self (c.args.depth - 1) c.loop-b.b c.args.node c.loop-b.invariant (sym (rw c.child_of-child.ensures at c.is_marked.ensures) ∙ w.if-is_marked.false))
    ]

pub returns : goal.returns
returns t c = below_all c.args.self.now c.loop-b.self c.args.depth c.loop-b.b c.args.node c.loop-b.invariant (omega arith) (omega arith) (omega arith)
