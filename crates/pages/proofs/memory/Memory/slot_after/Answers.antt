use Rattle.std.proofs.Common.{not, sym, ap, ◌∙◌, arith}
use Rattle.std.proofs.lemmas.Bool.{cond-true, cond-false}
use Rattle.pages.specs.Of.{seen}
use Rattle.pages.proofs.Kept.{selected-beyond}
use Rattle.pages.proofs.Looks.{selected-root, selected-other}
use Rattle.pages.proofs.memory.Memory.slot_after.Goals as goal
use Rattle.pages.proofs.memory.Memory.slot_after.Goals.{then-node-eq0-via-then-node-eq0, then-node-eq0-via-else-node-eq0+then-node-last_node}

pub returns-then-node-eq0 : goal.returns-then-node-eq0
returns-then-node-eq0 c =
    elim c.then-node-eq0.branch [
      | then-node-eq0-via-then-node-eq0 w ↦ selected-root (seen c.args.self.now) c.args.node w.if-node-eq0.true
      | then-node-eq0-via-else-node-eq0+then-node-last_node w ↦ sym (selected-beyond (seen c.args.self.now) c.args.node c.args.self.now.inside (omega arith))
    ]

pub returns-then-has : goal.returns-then-has
returns-then-has c =
    let m = seen c.args.self.now in
    ap not c.has-second.ensures ∙ (sym (cond-true (m.dirty c.args.node) (not (m.sel c.args.node)) (m.sel c.args.node) (cc)) ∙ selected-other m c.args.node (omega arith))

pub returns-else-has : goal.returns-else-has
returns-else-has c =
    let m = seen c.args.self.now in
    c.has-second.ensures ∙ (sym (cond-false (m.dirty c.args.node) (not (m.sel c.args.node)) (m.sel c.args.node) (cc)) ∙ selected-other m c.args.node (omega arith))
