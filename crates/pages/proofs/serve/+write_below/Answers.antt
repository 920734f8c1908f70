use Rattle.std.proofs.Common.{◌+◌, ◌-◌, Bool, not, sym, refl, ap, ◌∙◌, subst, inl, inr, arith}
use Rattle.device.proofs.Loops.{Turned, no-turn}
use Rattle.paging.specs.Layout.{slot, child}
use Rattle.pages.specs.Of.{seen}
use Rattle.pages.proofs.Writes.{child_turn, write-none, write-all, write-child, write-no-child}
use Rattle.pages.proofs.serve.+write_below.Goals as goal
use Rattle.pages.proofs.serve.+write_below.Goals.{then-depth-eq0-via-then-depth-eq0, then-depth-eq0-via-else-depth-eq0+then-node-inner, then-is_marked, else-is_marked}

pub returns-then-depth-eq0 : goal.returns-then-depth-eq0
returns-then-depth-eq0 g t c =
    elim c.then-depth-eq0.branch [
      | then-depth-eq0-via-then-depth-eq0 w ↦ write-none g.D.Device.steps (seen c.args.memory.now) c.args.depth c.args.node c.args.device.now (inl w.if-depth-eq0.true)
      | then-depth-eq0-via-else-depth-eq0+then-node-inner w ↦ write-none g.D.Device.steps (seen c.args.memory.now) c.args.depth c.args.node c.args.device.now (inr (omega arith))
    ]

pub loop-b-init : goal.loop-b-init
loop-b-init g t c = no-turn refl

pub loop-b-preserved : goal.loop-b-preserved
loop-b-preserved g t c =
    elim c.if-is_marked.branch [
      | then-is_marked w ↦
          subst (λ (d : g.row.D.Denot). Turned g.D.Device.steps (child_turn (c.args.depth - 1) (seen c.args.memory.now) c.args.node) tt c.args.device.now (c.loop-b.b + 1) d tt) (sym w.device-is)
          (write-child g.D.Device.steps (seen c.args.memory.now) (c.args.depth - 1) c.args.node c.loop-b.b c.args.device.now c.loop-b.device c.loop-b.invariant w.write.new.self w.write_below.new.device w.slot_of-slot.result
          w.node_sector.result (sym (rw c.child_of-child.ensures at c.is_marked.ensures) ∙ w.if-is_marked.true) ((rw c.child_of-child.ensures at w.slot_of-slot.ensures) ∙ ap (λ (b : Bool). slot (child c.args.node c.loop-b.b) (not b)) (rw c.child_of-child.ensures at w.has.ensures)) (rw c.child_of-child.ensures at w.node_sector.ensures) w.write.ensures
          (rw c.child_of-child.ensures at w.write_below.ensures))
      | else-is_marked w ↦
          subst (λ (d : g.row.D.Denot). Turned g.D.Device.steps (child_turn (c.args.depth - 1) (seen c.args.memory.now) c.args.node) tt c.args.device.now (c.loop-b.b + 1) d tt) (sym w.device-is)
          (write-no-child g.D.Device.steps (seen c.args.memory.now) (c.args.depth - 1) c.args.node c.loop-b.b c.args.device.now c.loop-b.device c.loop-b.invariant (sym (rw c.child_of-child.ensures at c.is_marked.ensures) ∙ w.if-is_marked.false))
    ]

pub returns : goal.returns
returns g t c =
    write-all g.D.Device.steps (seen c.args.memory.now) c.args.depth c.args.node c.loop-b.b c.args.device.now c.loop-b.device c.loop-b.invariant (omega arith) (omega arith) (omega arith)
