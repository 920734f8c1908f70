use Rattle.std.proofs.Common.{◌≡◌}
use Rattle.device.proofs.Loops.{Turned}
use Rattle.paging.specs.Store.{node_turn}
use Rattle.pages.specs.Of.{seen}
use Rattle.pages.proofs.store.Store.take_nodes.Given as goal

abbrev pub invariant-loop-i : goal.invariant-loop-i
invariant-loop-i g l =
    (l.self.label ≡ l.initial.self.label) × (l.self.memory.words.card.sectors ≡ l.initial.self.memory.words.card.sectors) ×
    Turned g.D.Device.steps node_turn (seen l.initial.self.memory) l.initial.self.device l.i l.self.device (seen l.self.memory)
