use Rattle.std.proofs.Common.{◌≡◌}
use Rattle.device.proofs.Loops.{Turned}
use Rattle.paging.specs.Store.{reclaim_turn}
use Rattle.pages.specs.Of.{seen}
use Rattle.pages.proofs.store.Store.reclaim_pages.Given as goal

abbrev pub invariant-loop-n : goal.invariant-loop-n
invariant-loop-n g l =
    (l.self.label ≡ l.initial.self.label) × (l.self.memory.words.card.sectors ≡ l.initial.self.memory.words.card.sectors) ×
    Turned g.D.Device.steps reclaim_turn (seen l.initial.self.memory) l.initial.self.device l.n l.self.device (seen l.self.memory)
