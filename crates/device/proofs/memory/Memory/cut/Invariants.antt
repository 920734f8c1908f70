use Rattle.std.proofs.Common.{◌≡◌, vec_items, vec_len}
use Rattle.device.specs.Sectors.{blank_sector}
use Rattle.device.specs.Memory.{size_of, counts_of}
use Rattle.device.proofs.MemoryLaws.{HadAll}
use Rattle.device.proofs.memory.Memory.cut.Given as goal

abbrev pub invariant-loop-write : goal.invariant-loop-write
invariant-loop-write l =
    HadAll blank_sector (vec_items l.initial.self.shown) (vec_items l.initial.self.log) (vec_items l.self.shown) (vec_items l.self.log) ×
    (size_of l.self ≡ size_of l.initial.self) × (counts_of l.self ≡ counts_of l.initial.self)

abbrev pub decreases-loop-write : goal.decreases-loop-write
decreases-loop-write l = vec_len l.self.log
