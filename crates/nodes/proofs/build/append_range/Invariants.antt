use Rattle.std.proofs.Common.{◌≡◌, ℕ, List, ◌++◌}
use Rattle.std.specs.List.{between}
use Rattle.nodes.specs.Entries.{Entry}
use Rattle.nodes.specs.Page.{entries_of, IsNode}
use Rattle.nodes.proofs.build.append_range.Given as goal

-- of the entries to follow some have, and the iterator has the others
abbrev pub invariant-loop-key : goal.invariant-loop-key
invariant-loop-key l =
    (done : List Entry) × (between l.fn.places.start l.fn.places.end (entries_of l.src.page.now) ≡ done ++ l.key-iterator)
    × ((m : ℕ) (es : List Entry) → IsNode l.initial.dst m es → IsNode l.dst m (es ++ done))
