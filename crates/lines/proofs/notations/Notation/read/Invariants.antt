use Rattle.std.proofs.Common.{◌≡◌, length, vec_items}
use Rattle.lines.specs.Bytes.{read_all}
use Rattle.lines.proofs.Readings.{after}
use Rattle.lines.proofs.notations.Notation.read.Given as goal

abbrev pub invariant-loop-byte : goal.invariant-loop-byte
invariant-loop-byte l = after (vec_items l.bytes) (read_all (length l.rest) l.self l.rest) ≡ read_all (length l.initial.rest) l.self l.initial.rest

abbrev pub decreases-loop-byte : goal.decreases-loop-byte
decreases-loop-byte l = length l.rest
