use Rattle.std.proofs.Common.{◌≡◌, ◌*◌, ◌≤◌, take}
use Rattle.lines.specs.Bytes.{all_text}
use Rattle.lines.proofs.notations.Notation.put_all.Given as goal

abbrev pub invariant-loop-byte : goal.invariant-loop-byte
invariant-loop-byte l = (take l.end l.text ≡ all_text l.self (take l.byte-index l.bytes)) × (l.end ≤ 3 * l.byte-index)
