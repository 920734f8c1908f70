use Rattle.std.proofs.Common.{◌≡◌, ◌-◌, ◌≤◌, [], ◌++◌, take, drop, vec_items}
use Rattle.lines.specs.Words.{cut}
use Rattle.lines.specs.Of.{words_in}
use Rattle.lines.proofs.words.split_words.Given as goal

abbrev pub invariant-loop-i : goal.invariant-loop-i
invariant-loop-i l = (l.start ≤ l.i) × (words_in (vec_items l.words) ++ cut (drop l.i l.line) (take (l.i - l.start) (drop l.start l.line)) ≡ cut l.line [])
