-- The text of an answer.
-- Assumes nothing.
use Rattle.std.specs.Prelude.{ℕ, List, ◌++◌, codes, decimal}
use Rattle.model.specs.Calls.{Kind, Reply, No, Done, Opened, Bytes, Told, Named, Full}
use Rattle.model.specs.Of.{kind_word}
use Rattle.lines.specs.declared.notations.Notation.{Notation}
use Rattle.lines.specs.declared.notations.Notation.TheVariants.{Path}
use Rattle.lines.specs.Bytes.{text_of}

abbrev pub stat_text : Kind → (node size names : ℕ) → List ℕ
stat_text kind node size names = kind_word kind ++ (codes " " ++ (decimal node ++ (codes " " ++ (decimal size ++ (codes " " ++ decimal names)))))

-- `shown` says how bytes are printed that were read
abbrev pub reply_text : (shown : Notation) → Reply → List ℕ
reply_text shown (No k) = codes "no " ++ decimal k
reply_text shown Done = codes "done"
reply_text shown (Opened h) = codes "handle " ++ decimal h
reply_text shown (Bytes bs) = text_of shown bs
reply_text shown (Told kind node size names) = stat_text kind node size names
reply_text shown (Named name) = text_of Path name
reply_text shown Full = codes "full"
