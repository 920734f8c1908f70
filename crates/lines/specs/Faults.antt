-- What is printed of a line that asks for nothing.
-- Assumes nothing.
use Rattle.std.specs.Prelude.{ℕ, List, codes}
use Rattle.lines.specs.declared.faults.Fault.{Fault}
use Rattle.lines.specs.declared.faults.Fault.TheVariants as fault
use Rattle.lines.specs.declared.faults.ParseError.{ParseError}
use Rattle.lines.specs.declared.faults.ParseError.TheVariants.{Wrong, Memory}

abbrev pub fault_text : Fault → List ℕ
fault_text fault.UnknownWord = codes "no such command: help lists them"
fault_text fault.TooFewWords = codes "too few words: help shows those of each command"
fault_text fault.TooManyWords = codes "too many words: help shows those of each command, and a space in a path is \\20"
fault_text fault.NoNumber = codes "a number is decimal digits"
fault_text fault.NumberTooLarge = codes "a number is at most 18446744073709551615"
fault_text fault.BadWay = codes "the way to open is old, may or new"
fault_text fault.BadAccess = codes "the access is read or write"
fault_text fault.BadEscape = codes "in a path, a byte below 33 and the backslash are \\ and two hexadecimal digits, and the empty path is \\."
fault_text fault.BadHex = codes "bytes are pairs of hexadecimal digits"

abbrev pub error_text : ParseError → List ℕ
error_text (Wrong why) = fault_text why
error_text Memory = codes "memory allocation failed"
