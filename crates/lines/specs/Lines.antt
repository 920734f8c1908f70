-- What is printed can be read back, and every request can be typed.
-- Assumes nothing.
use Rattle.std.specs.Prelude.{◌≡◌, ℕ, ◌^◌, ◌<◌, ◌≤◌, Bool, true, false, List, [], ◌∷◌, ◌++◌, map, length, drop, Ok, codes, decimal, slice_index_or}
use Rattle.std.specs.List.{AllByRecursion}
use Rattle.model.specs.Calls.{Call, Way, Old, May, New, Reply, No, Done, Opened, Bytes, Told, Named, Full}
use Rattle.model.specs.Calls as calls
use Rattle.model.specs.Of.{kind_word}
use Rattle.lines.specs.declared.notations.Notation.{Notation}
use Rattle.lines.specs.declared.notations.Notation.TheVariants.{Hex, Path}
use Rattle.lines.specs.declared.verbs.Verb.{Verb}
use Rattle.lines.specs.declared.verbs.Verb.TheVariants as verb
use Rattle.lines.specs.declared.verbs.HandleVerb.TheVariants as handle
use Rattle.lines.specs.declared.verbs.PathVerb.TheVariants as path
use Rattle.lines.specs.declared.verbs.PathsVerb.TheVariants as paths
use Rattle.lines.specs.Numbers.{number_of}
use Rattle.lines.specs.Bytes.{text_of, bytes_of}
use Rattle.lines.specs.Words.{ended, words_of}
use Rattle.lines.specs.Verbs.{verb_word}
use Rattle.lines.specs.Arguments.{Word}
use Rattle.lines.specs.Asks.{Asked, Asks, Lists, Helps}

abbrev pub way_word : Way → Word
way_word Old = codes "old"
way_word May = codes "may"
way_word New = codes "new"

abbrev pub access_word : (writes : Bool) → Word
access_word true = codes "write"
access_word false = codes "read"

pub record Line : Type 0 where
  pub verb : Verb
  pub words : List Word

abbrev pub line : Verb → List Word → Line
line v ws = record { verb = v; words = ws }

abbrev pub call_line : Call → Line
call_line (calls.Open way w p) = line verb.Open (way_word way ∷ (access_word w ∷ (text_of Path p ∷ [])))
call_line (calls.Close h) = line (verb.OfHandle handle.Close) (decimal h ∷ [])
call_line (calls.Read h from most) = line verb.Read (decimal h ∷ (decimal from ∷ (decimal most ∷ [])))
call_line (calls.Write h from bs) = line verb.Write (decimal h ∷ (decimal from ∷ ended (text_of Hex bs)))
call_line (calls.Resize h size) = line verb.Resize (decimal h ∷ (decimal size ∷ []))
call_line (calls.Stat p) = line (verb.OfPath path.Stat) (text_of Path p ∷ [])
call_line (calls.StatOpen h) = line (verb.OfHandle handle.StatOpen) (decimal h ∷ [])
call_line (calls.MakeFolder p) = line (verb.OfPath path.MakeFolder) (text_of Path p ∷ [])
call_line (calls.Remove p) = line (verb.OfPath path.Remove) (text_of Path p ∷ [])
call_line (calls.RemoveFolder p) = line (verb.OfPath path.RemoveFolder) (text_of Path p ∷ [])
call_line (calls.NextName h name) = line verb.NextName (decimal h ∷ (text_of Path name ∷ []))
call_line (calls.Rename p q) = line (verb.OfPaths paths.Rename) (text_of Path p ∷ (text_of Path q ∷ []))
call_line (calls.Join p q) = line (verb.OfPaths paths.Join) (text_of Path p ∷ (text_of Path q ∷ []))
call_line (calls.MakeLink to p) = line (verb.OfPaths paths.MakeLink) (text_of Path to ∷ (text_of Path p ∷ []))
call_line (calls.ReadLink p) = line (verb.OfPath path.ReadLink) (text_of Path p ∷ [])
call_line calls.Sync = line verb.Sync []

abbrev pub request_line : Asked → Line
request_line (Asks c) = call_line c
request_line (Lists h) = line (verb.OfHandle handle.List) (decimal h ∷ [])
request_line Helps = line verb.Help []

-- words with a space between them
abbrev pub spaced : Word → List Word → List ℕ
spaced w [] = w
spaced w (v ∷ ws) = w ++ (32 ∷ spaced v ws)

abbrev pub line_of : Asked → List ℕ
line_of q = spaced (verb_word (request_line q).verb) (request_line q).words

-- its numbers have 64 bits, and its bytes 8
abbrev pub AreBytes : List ℕ → Type 0
AreBytes bs = AllByRecursion (λ b. b < 256) bs

abbrev pub Fits : Call → Type 0
Fits (calls.Open way w p) = AreBytes p
Fits (calls.Close h) = h < 2 ^ 64
Fits (calls.Read h from most) = (h < 2 ^ 64) × (from < 2 ^ 64) × (most < 2 ^ 64)
Fits (calls.Write h from bs) = (h < 2 ^ 64) × (from < 2 ^ 64) × AreBytes bs
Fits (calls.Resize h size) = (h < 2 ^ 64) × (size < 2 ^ 64)
Fits (calls.Stat p) = AreBytes p
Fits (calls.StatOpen h) = h < 2 ^ 64
Fits (calls.MakeFolder p) = AreBytes p
Fits (calls.Remove p) = AreBytes p
Fits (calls.RemoveFolder p) = AreBytes p
Fits (calls.NextName h name) = (h < 2 ^ 64) × AreBytes name
Fits (calls.Rename p q) = AreBytes p × AreBytes q
Fits (calls.Join p q) = AreBytes p × AreBytes q
Fits (calls.MakeLink to p) = AreBytes to × AreBytes p
Fits (calls.ReadLink p) = AreBytes p
Fits calls.Sync = Unit {0}

abbrev pub AskedFits : Asked → Type 0
AskedFits (Asks c) = Fits c
AskedFits (Lists h) = h < 2 ^ 64
AskedFits Helps = Unit {0}

-- one word of a line, of bytes that any terminal shows
abbrev pub IsWord : List ℕ → Type 0
IsWord w = (0 < length w) × AllByRecursion (λ b. (33 ≤ b) × (b ≤ 126)) w

-- bytes that are printed: they are read back, and are one word; none are no word in hexadecimal
abbrev pub BytesBack : Notation → List ℕ → (text : List ℕ) → Type 0
BytesBack Hex bs text = (bytes_of Hex text ≡ Ok bs) × (0 < length bs → IsWord text)
BytesBack Path bs text = (bytes_of Path text ≡ Ok bs) × IsWord text

-- the first word of a text, and the numbers after it
abbrev pub Says : (text : List ℕ) → Word → List ℕ → Type 0
Says text first ns = (slice_index_or (words_of text) 0 [] ≡ first) × (map number_of (drop 1 (words_of text)) ≡ map Ok ns)

-- an answer that is printed can be read back
abbrev pub ReadsBack : (shown : Notation) → Reply → (text : List ℕ) → Type 0
ReadsBack shown (No k) text = Says text (codes "no") (k ∷ [])
ReadsBack shown Done text = Says text (codes "done") []
ReadsBack shown (Opened h) text = Says text (codes "handle") (h ∷ [])
ReadsBack shown (Bytes bs) text = BytesBack shown bs text
ReadsBack shown (Told kind node size names) text = Says text (kind_word kind) (node ∷ (size ∷ (names ∷ [])))
ReadsBack shown (Named name) text = BytesBack Path name text
ReadsBack shown Full text = Says text (codes "full") []
