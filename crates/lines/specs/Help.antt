-- The grammar, as it is printed.
-- Assumes nothing.
use Rattle.std.specs.Prelude.{ℕ, List, [], ◌∷◌, ◌++◌, codes}
use Rattle.lines.specs.declared.verbs.Verb.{Verb}
use Rattle.lines.specs.declared.verbs.Verb.TheVariants.{Open, Read, Write, Resize, NextName, Sync, Help, OfHandle, OfPath, OfPaths}
use Rattle.lines.specs.declared.verbs.PathsVerb.TheVariants.{Rename, Join, MakeLink}
use Rattle.lines.specs.Verbs.{verb_word, verbs}

-- the words that follow
abbrev pub form : Verb → List ℕ
form Open = codes " old|may|new read|write PATH"
form Read = codes " H FROM MOST"
form Write = codes " H FROM HEX"
form Resize = codes " H SIZE"
form NextName = codes " H NAME"
form Sync = []
form Help = []
form (OfHandle v) = codes " H"
form (OfPath v) = codes " PATH"
form (OfPaths Rename) = codes " OLD NEW"
form (OfPaths Join) = codes " OLD NEW"
form (OfPaths MakeLink) = codes " TO PATH"

-- a line for each
abbrev pub forms : List Verb → List ℕ
forms [] = []
forms (v ∷ vs) = verb_word v ++ (form v ++ (10 ∷ forms vs))

unfoldable pub help_text : List ℕ
help_text = forms verbs
