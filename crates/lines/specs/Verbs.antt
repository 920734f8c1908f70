-- The first word of a line, and what it stands for.
-- Assumes nothing.
use Rattle.std.specs.Prelude.{ℕ, cond, List, [], ◌∷◌, Some, None, codes, Option}
use Rattle.std.specs.Str.{bytes_eq}
use Rattle.lines.specs.declared.verbs.Verb.{Verb}
use Rattle.lines.specs.declared.verbs.Verb.TheVariants.{Open, Read, Write, Resize, NextName, Sync, Help, OfHandle, OfPath, OfPaths}
use Rattle.lines.specs.declared.verbs.HandleVerb.TheVariants.{Close, StatOpen, List as ListNames}
use Rattle.lines.specs.declared.verbs.PathVerb.TheVariants.{Stat, MakeFolder, Remove, RemoveFolder, ReadLink}
use Rattle.lines.specs.declared.verbs.PathsVerb.TheVariants.{Rename, Join, MakeLink}

abbrev pub verb_word : Verb → List ℕ
verb_word Open = codes "open"
verb_word (OfHandle Close) = codes "close"
verb_word Read = codes "read"
verb_word Write = codes "write"
verb_word Resize = codes "resize"
verb_word (OfPath Stat) = codes "stat"
verb_word (OfHandle StatOpen) = codes "statopen"
verb_word (OfPath MakeFolder) = codes "makefolder"
verb_word (OfPath Remove) = codes "remove"
verb_word (OfPath RemoveFolder) = codes "removefolder"
verb_word NextName = codes "next"
verb_word (OfHandle ListNames) = codes "list"
verb_word (OfPaths Rename) = codes "rename"
verb_word (OfPaths Join) = codes "join"
verb_word (OfPaths MakeLink) = codes "makelink"
verb_word (OfPath ReadLink) = codes "readlink"
verb_word Sync = codes "sync"
verb_word Help = codes "help"

unfoldable pub verbs : List Verb
verbs =
    Open ∷ (OfHandle Close ∷ (Read ∷ (Write ∷ (Resize ∷ (OfPath Stat ∷ (OfHandle StatOpen ∷ (OfPath MakeFolder ∷ (OfPath Remove ∷ (OfPath RemoveFolder
    ∷ (NextName ∷ (OfHandle ListNames ∷ (OfPaths Rename ∷ (OfPaths Join ∷ (OfPaths MakeLink ∷ (OfPath ReadLink ∷ (Sync ∷ (Help ∷ [])))))))))))))))))

-- the verb among vs whose word is w
unfoldable pub verb_among : List Verb → (w : List ℕ) → Option Verb
verb_among [] w = None
verb_among (v ∷ vs) w = cond (bytes_eq w (verb_word v)) (Some v) (verb_among vs w)

unfoldable pub verb_of : List ℕ → Option Verb
verb_of w = verb_among verbs w
