-- What a line asks for.
-- Assumes nothing.
use Rattle.std.specs.Prelude.{◌≡◌, ℕ, cond, List, [], ◌∷◌, Some, None, Ok, Err, Option, Result, ◌==◌, slice_index, slice_index_or}
use Rattle.model.specs.Calls.{Call}
use Rattle.model.specs.Calls as calls
use Rattle.lines.specs.declared.faults.Fault.{Fault}
use Rattle.lines.specs.declared.faults.Fault.TheVariants as fault
use Rattle.lines.specs.declared.notations.Notation.{Notation}
use Rattle.lines.specs.declared.notations.Notation.TheVariants.{Hex, Path}
use Rattle.lines.specs.declared.verbs.Verb.{Verb}
use Rattle.lines.specs.declared.verbs.Verb.TheVariants as verb
use Rattle.lines.specs.declared.verbs.HandleVerb.{HandleVerb}
use Rattle.lines.specs.declared.verbs.HandleVerb.TheVariants as handle
use Rattle.lines.specs.declared.verbs.PathVerb.{PathVerb}
use Rattle.lines.specs.declared.verbs.PathVerb.TheVariants as path
use Rattle.lines.specs.declared.verbs.PathsVerb.{PathsVerb}
use Rattle.lines.specs.declared.verbs.PathsVerb.TheVariants as paths
use Rattle.lines.specs.Numbers.{number_of}
use Rattle.lines.specs.Bytes.{bytes_of}
use Rattle.lines.specs.Words.{words_of}
use Rattle.lines.specs.Verbs.{verb_of}
use Rattle.lines.specs.Arguments.{Word, counted, way_for, access_for}

-- a call, all names of an open folder, or the grammar
pub data Asked : Type 0 where
  Asks : Call → Asked
  Lists : (handle : ℕ) → Asked
  Helps : Asked

abbrev pub call_in : Asked → Option Call
call_in (Asks c) = Some c
call_in (Lists h) = None
call_in Helps = None

-- how the bytes are shown that an answer has: of a link, as its path
abbrev pub ShownAs : Asked → Notation → Type 0
ShownAs q shown = ((h from most : ℕ) → q ≡ Asks (calls.Read h from most) → shown ≡ Hex) × ((p : List ℕ) → q ≡ Asks (calls.ReadLink p) → shown ≡ Path)

-- THE WORDS AFTER THE FIRST: their number counts first, and then the first fault from the left
abbrev pub and_then : {X Y : Type 0} → Result X Fault → (X → Result Y Fault) → Result Y Fault
and_then (Ok x) next = next x
and_then (Err why) next = Err why

abbrev pub of_handle : HandleVerb → ℕ → Asked
of_handle handle.Close h = Asks (calls.Close h)
of_handle handle.StatOpen h = Asks (calls.StatOpen h)
of_handle handle.List h = Lists h

abbrev pub of_path : PathVerb → List ℕ → Call
of_path path.Stat p = calls.Stat p
of_path path.MakeFolder p = calls.MakeFolder p
of_path path.Remove p = calls.Remove p
of_path path.RemoveFolder p = calls.RemoveFolder p
of_path path.ReadLink p = calls.ReadLink p

abbrev pub of_paths : PathsVerb → List ℕ → List ℕ → Call
of_paths paths.Rename p q = calls.Rename p q
of_paths paths.Join p q = calls.Join p q
of_paths paths.MakeLink p q = calls.MakeLink p q

-- a word that is left out is the empty one, and stands for no bytes
abbrev pub asked_by : Verb → List Word → Result Asked Fault
asked_by verb.Open ws = and_then (counted 3 3 ws) (λ _. and_then (way_for (slice_index_or ws 0 [])) (λ way. and_then (access_for (slice_index_or ws 1 [])) (λ writes. and_then (bytes_of Path (slice_index_or ws 2 [])) (λ p. Ok (Asks (calls.Open way writes p))))))
asked_by verb.Read ws = and_then (counted 3 3 ws) (λ _. and_then (number_of (slice_index_or ws 0 [])) (λ h. and_then (number_of (slice_index_or ws 1 [])) (λ from. and_then (number_of (slice_index_or ws 2 [])) (λ most. Ok (Asks (calls.Read h from most))))))
asked_by verb.Write ws = and_then (counted 2 3 ws) (λ _. and_then (number_of (slice_index_or ws 0 [])) (λ h. and_then (number_of (slice_index_or ws 1 [])) (λ from. and_then (bytes_of Hex (slice_index_or ws 2 [])) (λ bs. Ok (Asks (calls.Write h from bs))))))
asked_by verb.Resize ws = and_then (counted 2 2 ws) (λ _. and_then (number_of (slice_index_or ws 0 [])) (λ h. and_then (number_of (slice_index_or ws 1 [])) (λ size. Ok (Asks (calls.Resize h size)))))
asked_by verb.NextName ws = and_then (counted 1 2 ws) (λ _. and_then (number_of (slice_index_or ws 0 [])) (λ h. and_then (bytes_of Path (slice_index_or ws 1 [])) (λ name. Ok (Asks (calls.NextName h name)))))
asked_by verb.Sync ws = and_then (counted 0 0 ws) (λ _. Ok (Asks calls.Sync))
asked_by verb.Help ws = and_then (counted 0 0 ws) (λ _. Ok Helps)
asked_by (verb.OfHandle v) ws = and_then (counted 1 1 ws) (λ _. and_then (number_of (slice_index_or ws 0 [])) (λ h. Ok (of_handle v h)))
asked_by (verb.OfPath v) ws = and_then (counted 1 1 ws) (λ _. and_then (bytes_of Path (slice_index_or ws 0 [])) (λ p. Ok (Asks (of_path v p))))
asked_by (verb.OfPaths v) ws = and_then (counted 2 2 ws) (λ _. and_then (bytes_of Path (slice_index_or ws 0 [])) (λ p. and_then (bytes_of Path (slice_index_or ws 1 [])) (λ q. Ok (Asks (of_paths v p q)))))

-- A WHOLE LINE: nothing where it has no word or the first begins with `#`
abbrev pub verb_meant : Option Verb → List Word → Result (Option Asked) Fault
verb_meant None ws = Err fault.UnknownWord
verb_meant (Some v) ws = and_then (asked_by v ws) (λ q. Ok (Some q))

abbrev pub words_meant : List Word → Result (Option Asked) Fault
words_meant [] = Ok None
words_meant (w ∷ ws) = cond (slice_index w 0 == 35) (Ok None) (verb_meant (verb_of w) ws)

abbrev pub parse_of : (line : List ℕ) → Result (Option Asked) Fault
parse_of line = words_meant (words_of line)
