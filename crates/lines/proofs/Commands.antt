-- Words looked up. Assumes nothing.
use Rattle.std.proofs.Common.{◌≡◌, ℕ, List, length, Some, sym, refl, ap, ◌∙◌}
use Rattle.std.proofs.lemmas.Slice.Eq.{HasBytesAt, text_from_reads}
use Rattle.lines.specs.declared.verbs.Verb.{Verb}
use Rattle.lines.specs.declared.verbs.Verb.TheVariants.{Open, Read, Write, Resize, NextName, Sync, Help, OfHandle, OfPath, OfPaths}
use Rattle.lines.specs.declared.verbs.HandleVerb.TheVariants.{Close, StatOpen, List as ListNames}
use Rattle.lines.specs.declared.verbs.PathVerb.TheVariants.{Stat, MakeFolder, Remove, RemoveFolder, ReadLink}
use Rattle.lines.specs.declared.verbs.PathsVerb.TheVariants.{Rename, Join, MakeLink}
use Rattle.lines.specs.Verbs.{verb_word, verbs, verb_among, verb_of}

own_word : (v : Verb) → Some v ≡ verb_of (verb_word v)
unfolding verbs verb_among verb_of
own_word Open = refl
own_word (OfHandle Close) = refl
own_word Read = refl
own_word Write = refl
own_word Resize = refl
own_word (OfPath Stat) = refl
own_word (OfHandle StatOpen) = refl
own_word (OfPath MakeFolder) = refl
own_word (OfPath Remove) = refl
own_word (OfPath RemoveFolder) = refl
own_word NextName = refl
own_word (OfHandle ListNames) = refl
own_word (OfPaths Rename) = refl
own_word (OfPaths Join) = refl
own_word (OfPaths MakeLink) = refl
own_word (OfPath ReadLink) = refl
own_word Sync = refl
own_word Help = refl

-- what code knows that tested the length and then each byte
pub verb_read : (w : List ℕ) (v : Verb) → length w ≡ length (verb_word v) → HasBytesAt w 0 (verb_word v) → Some v ≡ verb_of w
verb_read w v n h = own_word v ∙ ap verb_of (sym (text_from_reads w (verb_word v) n h))
