-- Every request can be typed. Assumes nothing.
use Rattle.std.proofs.Common.{◌≡◌, ℕ, ◌^◌, ◌<◌, Bool, true, false, eqb, List, [], ◌∷◌, get_or, Some, None, Ok, decimal, Result, refl, ap, ◌∙◌, arith}
use Rattle.std.specs.List.{AllByRecursion}
use Rattle.std.proofs.lemmas.Bool.{cond-false}
use Rattle.model.specs.Calls.{Call, Way, Old, May, New}
use Rattle.model.specs.Calls as calls
use Rattle.lines.specs.declared.faults.Fault.{Fault}
use Rattle.lines.specs.declared.notations.Notation.TheVariants.{Hex, Path}
use Rattle.lines.specs.declared.verbs.Verb.{Verb}
use Rattle.lines.specs.declared.verbs.Verb.TheVariants as verb
use Rattle.lines.specs.declared.verbs.HandleVerb.{HandleVerb}
use Rattle.lines.specs.declared.verbs.HandleVerb.TheVariants as handle
use Rattle.lines.specs.declared.verbs.PathVerb.{PathVerb}
use Rattle.lines.specs.declared.verbs.PathVerb.TheVariants as path
use Rattle.lines.specs.declared.verbs.PathsVerb.{PathsVerb}
use Rattle.lines.specs.declared.verbs.PathsVerb.TheVariants as paths
use Rattle.lines.specs.Numbers.{number_of}
use Rattle.lines.specs.Bytes.{text_of, bytes_of}
use Rattle.lines.specs.Words.{ended}
use Rattle.lines.specs.Verbs.{verb_word, verbs, verb_among, verb_of}
use Rattle.lines.specs.Arguments.{Word, counted, way_for, access_for}
use Rattle.lines.specs.Asks.{Asked, Asks, Lists, Helps, and_then, of_handle, of_path, of_paths, asked_by, verb_meant, words_meant, parse_of}
use Rattle.lines.specs.Lines.{way_word, access_word, call_line, spaced, line_of, AreBytes, Fits, AskedFits, IsWord}
use Rattle.lines.proofs.Roundtrips.{number_word, number-back, bytes_back, text-word, path-word}
use Rattle.lines.proofs.Spaces.{words_back, shown-all}

-- what the word of a verb is to be: found again, one word, and no comment
abbrev Sure : Verb → Type 0
Sure v = (verb_of (verb_word v) ≡ Some v) × IsWord (verb_word v) × (eqb (get_or (verb_word v) 0 0) 35 ≡ false)

sure : (v : Verb) → Sure v
unfolding verb_of verbs verb_among
sure verb.Open = (refl, (omega arith, shown-all (verb_word verb.Open) refl), refl)
sure verb.Read = (refl, (omega arith, shown-all (verb_word verb.Read) refl), refl)
sure verb.Write = (refl, (omega arith, shown-all (verb_word verb.Write) refl), refl)
sure verb.Resize = (refl, (omega arith, shown-all (verb_word verb.Resize) refl), refl)
sure verb.NextName = (refl, (omega arith, shown-all (verb_word verb.NextName) refl), refl)
sure verb.Sync = (refl, (omega arith, shown-all (verb_word verb.Sync) refl), refl)
sure verb.Help = (refl, (omega arith, shown-all (verb_word verb.Help) refl), refl)
sure (verb.OfHandle handle.Close) = (refl, (omega arith, shown-all (verb_word (verb.OfHandle handle.Close)) refl), refl)
sure (verb.OfHandle handle.StatOpen) = (refl, (omega arith, shown-all (verb_word (verb.OfHandle handle.StatOpen)) refl), refl)
sure (verb.OfHandle handle.List) = (refl, (omega arith, shown-all (verb_word (verb.OfHandle handle.List)) refl), refl)
sure (verb.OfPath path.Stat) = (refl, (omega arith, shown-all (verb_word (verb.OfPath path.Stat)) refl), refl)
sure (verb.OfPath path.MakeFolder) = (refl, (omega arith, shown-all (verb_word (verb.OfPath path.MakeFolder)) refl), refl)
sure (verb.OfPath path.Remove) = (refl, (omega arith, shown-all (verb_word (verb.OfPath path.Remove)) refl), refl)
sure (verb.OfPath path.RemoveFolder) = (refl, (omega arith, shown-all (verb_word (verb.OfPath path.RemoveFolder)) refl), refl)
sure (verb.OfPath path.ReadLink) = (refl, (omega arith, shown-all (verb_word (verb.OfPath path.ReadLink)) refl), refl)
sure (verb.OfPaths paths.Rename) = (refl, (omega arith, shown-all (verb_word (verb.OfPaths paths.Rename)) refl), refl)
sure (verb.OfPaths paths.Join) = (refl, (omega arith, shown-all (verb_word (verb.OfPaths paths.Join)) refl), refl)
sure (verb.OfPaths paths.MakeLink) = (refl, (omega arith, shown-all (verb_word (verb.OfPaths paths.MakeLink)) refl), refl)

-- a verb's word, and words that it understands
spoken : (v : Verb) (ws : List Word) (q : Asked) → AllByRecursion IsWord ws → asked_by v ws ≡ Ok q → parse_of (spaced (verb_word v) ws) ≡ Ok (Some q)
spoken v ws q h e =
    let s = sure v in
    ap words_meant (words_back (verb_word v) ws s.1 h) ∙ cond-false (eqb (get_or (verb_word v) 0 0) 35) (Ok None) (verb_meant (verb_of (verb_word v)) ws) s.2 ∙ ap (λ o. verb_meant o ws) s.0 ∙ ap (λ r. and_then r (λ x. Ok (Some x))) e

-- THE WORDS AFTER IT
way_back : (way : Way) → way_for (way_word way) ≡ Ok way
unfolding way_for
way_back Old = refl
way_back May = refl
way_back New = refl

way-word : (way : Way) → IsWord (way_word way)
way-word Old = (omega arith, shown-all (way_word Old) refl)
way-word May = (omega arith, shown-all (way_word May) refl)
way-word New = (omega arith, shown-all (way_word New) refl)

access-back : (w : Bool) → access_for (access_word w) ≡ Ok w
unfolding access_for
access-back true = refl
access-back false = refl

access-word : (w : Bool) → IsWord (access_word w)
access-word true = (omega arith, shown-all (access_word true) refl)
access-word false = (omega arith, shown-all (access_word false) refl)

-- one argument after another
step : {X : Type 0} (r : Result X Fault) (x : X) (next : X → Result Asked Fault) (q : Asked) → r ≡ Ok x → next x ≡ Ok q → and_then r next ≡ Ok q
step r x next q e f = ap (λ o. and_then o next) e ∙ f

handle-back : (v : HandleVerb) (h : ℕ) → h < 2 ^ 64 → asked_by (verb.OfHandle v) (decimal h ∷ []) ≡ Ok (of_handle v h)
unfolding counted
handle-back v h l = step (number_of (decimal h)) h _ _ (number-back h l) refl

path-back : (v : PathVerb) (p : List ℕ) → AreBytes p → asked_by (verb.OfPath v) (text_of Path p ∷ []) ≡ Ok (Asks (of_path v p))
unfolding counted
path-back v p l = step (bytes_of Path (text_of Path p)) p _ _ (bytes_back Path p l) refl

paths-back : (v : PathsVerb) (p q : List ℕ) → AreBytes p → AreBytes q → asked_by (verb.OfPaths v) (text_of Path p ∷ (text_of Path q ∷ [])) ≡ Ok (Asks (of_paths v p q))
unfolding counted
paths-back v p q l m = step (bytes_of Path (text_of Path p)) p _ _ (bytes_back Path p l) (step (bytes_of Path (text_of Path q)) q _ _ (bytes_back Path q m) refl)

hex-words : (bs : List ℕ) → AreBytes bs → AllByRecursion IsWord (ended (text_of Hex bs))
hex-words [] h = tt
hex-words (b ∷ bs) h = (text-word Hex b bs h, tt)

write-back : (h from : ℕ) (bs : List ℕ) → h < 2 ^ 64 → from < 2 ^ 64 → AreBytes bs → asked_by verb.Write (decimal h ∷ (decimal from ∷ ended (text_of Hex bs))) ≡ Ok (Asks (calls.Write h from bs))
unfolding counted bytes_of
write-back h from [] l m b = step (number_of (decimal h)) h _ _ (number-back h l) (step (number_of (decimal from)) from _ _ (number-back from m) refl)
write-back h from (x ∷ bs) l m b = step (number_of (decimal h)) h _ _ (number-back h l) (step (number_of (decimal from)) from _ _ (number-back from m) (step (bytes_of Hex (text_of Hex (x ∷ bs))) (x ∷ bs) _ _ (bytes_back Hex (x ∷ bs) b) refl))

call_back : (c : Call) → Fits c → (asked_by (call_line c).verb (call_line c).words ≡ Ok (Asks c)) × AllByRecursion IsWord (call_line c).words
unfolding counted
call_back (calls.Open way w p) h = (
  step (way_for (way_word way)) way _ _ (way_back way) (step (access_for (access_word w)) w _ _ (access-back w) (step (bytes_of Path (text_of Path p)) p _ _ (bytes_back Path p h) refl)),
  (way-word way, (access-word w, (path-word p h, tt))),
)
call_back (calls.Close n) h = (handle-back handle.Close n h, (number_word n h, tt))
call_back (calls.Read n from most) h = (
  step (number_of (decimal n)) n _ _ (number-back n h.0) (step (number_of (decimal from)) from _ _ (number-back from h.1) (step (number_of (decimal most)) most _ _ (number-back most h.2) refl)),
  (number_word n h.0, (number_word from h.1, (number_word most h.2, tt))),
)
call_back (calls.Write n from bs) h = (write-back n from bs h.0 h.1 h.2, (number_word n h.0, (number_word from h.1, hex-words bs h.2)))
call_back (calls.Resize n size) h = (
  step (number_of (decimal n)) n _ _ (number-back n h.0) (step (number_of (decimal size)) size _ _ (number-back size h.1) refl),
  (number_word n h.0, (number_word size h.1, tt)),
)
call_back (calls.Stat p) h = (path-back path.Stat p h, (path-word p h, tt))
call_back (calls.StatOpen n) h = (handle-back handle.StatOpen n h, (number_word n h, tt))
call_back (calls.MakeFolder p) h = (path-back path.MakeFolder p h, (path-word p h, tt))
call_back (calls.Remove p) h = (path-back path.Remove p h, (path-word p h, tt))
call_back (calls.RemoveFolder p) h = (path-back path.RemoveFolder p h, (path-word p h, tt))
call_back (calls.NextName n name) h = (
  step (number_of (decimal n)) n _ _ (number-back n h.0) (step (bytes_of Path (text_of Path name)) name _ _ (bytes_back Path name h.1) refl),
  (number_word n h.0, (path-word name h.1, tt)),
)
call_back (calls.Rename p q) h = (paths-back paths.Rename p q h.0 h.1, (path-word p h.0, (path-word q h.1, tt)))
call_back (calls.Join p q) h = (paths-back paths.Join p q h.0 h.1, (path-word p h.0, (path-word q h.1, tt)))
call_back (calls.MakeLink p q) h = (paths-back paths.MakeLink p q h.0 h.1, (path-word p h.0, (path-word q h.1, tt)))
call_back (calls.ReadLink p) h = (path-back path.ReadLink p h, (path-word p h, tt))
call_back calls.Sync h = (refl, tt)

pub lines_back : (q : Asked) → AskedFits q → parse_of (line_of q) ≡ Ok (Some q)
unfolding counted
lines_back (Asks c) h = let b = call_back c h in spoken (call_line c).verb (call_line c).words (Asks c) b.1 b.0
lines_back (Lists n) h = spoken (verb.OfHandle handle.List) (decimal n ∷ []) (Lists n) (number_word n h, tt) (handle-back handle.List n h)
lines_back Helps h = spoken verb.Help [] Helps tt refl
