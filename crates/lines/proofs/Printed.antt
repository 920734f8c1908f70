-- Answers that are printed can be read back. Assumes nothing.
use Rattle.std.proofs.Common.{◌≡◌, ℕ, ◌^◌, ◌<◌, List, [], ◌∷◌, get_or, codes, IfOk, Result, String, string_bytes, sym, refl, subst, arith}
use Rattle.std.proofs.lemmas.Result.{IfOk-weaker}
use Rattle.std.proofs.ByRecursion.{All-from_get_or}
use Rattle.model.specs.Calls.{Kind, AFile, AFolder, ALink, Reply, No, Done, Opened, Bytes, Told, Named, Full}
use Rattle.model.specs.Of.{kind_word}
use Rattle.lines.specs.declared.notations.Notation.{Notation}
use Rattle.lines.specs.declared.notations.Notation.TheVariants.{Hex, Path}
use Rattle.lines.specs.Bytes.{text_of}
use Rattle.lines.specs.Answers.{reply_text}
use Rattle.lines.specs.Lines.{AreBytes, IsWord, BytesBack, ReadsBack}
use Rattle.lines.proofs.Roundtrips.{bytes_back, text-word, path-word}
use Rattle.lines.proofs.Spaces.{shown-all, says}

-- what a slice of bytes holds
pub are-bytes : (bs : List ℕ) → ((i : ℕ) → get_or bs i 0 < 256) → AreBytes bs
are-bytes bs h = All-from_get_or (λ b. b < 256) bs 0 (λ i l. h i)

bytes-printed : (n : Notation) (bs : List ℕ) → AreBytes bs → BytesBack n bs (text_of n bs)
bytes-printed Hex [] h = (bytes_back Hex [] h, λ l. absurd (omega arith))
bytes-printed Hex (b ∷ bs) h = (bytes_back Hex (b ∷ bs) h, λ l. text-word Hex b bs h)
bytes-printed Path bs h = (bytes_back Path bs h, path-word bs h)

pub text-back : (n : Notation) (bs text : List ℕ) → AreBytes bs → text ≡ text_of n bs → BytesBack n bs text
text-back n bs text h e = subst (BytesBack n bs) (sym e) (bytes-printed n bs h)

kind-word : (k : Kind) → IsWord (kind_word k)
kind-word AFile = (omega arith, shown-all (kind_word AFile) refl)
kind-word AFolder = (omega arith, shown-all (kind_word AFolder) refl)
kind-word ALink = (omega arith, shown-all (kind_word ALink) refl)

-- the answers that have no bytes: their numbers have 64 bits
abbrev pub Small : Reply → Type 0
Small (No k) = k < 2 ^ 64
Small Done = Unit {0}
Small (Opened h) = h < 2 ^ 64
Small (Bytes bs) = ⊥
Small (Told kind node size names) = (node < 2 ^ 64) × (size < 2 ^ 64) × (names < 2 ^ 64)
Small (Named name) = ⊥
Small Full = Unit {0}

reply-back : (shown : Notation) (r : Reply) (text : List ℕ) → Small r → text ≡ reply_text shown r → ReadsBack shown r text
reply-back shown (No k) text h e = says (codes "no") (k ∷ []) text (omega arith, shown-all (codes "no") refl) (h, tt) e
reply-back shown Done text h e = says (codes "done") [] text (omega arith, shown-all (codes "done") refl) tt e
reply-back shown (Opened n) text h e = says (codes "handle") (n ∷ []) text (omega arith, shown-all (codes "handle") refl) (h, tt) e
reply-back shown (Bytes bs) text h e = absurd h
reply-back shown (Told kind node size names) text h e = says (kind_word kind) (node ∷ (size ∷ (names ∷ []))) text (kind-word kind) (h.0, (h.1, (h.2, tt))) e
reply-back shown (Named name) text h e = absurd h
reply-back shown Full text h e = says (codes "full") [] text (omega arith, shown-all (codes "full") refl) tt e

pub printed : (shown : Notation) {A E : Type 0} (r : Reply) (o : Result (String A) E) → Small r → IfOk o (λ s. string_bytes s ≡ reply_text shown r) → IfOk o (λ s. ReadsBack shown r (string_bytes s))
printed shown r o h t = IfOk-weaker o _ _ (λ s e. reply-back shown r (string_bytes s) h e) t
