-- Bytes read one after another. Assumes nothing.
use Rattle.std.proofs.Common.{◌≡◌, ℕ, zero, suc, ◌<◌, ◌≤◌, Bool, true, false, cond, eqb, ltb, List, [], ◌∷◌, ◌++◌, length, Some, None, Ok, Option, sym, refl, ap, ◌∙◌, subst, append_assoc, append-nil, arith}
use Rattle.std.specs.Option.{option_map, ok_or}
use Rattle.std.specs.Str.{bytes_eq}
use Rattle.std.proofs.lemmas.Bool.{cond-true, cond-false, eqb-true, false≢true}
use Rattle.lines.specs.declared.notations.Notation.{Notation}
use Rattle.lines.specs.declared.notations.Notation.TheVariants.{Hex, Path}
use Rattle.lines.specs.Bytes.{pair_value, first_pair, first_of, and_after, read_all, no_bytes, fault_of, bytes_of}

-- WHAT IS LEFT is shorter
abbrev Shorter : List ℕ → Option (ℕ × List ℕ) → Type 0
Shorter xs None = Unit {0}
Shorter xs (Some p) = length p.1 < length xs

shorter-cond : (b : Bool) (xs : List ℕ) (o u : Option (ℕ × List ℕ)) → Shorter xs o → Shorter xs u → Shorter xs (cond b o u)
shorter-cond true xs o u p q = p
shorter-cond false xs o u p q = q

shorter-pair : (x : ℕ) (xs ys : List ℕ) → length ys < length xs → (o : Option ℕ) → Shorter xs (option_map (λ (v : ℕ). (v, ys)) o)
shorter-pair x xs ys h None = tt
shorter-pair x xs ys h (Some v) = h

first_pair-shorter : (xs ys : List ℕ) → length xs ≤ length ys → Shorter ys (first_pair xs)
first_pair-shorter [] ys h = tt
first_pair-shorter (x ∷ []) ys h = tt
first_pair-shorter (x ∷ (y ∷ rest)) ys h = shorter-pair x ys rest (omega arith) (pair_value x y)

first_of-shorter : (n : Notation) (xs : List ℕ) → Shorter xs (first_of n xs)
first_of-shorter Hex xs = first_pair-shorter xs xs (omega arith)
first_of-shorter Path [] = tt
first_of-shorter Path (x ∷ rest) =
    shorter-cond (eqb x 92) (x ∷ rest) (first_pair rest) (cond (ltb 32 x) (Some (x, rest)) None) (first_pair-shorter rest (x ∷ rest) (omega arith)) (shorter-cond (ltb 32 x) (x ∷ rest) (Some (x, rest)) None (omega arith) tt)

pub shorter : (n : Notation) (xs : List ℕ) (p : ℕ × List ℕ) → first_of n xs ≡ Some p → length p.1 < length xs
shorter n xs p e = subst (Shorter xs) e (first_of-shorter n xs)

-- HOW MANY TURNS are allowed does not matter, if they are as many as the text is long
same_after : (o : Option (ℕ × List ℕ)) (F G : List ℕ → Option (List ℕ)) → ((p : ℕ × List ℕ) → o ≡ Some p → F p.1 ≡ G p.1) → and_after o F ≡ and_after o G
same_after None F G h = refl
same_after (Some p) F G h = ap (option_map (λ (bs : List ℕ). p.0 ∷ bs)) (h p refl)

pub same-turns : (k j : ℕ) (n : Notation) (xs : List ℕ) → length xs ≤ k → length xs ≤ j → read_all k n xs ≡ read_all j n xs
same-turns zero zero n [] h l = refl
same-turns zero (suc j) n [] h l = refl
same-turns (suc k) zero n [] h l = refl
same-turns (suc k) (suc j) n [] h l = refl
same-turns zero j n (x ∷ xs) h l = absurd (omega arith)
same-turns (suc k) zero n (x ∷ xs) h l = absurd (omega arith)
same-turns (suc k) (suc j) n (x ∷ xs) h l =
    same_after (first_of n (x ∷ xs)) (read_all k n) (read_all j n) (λ p e. let s = shorter n (x ∷ xs) p e in same-turns k j n p.1 (omega arith) (omega arith))

pub read_more : (n : Notation) (xs : List ℕ) (p : ℕ × List ℕ) → 0 < length xs → first_of n xs ≡ Some p → read_all (length xs) n xs ≡ option_map (λ (bs : List ℕ). p.0 ∷ bs) (read_all (length p.1) n p.1)
read_more n [] p h e = absurd (omega arith)
read_more n (x ∷ xs) p h e =
    let s = shorter n (x ∷ xs) p e in
    ap (λ o. and_after o (read_all (length xs) n)) e ∙ ap (option_map (λ (bs : List ℕ). p.0 ∷ bs)) (same-turns (length xs) (length p.1) n p.1 (omega arith) (omega arith))

pub read-stuck : (n : Notation) (xs : List ℕ) → 0 < length xs → first_of n xs ≡ None → read_all (length xs) n xs ≡ None
read-stuck n [] h e = absurd (omega arith)
read-stuck n (x ∷ xs) h e = ap (λ o. and_after o (read_all (length xs) n)) e

-- THE LOOP: `after xs o` are the bytes xs, read so far, and what is still to be read
abbrev pub after : List ℕ → Option (List ℕ) → Option (List ℕ)
after xs None = None
after xs (Some ys) = Some (xs ++ ys)

after_more : (xs : List ℕ) (b : ℕ) (o : Option (List ℕ)) → after xs (option_map (λ (bs : List ℕ). b ∷ bs) o) ≡ after (xs ++ (b ∷ [])) o
after_more xs b None = refl
after_more xs b (Some ys) = ap Some (sym (append_assoc xs (b ∷ []) ys))

pub turn : (n : Notation) (xs ys now : List ℕ) (p : ℕ × List ℕ) (whole : Option (List ℕ)) → first_of n now ≡ Some p → ys ≡ xs ++ (p.0 ∷ []) → after xs (read_all (length now) n now) ≡ whole → after ys (read_all (length p.1) n p.1) ≡ whole
turn n xs ys now p whole e q inv =
    let s = shorter n now p e in
    let h : 0 < length now = omega arith in
    ap (λ v. after v (read_all (length p.1) n p.1)) q ∙ sym (after_more xs p.0 (read_all (length p.1) n p.1)) ∙ ap (after xs) (sym (read_more n now p h e)) ∙ inv

-- A WHOLE WORD, which stands for no bytes at all or not. `==` on a word and text is what the definition asks
pub same : (w t u : List ℕ) (r b : Bool) → r ≡ bytes_eq w t → t ≡ u → r ≡ b → bytes_eq w u ≡ b
same w t u r b m e f = ap (bytes_eq w) (sym e) ∙ sym m ∙ f

pub none_read : (n : Notation) (w : List ℕ) → bytes_eq w (no_bytes n) ≡ true → bytes_of n w ≡ Ok []
unfolding bytes_of
none_read n w e = ap (λ v. ok_or v (fault_of n)) (cond-true (bytes_eq w (no_bytes n)) (Some []) (read_all (length w) n w) e)

pub bytes_read : (n : Notation) (w : List ℕ) (o : Option (List ℕ)) → bytes_eq w (no_bytes n) ≡ false → read_all (length w) n w ≡ o → bytes_of n w ≡ ok_or o (fault_of n)
unfolding bytes_of
bytes_read n w o f e = ap (λ v. ok_or v (fault_of n)) (cond-false (bytes_eq w (no_bytes n)) (Some []) (read_all (length w) n w) f ∙ e)

pub read-end : (n : Notation) (xs rest : List ℕ) (whole : Option (List ℕ)) → eqb (length rest) 0 ≡ true → after xs (read_all (length rest) n rest) ≡ whole → whole ≡ Some xs
read-end n xs [] whole h e = sym e ∙ ap Some (append-nil xs)
read-end n xs (r ∷ rest) whole h e = let z = eqb-true _ _ h in absurd (omega arith)

pub read-fails : (n : Notation) (xs rest : List ℕ) (whole : Option (List ℕ)) → eqb (length rest) 0 ≡ false → None ≡ first_of n rest → after xs (read_all (length rest) n rest) ≡ whole → whole ≡ None
read-fails n xs [] whole h e inv = absurd (false≢true (sym h))
read-fails n xs (r ∷ rest) whole h e inv = sym inv ∙ ap (after xs) (read-stuck n (r ∷ rest) (omega arith) (sym e))
