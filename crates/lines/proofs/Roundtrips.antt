-- Numbers and bytes that are printed are read back, and are one word. Assumes nothing.
use Rattle.std.proofs.Common.{◌≡◌, ℕ, ◌+◌, ◌-◌, ◌/◌, ◌%◌, ◌^◌, ◌<◌, ◌≤◌, Bool, true, false, cond, not, ◌&&◌, eqb, ltb, leb, ◌⊎◌, List, [], ◌∷◌, ◌++◌, length, Some, None, Ok, Err, decimal, refl, ap, ◌∙◌, inl, inr, ⊎_elim, arith}
use native.Mathlib.Nat.{div-add-mod}
use Rattle.std.specs.Int.{is_in_range}
use Rattle.std.specs.Char.{is_ascii_digit}
use Rattle.std.specs.Option.{option_map}
use Rattle.std.specs.List.{AllByRecursion}
use Rattle.std.specs.Str.{all_ascii_digits, bytes_eq, IsUtf8}
use Rattle.std.proofs.lemmas.Fmt.{decimal_nonempty, digits_decimal, digits_value-decimal}
use Rattle.std.proofs.ByRecursion.{All-append, All-get_or}
use Rattle.std.proofs.lemmas.List.{get_or_past}
use Rattle.std.proofs.lemmas.Str.{IsUtf8-from_ascii}
use Rattle.std.proofs.lemmas.Bool.{and_parts, and_from, and_left, leb-true, le-leb, lt-ltb, ltb-true, ltb-false, ne_eqb, eqb-false, not-true, cond-true, cond-false, cond_both, cases_Bool, cases_lt}
use Rattle.std.proofs.lemmas.Bool.Decides.{nat_tests}
use Rattle.lines.specs.declared.faults.Fault.TheVariants as fault
use Rattle.lines.specs.declared.notations.Notation.{Notation}
use Rattle.lines.specs.declared.notations.Notation.TheVariants.{Hex, Path}
use Rattle.lines.specs.Numbers.{read_on, number_of}
use Rattle.lines.specs.Bytes.{hex_digit, hex_pair, is_plain, byte_text, all_text, no_bytes, text_of, hex_value, of_digits, pair_value, first_pair, first_escaped, first_of, read_all, bytes_of}
use Rattle.lines.specs.Lines.{AreBytes, IsWord}
use Rattle.lines.proofs.Digits.{own}
use Rattle.lines.proofs.Readings.{read_more, bytes_read}

abbrev Shown : ℕ → Type 0
Shown b = (33 ≤ b) × (b ≤ 126)

-- NUMBERS
digits-shown : (ds : List ℕ) → all_ascii_digits ds ≡ true → AllByRecursion Shown ds
digits-shown [] e = tt
digits-shown (c ∷ cs) e =
    let p = and_parts (is_ascii_digit c) (all_ascii_digits cs) e in
    let q = and_parts (leb 48 c) (leb c 57) p.0 in
    let low = leb-true 48 c q.0 in
    let high = leb-true c 57 q.1 in
    ((omega arith, omega arith), digits-shown cs p.1)

pub number_word : (n : ℕ) → n < 2 ^ 64 → IsWord (decimal n)
number_word n h = (decimal_nonempty n h, digits-shown (decimal n) (digits_decimal own n h))

pub number-back : (n : ℕ) → n < 2 ^ 64 → number_of (decimal n) ≡ Ok n
unfolding number_of
number-back n h =
    let w = decimal n in
    let v : read_on 0 w ≡ n = digits_value-decimal own n h in
    let some : ltb 0 (length w) && all_ascii_digits w ≡ true = and_from (ltb 0 (length w)) (all_ascii_digits w) (lt-ltb 0 (length w) (decimal_nonempty n h)) (digits_decimal own n h) in
    let small : ltb (read_on 0 w) (2 ^ 64) ≡ true = lt-ltb (read_on 0 w) (2 ^ 64) (omega arith) in
    cond-true (ltb 0 (length w) && all_ascii_digits w) (cond (ltb (read_on 0 w) (2 ^ 64)) (Ok (read_on 0 w)) (Err fault.NumberTooLarge)) (Err fault.NoNumber) some ∙ cond-true (ltb (read_on 0 w) (2 ^ 64)) (Ok (read_on 0 w)) (Err fault.NumberTooLarge) small ∙ ap Ok v

-- HEXADECIMAL DIGITS
digit-cases : (d : ℕ) → d < 16 → ((hex_digit d ≡ 48 + d) × (d < 10)) ⊎ ((hex_digit d ≡ 87 + d) × (10 ≤ d))
digit-cases d h =
    ⊎_elim
    (λ e. inl (cond-true (ltb d 10) (48 + d) (87 + d) e, ltb-true d 10 e))
    (λ e. inr (cond-false (ltb d 10) (48 + d) (87 + d) e, ltb-false d 10 e))
    (cases_Bool (ltb d 10))

in-range : (low high c : ℕ) → low ≤ c → c ≤ high → is_in_range low high c ≡ true
in-range low high c p q = and_from (leb low c) (leb c high) (le-leb low c p) (le-leb c high q)

digit-back : (d : ℕ) → d < 16 → hex_value (hex_digit d) ≡ Some d
digit-back d h =
    ⊎_elim
    (λ p. ap hex_value p.0 ∙ decimal-digit-back d p.1)
    (λ p. ap hex_value p.0 ∙ letter-back d p.1 h)
    (digit-cases d h)
  where
    decimal-digit-back : (d : ℕ) → d < 10 → hex_value (48 + d) ≡ Some d
    decimal-digit-back d l =
        let z : 48 + d - 48 ≡ d = omega arith in
        cond-true (is_in_range 48 57 (48 + d)) (Some (48 + d - 48)) _ (in-range 48 57 (48 + d) (omega arith) (omega arith)) ∙ ap Some z

    letter-back : (d : ℕ) → 10 ≤ d → d < 16 → hex_value (87 + d) ≡ Some d
    letter-back d l u =
        let z : 87 + d - 87 ≡ d = omega arith in
        let no : is_in_range 48 57 (87 + d) ≡ false = grind (arith, nat_tests) in
        cond-false (is_in_range 48 57 (87 + d)) (Some (87 + d - 48)) _ no ∙ cond-true (is_in_range 97 102 (87 + d)) (Some (87 + d - 87)) _ (in-range 97 102 (87 + d) (omega arith) (omega arith)) ∙ ap Some z

digit-shown : (d : ℕ) → d < 16 → (48 ≤ hex_digit d) × (hex_digit d ≤ 102)
digit-shown d h = ⊎_elim (λ p. let e = p.0 in let l = p.1 in (omega arith, omega arith)) (λ p. let e = p.0 in let l = p.1 in (omega arith, omega arith)) (digit-cases d h)

-- A BYTE
high_small : (b : ℕ) → b < 256 → b / 16 < 16
high_small b h = let e = div-add-mod b 16 in omega arith

low_small : (b : ℕ) → b % 16 < 16
low_small b = omega arith

pair-back : (b : ℕ) → b < 256 → pair_value (hex_digit (b / 16)) (hex_digit (b % 16)) ≡ Some b
pair-back b h = (λ i. of_digits (digit-back (b / 16) (high_small b h) i) (digit-back (b % 16) (low_small b) i)) ∙ ap Some (div-add-mod b 16)

first_pair-back : (b : ℕ) (rest : List ℕ) → b < 256 → first_pair (hex_pair b ++ rest) ≡ Some (b, rest)
first_pair-back b rest h = ap (option_map (λ (x : ℕ). (x, rest))) (pair-back b h)

plain-parts : (b : ℕ) → is_plain b ≡ true → (33 ≤ b) × (b ≤ 126) × (b ≡ 92 → ⊥)
plain-parts b e =
    let p = and_parts (is_in_range 33 126 b) (not (eqb b 92)) e in
    let q = and_parts (leb 33 b) (leb b 126) p.0 in
    (leb-true 33 b q.0, leb-true b 126 q.1, eqb-false b 92 (not-true (eqb b 92) p.1))

escaped-back : (b : ℕ) (rest : List ℕ) (t : Bool) → is_plain b ≡ t → b < 256 → first_escaped (cond t (b ∷ []) (92 ∷ hex_pair b) ++ rest) ≡ Some (b, rest)
escaped-back b rest true e h =
    let p = plain-parts b e in
    cond-false (eqb b 92) (first_pair rest) (cond (ltb 32 b) (Some (b, rest)) None) (ne_eqb b 92 p.2) ∙ cond-true (ltb 32 b) (Some (b, rest)) None (lt-ltb 32 b p.0)
escaped-back b rest false e h = first_pair-back b rest h

first_back : (n : Notation) (b : ℕ) (rest : List ℕ) → b < 256 → first_of n (byte_text n b ++ rest) ≡ Some (b, rest)
first_back Hex b rest h = first_pair-back b rest h
first_back Path b rest h = escaped-back b rest (is_plain b) refl h

-- BYTES
byte-some : (n : Notation) (b : ℕ) (rest : List ℕ) → 0 < length (byte_text n b ++ rest)
byte-some Hex b rest = omega arith
byte-some Path b rest = some_of (is_plain b)
  where
    some_of : (t : Bool) → 0 < length (cond t (b ∷ []) (92 ∷ hex_pair b) ++ rest)
    some_of true = omega arith
    some_of false = omega arith

all_back : (n : Notation) (bs : List ℕ) → AreBytes bs → read_all (length (all_text n bs)) n (all_text n bs) ≡ Some bs
all_back n [] h = refl
all_back n (b ∷ bs) h =
    read_more n (all_text n (b ∷ bs)) (b, all_text n bs) (byte-some n b (all_text n bs)) (first_back n b (all_text n bs) h.0) ∙ ap (option_map (λ (xs : List ℕ). b ∷ xs)) (all_back n bs h.1)

not_none : (n : Notation) (b : ℕ) (bs : List ℕ) → b < 256 → bytes_eq (all_text n (b ∷ bs)) (no_bytes n) ≡ false
not_none Hex b bs h = refl
not_none Path b bs h = other (is_plain b) refl
  where
    other : (t : Bool) → is_plain b ≡ t → bytes_eq (cond t (b ∷ []) (92 ∷ hex_pair b) ++ all_text Path bs) (92 ∷ (46 ∷ [])) ≡ false
    other true e = and_left (eqb b 92) _ (ne_eqb b 92 (plain-parts b e).2)
    other false e =
        let s = digit-shown (b / 16) (high_small b h) in
        and_left (eqb (hex_digit (b / 16)) 46) _ (ne_eqb (hex_digit (b / 16)) 46 (λ z. absurd (omega arith)))

pub bytes_back : (n : Notation) (bs : List ℕ) → AreBytes bs → bytes_of n (text_of n bs) ≡ Ok bs
unfolding bytes_of
bytes_back Hex [] h = refl
bytes_back Path [] h = refl
bytes_back n (b ∷ bs) h = bytes_read n (all_text n (b ∷ bs)) (Some (b ∷ bs)) (not_none n b bs h.0) (all_back n (b ∷ bs) h)

byte-shown : (n : Notation) (b : ℕ) → b < 256 → AllByRecursion Shown (byte_text n b)
byte-shown n b h =
    let high = digit-shown (b / 16) (high_small b h) in
    let low = digit-shown (b % 16) (low_small b) in
    shown n ((omega arith, omega arith), ((omega arith, omega arith), tt))
  where
    shown : (n : Notation) → AllByRecursion Shown (hex_pair b) → AllByRecursion Shown (byte_text n b)
    shown Hex pair = pair
    shown Path pair = cond_both (is_plain b) (b ∷ []) (92 ∷ hex_pair b) (AllByRecursion Shown) (λ e. let p = plain-parts b e in ((p.0, p.1), tt)) (λ e. ((omega arith, omega arith), pair))

all_shown : (n : Notation) (bs : List ℕ) → AreBytes bs → AllByRecursion Shown (all_text n bs)
all_shown n [] h = tt
all_shown n (b ∷ bs) h = All-append Shown (byte_text n b) (all_text n bs) (byte-shown n b h.0) (all_shown n bs h.1)

pub text-word : (n : Notation) (b : ℕ) (bs : List ℕ) → AreBytes (b ∷ bs) → IsWord (text_of n (b ∷ bs))
text-word n b bs h = (byte-some n b (all_text n bs), all_shown n (b ∷ bs) h)

pub path-word : (bs : List ℕ) → AreBytes bs → IsWord (text_of Path bs)
path-word [] h = (omega arith, ((omega arith, omega arith), ((omega arith, omega arith), tt)))
path-word (b ∷ bs) h = text-word Path b bs h

-- what is printed is text
pub text_utf8 : (n : Notation) (bs : List ℕ) → AreBytes bs → IsUtf8 (all_text n bs)
text_utf8 n bs h =
    let t = all_text n bs in
    IsUtf8-from_ascii t
    (λ i.
    ⊎_elim
    (λ l. let s = All-get_or Shown t i 0 l (all_shown n bs h) in omega arith)
    (λ l. omega (arith, get_or_past t i 0 l))
    (cases_lt i (length t)))
