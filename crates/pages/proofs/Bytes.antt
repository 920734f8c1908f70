-- The bytes of a sector: compared, and as numbers and bits.
-- Assumes nothing.
use Rattle.std.proofs.Common.{◌≡◌, ℕ, zero, suc, ◌+◌, ◌-◌, ◌*◌, ◌/◌, ◌%◌, ◌^◌, ◌<◌, ◌≤◌, Bool, true, false, not, ◌&&◌, eqb, ltb, List, [], ◌∷◌, ◌++◌, length, get_or, take, drop, take-suc, take_all, subst, sym, refl, ap, ◌∙◌, inl, inr, arith, lit<}
use mir.Val.{bool_byte}
use lib.Bits.{bit_and, bit_or}
use borrow.Rule.Slice.PartMut.{put_mid}
use denote.Param.Members.{Mut, Called}
use Rattle.std.specs.Prelude.{MatchOption}
use Rattle.std.specs.declared.option.Option.{Option}
use Rattle.std.specs.Iterator.{AlwaysYields}
use Rattle.std.specs.Iterator.Adapters.{rev_steps, rev_source}
use Rattle.std.specs.declared.iter.Rev.{Rev}
use Rattle.std.specs.declared.ops.Range.{Range}
use Rattle.std.specs.Array.{IsFromFnResultFrom, IsFromFnResult}
use Rattle.std.specs.List.{starts_with, flat_map, fold}
use Rattle.std.specs.Simd.{first_chunks}
use Rattle.std.specs.Cmp.Lexicographic.{pointwise}
use Rattle.std.proofs.lemmas.Nat.{or_disjoint, shr-shr, and_mask, pow-add, pow_below}
use Rattle.std.proofs.lemmas.Slice.Eq.{slice_eq-Decides, compares_Decides}
use Rattle.std.proofs.lemmas.List.{get_or-drop, get_or-take, drop-drop, append-nil, append_assoc, length-append, length-drop, length-take, take_at}
use Rattle.std.proofs.lemmas.Slice.{take-put_mid}
use Rattle.std.proofs.lemmas.Grind.{flat_map-append}
use Rattle.std.proofs.lemmas.Bool.{cases_eq, eq-eqb, ne_eqb, lt-ltb, and_from}
use Rattle.std.proofs.lemmas.Bool.Decides.{same_from_decides, Decides-eqb}
use Rattle.device.specs.Sectors.{all_bytes}
use Rattle.paging.specs.Layout.{one}
use Rattle.paging.specs.Pages.{same_bytes}
use Rattle.paging.specs.Sectors.{number_le, bit_of, bits_to, bytes_to, bytes_le, places_to}
use Rattle.pages.proofs.Counts.{by-eq, one-le, from-bool}

-- `==` of bytes
pub same-is : (xs ys : List ℕ) (r : Bool) → r ≡ pointwise eqb xs ys → r ≡ same_bytes xs ys
unfolding same_bytes
same-is xs ys r h = same_from_decides r (same_bytes xs ys) (slice_eq-Decides Decides-eqb xs ys r h) (compares_Decides same_bytes (record { empty = refl; shorter = λ y ys. refl; longer = λ x xs. refl; heads = λ x y xs ys. refl }) xs ys)

eqb-swap : (x y : ℕ) → eqb x y ≡ eqb y x
eqb-swap x y = by-eq x y (λ t. t ≡ eqb y x) (λ e. sym (eq-eqb y x (sym e))) (λ n. sym (ne_eqb y x (λ e. n (sym e))))

same-swap : (xs ys : List ℕ) → same_bytes xs ys ≡ same_bytes ys xs
unfolding same_bytes
same-swap [] [] = refl
same-swap [] (y ∷ ys) = refl
same-swap (x ∷ xs) [] = refl
same-swap (x ∷ xs) (y ∷ ys) = λ j. eqb-swap x y j && same-swap xs ys j

-- `starts_with`
pub starts-is : (xs form : List ℕ) (r : Bool) → r ≡ starts_with eqb xs form → r ≡ same_bytes (take (length form) xs) form
starts-is xs form r h = same-is form (take (length form) xs) r h ∙ same-swap form (take (length form) xs)

twice_not : (b : Bool) → not (not b) ≡ b
twice_not true = refl
twice_not false = refl

-- `!=` of bytes
pub differ-is : (xs ys : List ℕ) (r : Bool) → r ≡ not (pointwise eqb xs ys) → same_bytes xs ys ≡ not r
differ-is xs ys r h = sym (same-is xs ys (pointwise eqb xs ys) refl) ∙ (sym (twice_not (pointwise eqb xs ys)) ∙ ap not (sym h))

-- a bit of a byte
pub bit_is : (i v : ℕ) → eqb (bit_and (v / 2 ^ i) 1) 1 ≡ bit_of i v
unfolding bit_of
bit_is zero v = let a : v / 1 ≡ v = omega arith in ap (λ (n : ℕ). eqb n 1) (and_mask (v / 1) 1 ∙ ap (λ (n : ℕ). n % 2) a)
bit_is (suc i) v = let a : v / 2 ^ suc i ≡ v / 2 / 2 ^ i = sym (shr-shr v 1 i ∙ ap (λ (n : ℕ). v / 2 ^ n) (let e : 1 + i ≡ suc i = omega arith in e)) in ap (λ (n : ℕ). eqb (bit_and n 1) 1) a ∙ bit_is i (v / 2)

-- a number of 8 bytes
number_more : (n k i : ℕ) (bs : List ℕ) → number_le (suc n) (drop (k + i) bs) ≡ get_or bs (k + i) 0 + 256 * number_le n (drop (k + suc i) bs)
unfolding number_le
number_more n k i bs =
    let a : (k + i) + 0 ≡ k + i = omega arith in
    let b : (k + i) + 1 ≡ k + suc i = omega arith in
    rw (get_or-drop (k + i) bs 0 0, drop-drop 1 (k + i) bs, a, b)

number-none : (bs : List ℕ) → number_le 0 bs ≡ 0
unfolding number_le
number-none bs = refl

pub number_is : (bs w : List ℕ) (k n : ℕ) → n ≡ 8 → w ≡ take n (drop k bs) →
    ((((((get_or w 0 0 + get_or w 1 0 * 256) + get_or w 2 0 * 65536) + get_or w 3 0 * 16777216) + get_or w 4 0 * 4294967296) + get_or w 5 0 * 1099511627776) + get_or w 6 0 * 281474976710656) + get_or w 7 0 * 72057594037927936 ≡ number_le 8 (drop k bs)
number_is bs w k n z e =
    let a0 = at 0 (omega arith) in
    let a1 = at 1 (omega arith) in
    let a2 = at 2 (omega arith) in
    let a3 = at 3 (omega arith) in
    let a4 = at 4 (omega arith) in
    let a5 = at 5 (omega arith) in
    let a6 = at 6 (omega arith) in
    let a7 = at 7 (omega arith) in
    let b0 = number_more 7 k 0 bs in
    let b1 = number_more 6 k 1 bs in
    let b2 = number_more 5 k 2 bs in
    let b3 = number_more 4 k 3 bs in
    let b4 = number_more 3 k 4 bs in
    let b5 = number_more 2 k 5 bs in
    let b6 = number_more 1 k 6 bs in
    let b7 = number_more 0 k 7 bs in
    let b8 = number-none (drop (k + 8) bs) in
    let y : k + 0 ≡ k = omega arith in
    let c = ap (λ (i : ℕ). number_le 8 (drop i bs)) y in
    omega arith
  where
    at : (i : ℕ) → i < 8 → get_or w i 0 ≡ get_or bs (k + i) 0
    at i l = ap (λ (x : List ℕ). get_or x i 0) e ∙ (get_or-take n (drop k bs) i 0 (omega arith) ∙ get_or-drop k bs i 0)

-- a part of n bytes
pub chunk-at : (n k j : ℕ) (bs : List ℕ) → j < k → get_or (first_chunks n k bs) j [] ≡ take n (drop (n * j) bs)
chunk-at n zero j bs l = absurd (omega arith)
chunk-at n (suc k) zero bs l = let e : n * 0 ≡ 0 = omega arith in ap (λ (i : ℕ). take n (drop i bs)) (sym e)
chunk-at n (suc k) (suc j) bs l = let e : n + n * j ≡ n * suc j = omega arith in chunk-at n k j (drop n bs) (omega arith) ∙ ap (take n) (drop-drop (n * j) n bs ∙ ap (λ (n : ℕ). drop n bs) e)

-- bits as a number
bits-ext : (n : ℕ) (f g : ℕ → Bool) → ((k : ℕ) → f k ≡ g k) → bits_to n f ≡ bits_to n g
unfolding bits_to
bits-ext zero f g h = refl
bits-ext (suc n) f g h = let a = ap one (h 0) in let b = bits-ext n (λ i. f (suc i)) (λ i. g (suc i)) (λ i. h (suc i)) in omega arith

pub bits_none : (f : ℕ → Bool) → 0 ≡ bits_to 0 f
unfolding bits_to
bits_none f = refl

bits_below : (n : ℕ) (f : ℕ → Bool) → bits_to n f < 2 ^ n
unfolding bits_to
bits_below zero f = lit< tt
bits_below (suc n) f = let a = one-le (f 0) in let b = bits_below n (λ i. f (suc i)) in let c = pow-add 2 1 n in let e : 1 + n ≡ suc n = omega arith in let d = ap (λ (k : ℕ). 2 ^ k) e in omega arith

pub bits_small : (n v : ℕ) (f : ℕ → Bool) → n ≤ 8 → v ≡ bits_to n f → v < 256
bits_small n v f l e = let a = bits_below n f in elim (cases_eq n 8) [ inl z ↦ (let b = ap (λ (k : ℕ). 2 ^ k) z in omega arith) | inr z ↦ (let b = pow_below n 8 (omega arith) in omega arith) ]

pub bits_short : (n v : ℕ) (f : ℕ → Bool) → n < 8 → v ≡ bits_to n f → v < 128
bits_short n v f l e = let a = bits_below n f in elim (cases_eq n 7) [ inl z ↦ (let b = ap (λ (k : ℕ). 2 ^ k) z in omega arith) | inr z ↦ (let b = pow_below n 7 (omega arith) in omega arith) ]

-- what `to_le_bytes` gives
pub le_is : (v : ℕ) → v % 256 ∷ (v / 256 % 256 ∷ (v / 65536 % 256 ∷ (v / 16777216 % 256 ∷ (v / 4294967296 % 256 ∷ (v / 1099511627776 % 256 ∷ (v / 281474976710656 % 256 ∷ (v / 72057594037927936 % 256 ∷ []))))))) ≡ bytes_le 8 v
unfolding bytes_le
le_is v =
    let e2 : v / 65536 ≡ v / 256 / 256 = omega arith in
    let e3 : v / 16777216 ≡ v / 256 / 256 / 256 = (let a : v / 16777216 ≡ v / 65536 / 256 = omega arith in a ∙ ap (λ (n : ℕ). n / 256) e2) in
    let e4 : v / 4294967296 ≡ v / 256 / 256 / 256 / 256 = (let a : v / 4294967296 ≡ v / 16777216 / 256 = omega arith in a ∙ ap (λ (n : ℕ). n / 256) e3) in
    let e5 : v / 1099511627776 ≡ v / 256 / 256 / 256 / 256 / 256 = (let a : v / 1099511627776 ≡ v / 4294967296 / 256 = omega arith in a ∙ ap (λ (n : ℕ). n / 256) e4) in
    let e6 : v / 281474976710656 ≡ v / 256 / 256 / 256 / 256 / 256 / 256 = (let a : v / 281474976710656 ≡ v / 1099511627776 / 256 = omega arith in a ∙ ap (λ (n : ℕ). n / 256) e5) in
    let e7 : v / 72057594037927936 ≡ v / 256 / 256 / 256 / 256 / 256 / 256 / 256 = (let a : v / 72057594037927936 ≡ v / 281474976710656 / 256 = omega arith in a ∙ ap (λ (n : ℕ). n / 256) e6) in
    λ j. v % 256 ∷ (v / 256 % 256 ∷ (e2 j % 256 ∷ (e3 j % 256 ∷ (e4 j % 256 ∷ (e5 j % 256 ∷ (e6 j % 256 ∷ (e7 j % 256 ∷ [])))))))

-- the root: the form, the label, the bits
pub root_is : (form label z x y s : List ℕ) (f : ℕ → Bool) → length form ≡ 8 → length label ≡ 248 → x ≡ form → y ≡ label → s ≡ take 256 (put_mid 8 248 (put_mid 0 8 z x) y) ++ bytes_to 256 f → s ≡ form ++ (label ++ bytes_to 256 f)
root_is form label z x y s f lf ll ex ey e =
    let a : length x ≡ 8 = ap length ex ∙ lf in
    let b : length y ≡ 248 = ap length ey ∙ ll in
    let n : 8 ≤ length (put_mid 0 8 z x) = simp length-append (omega arith) in
    let p = take-put_mid 8 248 (put_mid 0 8 z x) y 256 (omega arith) n in
    let q : take 8 (put_mid 0 8 z x) ≡ x = take_at x (drop 8 z) 8 a in
    e ∙ ((λ j. (p ∙ (λ i. (q ∙ ex) i ++ ey i)) j ++ bytes_to 256 f) ∙ append_assoc form label (bytes_to 256 f))

-- a page, or a label, of bytes
all-bytes : (b : List ℕ) → ((i : ℕ) → get_or b i 0 < 256) → all_bytes b ≡ true
unfolding all_bytes
all-bytes [] h = refl
all-bytes (x ∷ b) h = and_from (ltb x 256) (all_bytes b) (lt-ltb x 256 (h 0)) (all-bytes b (λ i. h (suc i)))

pub can-put : (b : List ℕ) (n : ℕ) → length b ≡ n → ((i : ℕ) → get_or b i 0 < 256) → (eqb (length b) n && all_bytes b) ≡ true
can-put b n e h = and_from (eqb (length b) n) (all_bytes b) (eq-eqb (length b) n e) (all-bytes b h)

-- what `from_fn` makes, by a closure that stays as it is
module _ {F B : Type 0} (g : Mut F (ℕ × Unit {0}) B) (f : F) (v : ℕ → B) (calls : (k : ℕ) (y : B) (q : F) → Called g f (k, tt) y q → (q ≡ f) × (y ≡ v k)) where
  made-from : (ys : List B) (i n j k : ℕ) (d : B) → IsFromFnResultFrom g f ys i n → k ≡ i + j → j < n → get_or ys k d ≡ v k
  made-from ys i zero j k d h z l = absurd (omega arith)
  made-from ys i (suc n) zero k d (q, y, e, c, h) z l = let a : k ≡ i = omega arith in rw a (e.1 d ∙ (calls i y q c).1)
  made-from ys i (suc n) (suc j) k d (q, y, e, c, h) z l = made-from ys (i + 1) n j k d (subst (λ p. IsFromFnResultFrom g p ys (i + 1) n) (calls i y q c).0 h) (omega arith) (omega arith)

  pub made-at : (ys : List B) (n : ℕ) → IsFromFnResult g f ys n → (k : ℕ) (d : B) → k < n → get_or ys k d ≡ v k
  made-at ys n h k d l = made-from ys 0 n k k d h.each (omega arith) l

-- n bytes of bits
bytes-first : (n m : ℕ) (ys : List ℕ) (f : ℕ → Bool) → length ys ≡ n → ((k : ℕ) → k < n → get_or ys k 0 ≡ bits_to 8 (λ i. f (8 * k + i))) → m ≤ n → take m ys ≡ bytes_to m f
unfolding bytes_to
bytes-first n zero ys f e h l = refl
bytes-first n (suc m) ys f e h l = take-suc ys m 0 (omega arith) ∙ ((λ j. bytes-first n m ys f e h (omega arith) j ++ (h m (omega arith) j ∷ [])))

pub bytes_are : (n : ℕ) (ys : List ℕ) (f : ℕ → Bool) → length ys ≡ n → ((k : ℕ) → k < n → get_or ys k 0 ≡ bits_to 8 (λ i. f (8 * k + i))) → ys ≡ bytes_to n f
bytes_are n ys f e h = sym (take_all n ys (omega arith)) ∙ bytes-first n n ys f e h (omega arith)

-- the second half of a sector is put
pub second-half : (s w : List ℕ) → length s ≡ 512 → length w ≡ 256 → put_mid 256 256 s w ≡ take 256 s ++ w
second-half s w l k =
    let a : length (drop 256 (drop 256 s)) ≡ 0 = simp length-drop (omega arith) in
    let b : length (take 256 s) ≡ 256 = simp length-take (omega arith) in
    sym (take_all 512 (put_mid 256 256 s w) (simp length-append (omega arith))) ∙ take-put_mid 256 256 s w 512 (omega arith) (omega arith)

-- n places, each of 8 bytes
places-first : (n m : ℕ) (ys : List (List ℕ)) (f : ℕ → ℕ) → length ys ≡ n → ((k : ℕ) → k < n → get_or ys k [] ≡ bytes_le 8 (f k)) → m ≤ n → flat_map (λ x. x) (take m ys) ≡ places_to m f
unfolding places_to
places-first n zero ys f e h l = refl
places-first n (suc m) ys f e h l =
    ap (flat_map (λ x. x)) (take-suc ys m [] (omega arith)) ∙ (flat_map-append (λ x. x) (take m ys) (get_or ys m [] ∷ []) ∙ (λ j. places-first n m ys f e h (omega arith) j ++ (append-nil (get_or ys m []) ∙ h m (omega arith)) j))

pub places_are : (n : ℕ) (ys : List (List ℕ)) (f : ℕ → ℕ) → length ys ≡ n → ((k : ℕ) → k < n → get_or ys k [] ≡ bytes_le 8 (f k)) → flat_map (λ x. x) ys ≡ places_to n f
places_are n ys f e h = ap (flat_map (λ x. x)) (sym (take_all n ys (omega arith))) ∙ places-first n n ys f e h (omega arith)

-- what a range gives from the back
unfoldable pub down : ℕ → List ℕ
down zero = []
down (suc n) = n ∷ down n

abbrev pub back : Range ℕ → Option ℕ → Range ℕ → Type 0
back s r t = (t.start ≡ s.start) × MatchOption r ((s.end - s.start ≡ 0) × (t.end ≡ s.end)) (λ x. (0 < s.end - s.start) × (x ≡ t.end) × (s.end ≡ t.end + 1))

pub range-down : (n : ℕ) (s : Rev (Range ℕ)) → (rev_source s).start ≡ 0 → (rev_source s).end ≡ n → AlwaysYields (rev_steps back) (λ x. x) s (down n)
unfolding down
range-down zero s a b = λ x j p. omega (arith, p.1.0)
range-down (suc n) s a b = ((λ j p. omega (arith, p.1.0)), λ x j p. (omega (arith, p.1.1, p.1.2), range-down n j (p.0 ∙ a) (omega (arith, p.1.2))))

-- 8 bits as a number, the highest first
abbrev pub bit_in : (ℕ → Bool) → ℕ → ℕ → ℕ
bit_in f v n = bit_or (v * 2 % 256) (bool_byte (f n))

or-bit : (w : ℕ) (b : Bool) → bit_or (w * 2) (one b) ≡ one b + 2 * w
unfolding one
or-bit w true = or_disjoint (w * 2) 1 (and_mask (w * 2) 1 ∙ omega arith) ∙ omega arith
or-bit w false = or_disjoint (w * 2) 0 (and_mask (w * 2) 0 ∙ omega arith) ∙ omega arith

bit-in : (f : ℕ → Bool) (v n : ℕ) → v < 128 → bit_in f v n ≡ one (f n) + 2 * v
bit-in f v n l = let a : v * 2 % 256 ≡ v * 2 = omega arith in (λ j. bit_or (a j) (from-bool (f n) j)) ∙ or-bit v (f n)

pub bits-down : (f : ℕ → Bool) (n i v : ℕ) → i + n ≡ 8 → v ≡ bits_to i (λ k. f (n + k)) → fold (bit_in f) v (down n) ≡ bits_to 8 f
unfolding bits_to down
bits-down f zero i v a e = e ∙ (bits-ext i (λ k. f (0 + k)) f (λ k. let z : 0 + k ≡ k = omega arith in ap f z) ∙ (let z : i ≡ 8 = omega arith in ap (λ m. bits_to m f) z))
bits-down f (suc n) i v a e =
    let b = bits-ext i (λ k. f (suc n + k)) (λ k. f (n + suc k)) (λ k. let z : suc n + k ≡ n + suc k = omega arith in ap f z) in
    let d : one (f n) ≡ one (f (n + 0)) = let z : n ≡ n + 0 = omega arith in ap (λ k. one (f k)) z in
    let l = bits_short i v (λ k. f (suc n + k)) (omega arith) e in
    bits-down f n (suc i) (bit_in f v n) (omega arith) (bit-in f v n l ∙ (λ j. d j + 2 * (e ∙ b) j))
