-- The sectors of the map: what is put in is what is read.
-- Assumes nothing.
use Rattle.std.proofs.Common.{◌≡◌, ℕ, zero, suc, ◌+◌, ◌*◌, ◌/◌, ◌%◌, ◌^◌, ◌<◌, ◌≤◌, Bool, true, false, ◌&&◌, T, eqb, ltb, List, [], ◌∷◌, ◌++◌, length, get_or, take, drop, replicate, sym, refl, ap, ◌∙◌, subst, inl, inr, append_assoc, append-nil, arith, length-append, get_or-drop, take_at, get_or-append-add, drop_at}
use lib.ListN.{length-replicate, get_or-append}
use lib.Seq.{drop-append-le}
use Rattle.std.proofs.lemmas.List.{take-replicate, drop-replicate}
use Rattle.std.proofs.lemmas.Bool.{eqb-true, eq-eqb, lt-ltb, cases_lt, and_parts, and_from, or_left, or_right, false≢true}
use Rattle.device.specs.Sectors.{all_bytes, blank_sector}
use Rattle.paging.specs.Layout.{one}
use Rattle.paging.specs.Pages.{same_bytes, blank_label}
use Rattle.paging.specs.Sectors.{bytes_le, number_le, places_to, leaf_sector, place_at, bits_to, bytes_to, bit_of, inner_sector, bit_at, form_bytes, root_sector, label_at, root_known}

-- THE SAME BYTES
pub same : (a b : List ℕ) → same_bytes a b ≡ true → a ≡ b
unfolding same_bytes
same [] [] e = refl
same [] (y ∷ b) e = absurd (false≢true e)
same (x ∷ a) [] e = absurd (false≢true e)
same (x ∷ a) (y ∷ b) e =
    let h = and_parts (eqb x y) (same_bytes a b) e in
    let i = eqb-true x y h.0 in
    let j = same a b h.1 in
    cc

pub same_self : (b : List ℕ) → same_bytes b b ≡ true
unfolding same_bytes
same_self [] = refl
same_self (x ∷ b) = and_from _ _ (eq-eqb x x refl) (same_self b)

pub same_not : (a b : List ℕ) → (a ≡ b → ⊥) → same_bytes a b ≡ false
same_not a b n = go (same_bytes a b) refl
  where
    go : (t : Bool) → same_bytes a b ≡ t → t ≡ false
    go true e = absurd (n (same a b e))
    go false e = refl

pub not_same : (a b : List ℕ) → same_bytes a b ≡ false → a ≡ b → ⊥
not_same a b e i = false≢true (sym (subst (λ c. same_bytes a c ≡ false) (sym i) e) ∙ same_self a)

-- BYTES
pub T-left : (x y : Bool) → T (x && y) → T x
T-left true y h = tt
T-left false y h = h

pub T-right : (x y : Bool) → T (x && y) → T y
T-right true y h = h
T-right false y h = elim h [ ]

pub T-both : (x y : Bool) → T x → T y → T (x && y)
T-both true y h k = k
T-both false y h k = h

pub bytes-append : (a b : List ℕ) → T (all_bytes a) → T (all_bytes b) → T (all_bytes (a ++ b))
unfolding all_bytes
bytes-append [] b h k = k
bytes-append (x ∷ a) b h k = T-both (ltb x 256) _ (T-left (ltb x 256) (all_bytes a) h) (bytes-append a b (T-right (ltb x 256) (all_bytes a) h) k)

pub bytes_take : (n : ℕ) (b : List ℕ) → T (all_bytes b) → T (all_bytes (take n b))
unfolding all_bytes
bytes_take zero b h = tt
bytes_take (suc n) [] h = tt
bytes_take (suc n) (x ∷ b) h = T-both (ltb x 256) _ (T-left (ltb x 256) (all_bytes b) h) (bytes_take n b (T-right (ltb x 256) (all_bytes b) h))

pub bytes_drop : (n : ℕ) (b : List ℕ) → T (all_bytes b) → T (all_bytes (drop n b))
unfolding all_bytes
bytes_drop zero b h = h
bytes_drop (suc n) [] h = tt
bytes_drop (suc n) (x ∷ b) h = bytes_drop n b (T-right (ltb x 256) (all_bytes b) h)

pub bytes-zeros : (n : ℕ) → T (all_bytes (replicate n 0))
unfolding all_bytes
bytes-zeros zero = tt
bytes-zeros (suc n) = bytes-zeros n

byte_one : (v : ℕ) → v < 256 → T (all_bytes (v ∷ []))
unfolding all_bytes
byte_one v l = rw (lt-ltb v 256 l) tt

zeros-at : (n t : ℕ) → ◌≡◌ {A = ℕ} (get_or (replicate n 0) t 0) 0
zeros-at zero t = refl
zeros-at (suc n) zero = refl
zeros-at (suc n) (suc t) = zeros-at n t

get_or-past : (p q : List ℕ) (n k : ℕ) → length p ≡ n → get_or (p ++ q) (n + k) 0 ≡ get_or q k 0
get_or-past p q n k e = subst (λ n. get_or (p ++ q) (n + k) 0 ≡ get_or q k 0) e (get_or-append-add p q k 0)

-- PLACES
length-le : (n v : ℕ) → length (bytes_le n v) ≡ n
unfolding bytes_le
length-le zero v = refl
length-le (suc n) v = ap suc (length-le n (v / 256))

le_bytes : (n v : ℕ) → T (all_bytes (bytes_le n v))
unfolding bytes_le all_bytes
le_bytes zero v = tt
le_bytes (suc n) v = rw (lt-ltb (v % 256) 256 (omega arith)) (le_bytes n (v / 256))

le-back : (n v : ℕ) (rest : List ℕ) → v < 256 ^ n → number_le n (bytes_le n v ++ rest) ≡ v
unfolding bytes_le number_le
le-back zero v rest l = omega arith
le-back (suc n) v rest l = let a = le-back n (v / 256) rest (omega arith) in omega arith

length-places : (n : ℕ) (f : ℕ → ℕ) → length (places_to n f) ≡ 8 * n
unfolding places_to
length-places zero f = refl
length-places (suc n) f = length-append (places_to n f) (bytes_le 8 (f n)) ∙ (let a = length-places n f in let b = length-le 8 (f n) in omega arith)

places-bytes : (n : ℕ) (f : ℕ → ℕ) → T (all_bytes (places_to n f))
unfolding places_to all_bytes
places-bytes zero f = tt
places-bytes (suc n) f = bytes-append (places_to n f) _ (places-bytes n f) (le_bytes 8 (f n))

place_rest : (n j : ℕ) (f : ℕ → ℕ) → j < n → (rest : List ℕ) × (drop (8 * j) (places_to n f) ≡ bytes_le 8 (f j) ++ rest)
unfolding places_to
place_rest zero j f l = absurd (omega arith)
place_rest (suc n) j f l =
    elim (cases_lt j n) [
      | inl a ↦
          let h = place_rest n j f a in
          (h.0 ++ bytes_le 8 (f n), drop-append-le (8 * j) (places_to n f) (bytes_le 8 (f n)) (rw (length-places n f) (omega arith)) ∙ (ap (λ x. x ++ bytes_le 8 (f n)) h.1 ∙ append_assoc (bytes_le 8 (f j)) h.0 (bytes_le 8 (f n))))
      | inr a ↦
          let e : j ≡ n = omega arith in
          ([], ap (λ k. drop (8 * k) (places_to n f ++ bytes_le 8 (f n))) e ∙ (drop_at (places_to n f) (bytes_le 8 (f n)) (8 * n) (length-places n f) ∙ (ap (λ k. bytes_le 8 (f k)) (sym e) ∙ sym (append-nil _))))
    ]

pub place-back : (f : ℕ → ℕ) (j : ℕ) → j < 64 → f j < 2 ^ 64 → place_at (leaf_sector f) j ≡ f j
place-back f j l s = let h = place_rest 64 j f l in ap (number_le 8) h.1 ∙ le-back 8 (f j) h.0 s

number-none : (n : ℕ) (bs : List ℕ) → ((i : ℕ) → get_or bs i 0 ≡ 0) → number_le n bs ≡ 0
unfolding number_le
number-none zero bs h = refl
number-none (suc n) bs h = let a = h 0 in let b = number-none n (drop 1 bs) (λ i. get_or-drop 1 bs i 0 ∙ h (1 + i)) in omega arith

pub place-blank : (j : ℕ) → place_at blank_sector j ≡ 0
place-blank j = number-none 8 (drop (8 * j) (replicate 512 0)) (λ i. get_or-drop (8 * j) (replicate 512 0) i 0 ∙ zeros-at 512 (8 * j + i))

pub leaf-whole : (f : ℕ → ℕ) → length (leaf_sector f) ≡ 512
leaf-whole f = length-places 64 f

pub leaf-bytes : (f : ℕ → ℕ) → T (all_bytes (leaf_sector f))
leaf-bytes f = places-bytes 64 f

-- BITS
pub one-le : (b : Bool) → one b ≤ 1
unfolding one
one-le true = omega arith
one-le false = omega arith

is_one : (b : Bool) → eqb (one b) 1 ≡ b
unfolding one
is_one true = refl
is_one false = refl

bits_below : (n : ℕ) (f : ℕ → Bool) → bits_to n f < 2 ^ n
unfolding bits_to
bits_below zero f = omega arith
bits_below (suc n) f = let a = one-le (f 0) in let b = bits_below n (λ i. f (suc i)) in omega arith

bit-back : (n i : ℕ) (f : ℕ → Bool) → i < n → bit_of i (bits_to n f) ≡ f i
unfolding bits_to bit_of
bit-back zero i f l = absurd (omega arith)
bit-back (suc n) zero f l = let a : (one (f 0) + 2 * bits_to n (λ i. f (suc i))) % 2 ≡ one (f 0) = omega (arith, one-le (f 0)) in ap (λ v. eqb v 1) a ∙ is_one (f 0)
bit-back (suc n) (suc i) f l =
    let a : (one (f 0) + 2 * bits_to n (λ i. f (suc i))) / 2 ≡ bits_to n (λ i. f (suc i)) = omega (arith, one-le (f 0)) in
    ap (bit_of i) a ∙ bit-back n i (λ i. f (suc i)) (omega arith)

bit-none : (i : ℕ) → bit_of i 0 ≡ false
unfolding bit_of
bit-none zero = refl
bit-none (suc i) = bit-none i

length-bytes : (n : ℕ) (f : ℕ → Bool) → length (bytes_to n f) ≡ n
unfolding bytes_to
length-bytes zero f = refl
length-bytes (suc n) f = length-append (bytes_to n f) _ ∙ (let a = length-bytes n f in omega arith)

bytes-bytes : (n : ℕ) (f : ℕ → Bool) → T (all_bytes (bytes_to n f))
unfolding bytes_to all_bytes
bytes-bytes zero f = tt
bytes-bytes (suc n) f = bytes-append (bytes_to n f) _ (bytes-bytes n f) (byte_one _ (bits_below 8 (λ i. f (8 * n + i))))

byte_at : (n k : ℕ) (f : ℕ → Bool) → k < n → get_or (bytes_to n f) k 0 ≡ bits_to 8 (λ i. f (8 * k + i))
unfolding bytes_to
byte_at zero k f l = absurd (omega arith)
byte_at (suc n) k f l =
    elim (cases_lt k n) [
      | inl a ↦ get_or-append (bytes_to n f) _ 0 k (rw (length-bytes n f) a) ∙ byte_at n k f a
      | inr a ↦
          let e : k ≡ n + 0 = omega arith in
          let i : k ≡ n = omega arith in
          ap (λ k. get_or (bytes_to n f ++ (bits_to 8 (λ i. f (8 * n + i)) ∷ [])) k 0) e ∙ (get_or-past (bytes_to n f) _ n 0 (length-bytes n f) ∙ ap (λ n. bits_to 8 (λ i. f (8 * n + i))) (sym i))
    ]

bit_in : (f : ℕ → Bool) (k v : ℕ) → k < 2048 → v ≡ get_or (bytes_to 256 f) (k / 8) 0 → bit_of (k % 8) v ≡ f k
bit_in f k v l e =
    let a : 8 * (k / 8) + k % 8 ≡ k = omega arith in
    ap (bit_of (k % 8)) (e ∙ byte_at 256 (k / 8) f (omega arith)) ∙ (bit-back 8 (k % 8) (λ i. f (8 * (k / 8) + i)) (omega arith) ∙ ap f a)

pub bit-inner : (f : ℕ → Bool) (k : ℕ) → k < 2048 → bit_at (inner_sector f) k ≡ f k
bit-inner f k l = bit_in f k _ l (get_or-past (replicate 256 0) (bytes_to 256 f) 256 (k / 8) (length-replicate {A = ℕ} 256 0))

pub bit-root : (label : List ℕ) (f : ℕ → Bool) (k : ℕ) → length label ≡ 248 → k < 2048 → bit_at (root_sector label f) k ≡ f k
bit-root label f k h l =
    let e : 256 + k / 8 ≡ 8 + (248 + k / 8) = omega arith in
    bit_in f k _ l (ap (λ i. get_or (root_sector label f) i 0) e ∙ (get_or-past form_bytes (label ++ bytes_to 256 f) 8 (248 + k / 8) refl ∙ get_or-past label (bytes_to 256 f) 248 (k / 8) h))

pub bit-blank : (k : ℕ) → bit_at blank_sector k ≡ false
bit-blank k = ap (bit_of (k % 8)) (zeros-at 512 (256 + k / 8)) ∙ bit-none (k % 8)

pub inner-whole : (f : ℕ → Bool) → length (inner_sector f) ≡ 512
inner-whole f = length-append (replicate 256 0) (bytes_to 256 f) ∙ (let a = length-replicate {A = ℕ} 256 0 in let b = length-bytes 256 f in omega arith)

pub inner-bytes : (f : ℕ → Bool) → T (all_bytes (inner_sector f))
inner-bytes f = bytes-append (replicate 256 0) _ (bytes-zeros 256) (bytes-bytes 256 f)

-- THE ROOT
pub root-whole : (label : List ℕ) (f : ℕ → Bool) → length label ≡ 248 → length (root_sector label f) ≡ 512
root-whole label f h = length-append form_bytes (label ++ bytes_to 256 f) ∙ (let a = length-append label (bytes_to 256 f) in let b = length-bytes 256 f in omega arith)

pub root-bytes : (label : List ℕ) (f : ℕ → Bool) → T (all_bytes label) → T (all_bytes (root_sector label f))
root-bytes label f h = bytes-append form_bytes _ (unfold all_bytes in tt) (bytes-append label _ h (bytes-bytes 256 f))

pub label-back : (label : List ℕ) (f : ℕ → Bool) → length label ≡ 248 → label_at (root_sector label f) ≡ label
label-back label f h = ap (take 248) (drop_at form_bytes (label ++ bytes_to 256 f) 8 refl) ∙ take_at label (bytes_to 256 f) 248 h

pub label-blank : label_at blank_sector ≡ blank_label
label-blank = ap (take 248) (drop-replicate 8 512 0) ∙ take-replicate 248 504 0 (omega arith)

pub known-root : (label : List ℕ) (f : ℕ → Bool) → root_known (root_sector label f) ≡ true
known-root label f = or_left _ _ (ap (λ b. same_bytes b form_bytes) (take_at form_bytes (label ++ bytes_to 256 f) 8 refl) ∙ same_self form_bytes)

pub known-blank : root_known blank_sector ≡ true
known-blank = or_right _ _ (same_self blank_sector)
