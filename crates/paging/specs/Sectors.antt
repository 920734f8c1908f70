-- What the sectors of the map hold: places, selector bits, and in the root the form and the label. Numbers have their lowest byte first.
-- Assumes nothing.
use Rattle.std.specs.Prelude.{ℕ, zero, suc, ◌+◌, ◌*◌, ◌/◌, ◌%◌, Bool, ◌||◌, List, [], ◌∷◌, ◌++◌, take, drop, replicate, ◌==◌, slice_index}
use Rattle.device.specs.Sectors.{blank_sector}
use Rattle.paging.specs.Layout.{one}
use Rattle.paging.specs.Pages.{same_bytes}

-- a number in n bytes, and the number that n bytes from a place on say
unfoldable pub bytes_le : ℕ → ℕ → List ℕ
bytes_le zero v = []
bytes_le (suc n) v = v % 256 ∷ bytes_le n (v / 256)

unfoldable pub number_le : ℕ → List ℕ → ℕ
number_le zero bs = 0
number_le (suc n) bs = slice_index bs 0 + 256 * number_le n (drop 1 bs)

-- n places, f 0 to f (n - 1), of 8 bytes each
unfoldable pub places_to : ℕ → (ℕ → ℕ) → List ℕ
places_to zero f = []
places_to (suc n) f = places_to n f ++ bytes_le 8 (f n)

-- A leaf: 64 places.
abbrev pub leaf_sector : (ℕ → ℕ) → List ℕ
leaf_sector f = places_to 64 f

abbrev pub place_at : List ℕ → ℕ → ℕ
place_at bs j = number_le 8 (drop (8 * j) bs)

-- n bits as a number, the first the lowest; n bytes of 8 bits each
unfoldable pub bits_to : ℕ → (ℕ → Bool) → ℕ
bits_to zero f = 0
bits_to (suc n) f = one (f 0) + 2 * bits_to n (λ i. f (suc i))

unfoldable pub bytes_to : ℕ → (ℕ → Bool) → List ℕ
bytes_to zero f = []
bytes_to (suc n) f = bytes_to n f ++ (bits_to 8 (λ i. f (8 * n + i)) ∷ [])

unfoldable pub bit_of : ℕ → ℕ → Bool
bit_of zero v = v % 2 == 1
bit_of (suc i) v = bit_of i (v / 2)

-- An inner node: 2,048 bits in its second half.
abbrev pub inner_sector : (ℕ → Bool) → List ℕ
inner_sector f = replicate 256 0 ++ bytes_to 256 f

abbrev pub bit_at : List ℕ → ℕ → Bool
bit_at bs k = bit_of (k % 8) (slice_index bs (256 + k / 8))

-- The root: the form (the mark RATS, the form's number, the least form that may read it), the label, the bits.
abbrev pub form_bytes : List ℕ
form_bytes = 82 ∷ 65 ∷ 84 ∷ 83 ∷ 1 ∷ 0 ∷ 1 ∷ 0 ∷ []

abbrev pub root_sector : List ℕ → (ℕ → Bool) → List ℕ
root_sector label f = form_bytes ++ (label ++ bytes_to 256 f)

abbrev pub label_at : List ℕ → List ℕ
label_at bs = take 248 (drop 8 bs)

-- A root of a form that is known: of this one, or all zero.
abbrev pub root_known : List ℕ → Bool
root_known bs = same_bytes (take 8 bs) form_bytes || same_bytes bs blank_sector
