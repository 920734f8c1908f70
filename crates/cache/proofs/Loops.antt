-- The frame that has a page, found from the last one on.
-- Assumes nothing.
use Rattle.std.proofs.Common.{map-id, ◌≡◌, ℕ, zero, suc, ◌-◌, ◌<◌, Bool, true, false, List, length, get_or, take, Some, None, Option, refl, sym, ap, ◌∙◌, subst, inl, inr, arith}
use Rattle.std.proofs.lemmas.Bool.{cases_eq}
use Rattle.std.proofs.lemmas.List.{get_or-take}
use Rattle.std.specs.Borrow.{Bor}
use Rattle.std.specs.List.{AllZip}
use Rattle.std.proofs.lemmas.Slice.Zip.{AllZip-map}
use Rattle.std.specs.Option.{option_map, IsSomeAnd}
use Rattle.caching.specs.declared.Tag.{Tag}
use Rattle.caching.specs.declared.Tag.TheVariants.{Free}
use Rattle.caching.specs.Frames.{holds, find_tag}

module _ (ts : List Tag) (n : ℕ) where
  abbrev Not : ℕ → ℕ → Type 0
  Not i c = (k : ℕ) → i < k → k < c → holds (get_or ts k Free) n ≡ false

  found_none : (c : ℕ) → ((k : ℕ) → k < c → holds (get_or ts k Free) n ≡ false) → None ≡ find_tag c ts n
  unfolding find_tag
  found_none zero f = refl
  found_none (suc c) f = rw (f c (omega arith)) (found_none c (λ k l. f k (omega arith)))

  found_some : (c i : ℕ) → i < c → holds (get_or ts i Free) n ≡ true → Not i c → Some i ≡ find_tag c ts n
  unfolding find_tag
  found_some zero i l h f = absurd (omega arith)
  found_some (suc c) i l h f =
      elim (cases_eq i c) [
        | inl e ↦ rw (ap (λ k. holds (get_or ts k Free) n) (sym e) ∙ h) (ap Some e)
        | inr e ↦ rw (f c (omega arith) (omega arith)) (found_some c i (omega arith) h (λ k a b. f k a (omega arith)))
      ]

  pub found : (c : ℕ) (r : Option ℕ) → (r ≡ None → (k : ℕ) → k < c → holds (get_or ts k Free) n ≡ false) → ((i : ℕ) → r ≡ Some i → (i < c) × (holds (get_or ts i Free) n ≡ true) × Not i c) → r ≡ find_tag c ts n
  found c None f g = found_none c (f refl)
  found c (Some i) f g = let (l, h, k) = g i refl in found_some c i l h k

-- so much of the tags has the same at each place
pub in_part : (ts xs : List Tag) (c k n : ℕ) (b : Bool) → xs ≡ take c ts → k < c → holds (get_or xs k Free) n ≡ b → holds (get_or ts k Free) n ≡ b
in_part ts xs c k n b e l h = ap (λ t. holds t n) (sym (get_or-take c ts k Free l) ∙ ap (λ xs. get_or xs k Free) (sym e)) ∙ h

-- what the item at a place from the back is
of-seen : (o : Option (Bor Tag)) (t : Tag) (n : ℕ) (b : Bool) (Q : Bor Tag → Type 0) → option_map (λ y. y.now) o ≡ Some t → IsSomeAnd o Q → ((y : Bor Tag) → Q y → holds y.now n ≡ b) → holds t n ≡ b
of-seen (Some y) t n b Q e q f = let d : y.now ≡ t = cc in ap (λ t. holds t n) (sym d) ∙ f y q
of-seen None t n b Q e q f = absurd q

pub from-back : (xs ys : List Tag) (at : ℕ → Option (Bor Tag)) (k n : ℕ) (b : Bool) (Q : Bor Tag → Type 0) → ys ≡ xs → option_map (λ y. y.now) (at (length ys - 1 - k)) ≡ Some (get_or ys k Free) → IsSomeAnd (at (length xs - 1 - k)) Q → ((y : Bor Tag) → Q y → holds y.now n ≡ b) → holds (get_or xs k Free) n ≡ b
from-back xs ys at k n b Q e q s f = of-seen (at (length xs - 1 - k)) (get_or xs k Free) n b Q (subst (λ ys. option_map (λ y. y.now) (at (length ys - 1 - k)) ≡ Some (get_or ys k Free)) e q) s f

-- CLEARING
pub same-items : (xs ys : List ℕ) → AllZip (λ x y. y ≡ x) xs ys → ys ≡ xs
same-items xs ys z = AllZip-map (λ x. x) xs ys z ∙ map-id xs
