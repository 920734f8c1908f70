-- The order of keys, as `<`, `>=` and `==` on their bytes say it.
-- Assumes nothing.
use Rattle.std.proofs.Common.{◌≡◌, ℕ, Bool, not, eqb, Some, List, refl, arith}
use Rattle.std.specs.Ordering.{is_lt, is_ge, is_some_and, nat_cmp}
use Rattle.std.specs.Cmp.Lexicographic.{pointwise, slice_partial_cmp}
use Rattle.std.proofs.lemmas.Cmp.{same_from_slice_cmp_tested}
use Rattle.std.proofs.lemmas.Bool.Decides.{nat_tests, same_from_decides, Decides-eqb}
use Rattle.std.proofs.lemmas.Slice.Eq.{IsBytesEq, compares_Decides, slice_eq-Decides}
use Rattle.model.specs.Tree.{less_name, same_name}

pub less-lt : (a b : List ℕ) (r : Bool) → r ≡ is_some_and is_lt (slice_partial_cmp (λ x y. Some (nat_cmp x y)) a b) → r ≡ less_name a b
unfolding less_name
less-lt a b r h = same_from_slice_cmp_tested nat_cmp is_lt less_name refl (λ _ _. refl) (λ _ _. refl) (λ x y xs ys o h. grind (arith, nat_tests)) a b r h

pub less-ge : (a b : List ℕ) (r : Bool) → r ≡ is_some_and is_ge (slice_partial_cmp (λ x y. Some (nat_cmp x y)) a b) → r ≡ not (less_name a b)
unfolding less_name
less-ge a b r h = same_from_slice_cmp_tested nat_cmp is_ge (λ x y. not (less_name x y)) refl (λ _ _. refl) (λ _ _. refl) (λ x y xs ys o h. grind (arith, nat_tests)) a b r h

compares : IsBytesEq same_name
unfolding same_name
compares = record { empty = refl; shorter = λ _ _. refl; longer = λ _ _. refl; heads = λ _ _ _ _. refl }

pub same-eq : (a b : List ℕ) (r : Bool) → r ≡ pointwise eqb a b → r ≡ same_name a b
same-eq a b r h = same_from_decides r (same_name a b) (slice_eq-Decides Decides-eqb a b r h) (compares_Decides same_name compares a b)
