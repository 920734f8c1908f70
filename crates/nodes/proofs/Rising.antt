-- Keys that rise are parted by each key.
-- Assumes nothing.
use Rattle.std.proofs.Common.{◌≡◌, ℕ, true, false, not, List, [], ◌∷◌, get_or, sym, refl, ap, ◌∙◌, inl, inr, arith}
use Rattle.std.proofs.lemmas.Bool.{cases_Bool, cases_order, both_ways, not-true, not-false, false≢true}
use Rattle.std.proofs.lemmas.Bool.Decides.{nat_tests}
use Rattle.model.specs.Tree.{less_name}
use Rattle.nodes.specs.Entries.{Entry, blank}
use Rattle.nodes.specs.Firsts.{first_from, first_after}
use Rattle.nodes.specs.Laws.{RisingParts}
use Rattle.nodes.proofs.Firsts.{first-is-first}

less-trans : (a b d : List ℕ) → less_name a b ≡ true → less_name b d ≡ true → less_name a d ≡ true
unfolding less_name
less-trans a b [] h k = absurd (false≢true k)
less-trans a [] (z ∷ zs) h k = absurd (false≢true h)
less-trans [] (y ∷ ys) (z ∷ zs) h k = refl
less-trans (x ∷ xs) (y ∷ ys) (z ∷ zs) h k = let ih = less-trans xs ys zs in grind (arith, nat_tests)

not-less-later : (a b k : List ℕ) → less_name a b ≡ true → less_name a k ≡ false → less_name b k ≡ false
not-less-later a b k h n = elim (cases_Bool (less_name b k)) [ inl t ↦ absurd (both_ways (less_name a k) n (less-trans a b k h t)) | inr t ↦ t ]

pub rising-parts : RisingParts
rising-parts k es r =
    let f = (first-is-first (λ (e : Entry). not (less_name e.key k)) es).0 in
    let g = (first-is-first (λ (e : Entry). less_name k e.key) es).0 in
    record {
      below = λ i h. not-false (less_name (get_or es i blank).key k) (f.before i h);
      from = λ i h l.
          let t = not-true (less_name (get_or es (first_from k es) blank).key k) (f.here (omega arith)) in
          elim (cases_order (first_from k es) i) [
            | inl e ↦ ap (λ (n : ℕ). less_name (get_or es n blank).key k) (sym e) ∙ t
            | inr o ↦ elim o [ inl q ↦ not-less-later (get_or es (first_from k es) blank).key (get_or es i blank).key k (r (first_from k es) i q l) t | inr q ↦ absurd (omega arith) ]
          ];
      up_to = g.before;
      after = λ i h l.
          let t = g.here (omega arith) in
          elim (cases_order (first_after k es) i) [
            | inl e ↦ ap (λ (n : ℕ). less_name k (get_or es n blank).key) (sym e) ∙ t
            | inr o ↦ elim o [ inl q ↦ less-trans k (get_or es (first_after k es) blank).key (get_or es i blank).key t (r (first_after k es) i q l) | inr q ↦ absurd (omega arith) ]
          ];
    }
