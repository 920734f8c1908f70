-- What is looked for in the memory.
-- Assumes nothing.
use Rattle.std.proofs.Common.{◌≡◌, ℕ, zero, suc, ◌+◌, ◌-◌, ◌<◌, ◌≤◌, min, Bool, true, false, cond, not, eqb, List, [], ◌∷◌, length, Some, Option, sym, refl, ap, ◌∙◌, subst, arith}
use Rattle.std.specs.List.{find, range_with_len}
use Rattle.std.specs.Range.{range_steps_back}
use Rattle.std.specs.Iterator.Adapters.{rev_source, rev_steps}
use Rattle.std.specs.declared.iter.Rev.{Rev}
use Rattle.std.specs.declared.ops.Range.{Range}
use Rattle.std.proofs.lemmas.Bool.{cond-true, cond-false}
use Rattle.std.proofs.lemmas.Iterator.{YieldsList}
use Rattle.std.proofs.lemmas.Iterator.Consumers.{YieldsList-from_shown}
use Rattle.paging.specs.Layout.{rooms}
use Rattle.paging.specs.Memory.{Mem, vacant, find_down, free, target, find_blank, selected}
use Rattle.pages.specs.Flags.{as_place}
use Rattle.pages.specs.Of.{page_told}

-- THE LAST ONE below a number
unfoldable pub downs : ℕ → ℕ → List ℕ
downs a zero = []
downs a (suc n) = (a + n) ∷ downs a n

abbrev back : Range ℕ → Option ℕ → Range ℕ → Type 0
back = range_steps_back (λ x y. y - x) (λ x y. y ≡ x + 1)

-- what a range yields from its end
pub yields_down : {s : Rev (Range ℕ)} (n : ℕ) → rev_source s ≡ record { start = 0; end = n } → YieldsList (rev_steps back) (λ x. x) s (downs 0 n)
unfolding downs
yields_down {s} n e =
    let z : n - 0 ≡ n = omega arith in
    subst (λ (k : ℕ). YieldsList (rev_steps back) (λ x. x) s (downs 0 k)) z
    (subst (λ (u : Range ℕ). YieldsList (rev_steps back) (λ x. x) s (downs u.start (u.end - u.start))) e
    (YieldsList-from_shown (rev_steps back) (λ x. x) (λ u. downs (rev_source u).start ((rev_source u).end - (rev_source u).start)) (λ u t p. none (rev_source u).start _ p.1.0)
    (λ u x t p. some (rev_source u).start (rev_source u).end (rev_source t).start (rev_source t).end x p.0 p.1.0 p.1.1 p.1.2) s))
  where
    none : (a k : ℕ) → k ≡ 0 → length (downs a k) ≡ 0
    none a k e = ap (λ (k : ℕ). length (downs a k)) e

    some : (a b c d x : ℕ) → c ≡ a → 0 < b - a → x ≡ d → b ≡ d + 1 → downs a (b - a) ≡ x ∷ downs c (d - c)
    some a b c d x ec o ex eb =
        let e : b - a ≡ suc (d - a) = omega arith in
        let f : a + (d - a) ≡ x = omega arith in
        ap (downs a) e ∙ (λ j. f j ∷ downs (sym ec j) (d - sym ec j))

pub found-down : (t : ℕ → Bool) (n : ℕ) → as_place (find t (downs 0 n)) ≡ find_down n t
unfolding downs find_down
found-down t zero = refl
found-down t (suc n) = let z : 0 + n ≡ n = omega arith in ap (λ (k : ℕ). as_place (cond (t k) (Some k) (find t (downs 0 n)))) z ∙ go (t n) (found-down t n)
  where
    go : (b : Bool) → as_place (find t (downs 0 n)) ≡ find_down n t → as_place (cond b (Some n) (find t (downs 0 n))) ≡ cond b (suc n) (find_down n t)
    go true h = refl
    go false h = h

found-le : (n : ℕ) (t : ℕ → Bool) → find_down n t ≤ n
unfolding find_down
found-le zero t = omega arith
found-le (suc n) t = go (t n) (found-le n t)
  where
    go : (b : Bool) → find_down n t ≤ n → cond b (suc n) (find_down n t) ≤ suc n
    go true h = omega arith
    go false h = omega arith

free-le : (m : Mem) → free m ≤ rooms m.size
free-le m = go (eqb m.left 0) (eqb (find_down (min m.next (rooms m.size)) (vacant m.busy m.held)) 0)
  where
    go : (b d : Bool) → cond b 0 (cond d (find_down (rooms m.size) (vacant m.busy m.held)) (find_down (min m.next (rooms m.size)) (vacant m.busy m.held))) ≤ rooms m.size
    go true d = omega arith
    go false true = found-le (rooms m.size) (vacant m.busy m.held)
    go false false = let a = found-le (min m.next (rooms m.size)) (vacant m.busy m.held) in omega arith

-- WHERE A PAGE IS TO BE WRITTEN
pub target-own : (m : Mem) (p : ℕ) → m.held p ≡ false → suc p ≡ target m (suc p)
unfolding target
target-own m p e = sym (cond-false (m.held p) (free m) (suc p) e)

pub target-held : (m : Mem) (p : ℕ) → m.held p ≡ true → free m ≡ target m (suc p)
unfolding target
target-held m p e = sym (cond-true (m.held p) (free m) (suc p) e)

pub target-none : (m : Mem) → free m ≡ target m 0
unfolding target
target-none m = refl

pub target-le : (m : Mem) (v : ℕ) → v ≤ rooms m.size → target m v ≤ rooms m.size
unfolding target
target-le m zero h = free-le m
target-le m (suc p) h = go (m.held p)
  where
    go : (b : Bool) → cond b (free m) (suc p) ≤ rooms m.size
    go true = free-le m
    go false = h

-- A BLANK PAGE
pub found-blank : (m : Mem) (k a : ℕ) → page_told (find (λ n. eqb (m.now n) 0) (range_with_len a k)) ≡ find_blank m k a
unfolding find_blank
found-blank m zero a = refl
found-blank m (suc k) a = let z : a + 1 ≡ suc a = omega arith in go (eqb (m.now a) 0) (found-blank m k (a + 1) ∙ ap (find_blank m k) z)
  where
    rest : Option ℕ
    rest = find (λ n. eqb (m.now n) 0) (range_with_len (a + 1) k)

    go : (b : Bool) → page_told rest ≡ find_blank m k (suc a) → page_told (cond b (Some a) rest) ≡ cond b a (find_blank m k (suc a))
    go true h = refl
    go false h = h

-- THE SLOT OF A NODE after a sync
pub selected-root : (m : Mem) (k : ℕ) → k ≡ 0 → false ≡ selected m k
unfolding selected
selected-root m zero e = refl
selected-root m (suc k) e = absurd (omega arith)

pub selected-other : (m : Mem) (k : ℕ) → 0 < k → cond (m.dirty k) (not (m.sel k)) (m.sel k) ≡ selected m k
unfolding selected
selected-other m zero o = absurd (omega arith)
selected-other m (suc k) o = refl
