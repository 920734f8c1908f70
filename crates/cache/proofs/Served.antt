-- The calls of the cache, by what the code has found.
-- Assumes nothing.
use Rattle.std.proofs.Common.{◌≡◌, ℕ, ◌+◌, ◌%◌, ◌<◌, true, false, ◌&&◌, eqb, List, length, Some, None, Option, sym, refl, ap, ◌∙◌, subst}
use Rattle.std.proofs.lemmas.Bool.{and_from, lt-ltb}
use Rattle.std.specs.Option.{unwrap_or}
use Rattle.device.specs.Sectors.{all_bytes}
use Rattle.device.specs.Flow.{lt, eq, is, on, out, Runs}
use Rattle.device.proofs.Loops.{taken, left}
use Rattle.paging.specs.Pages.{PageCall, Get, Spare, Told}
use Rattle.pages.specs.Of.{page_told}
use Rattle.caching.specs.declared.Tag.TheVariants.{Clean}
use Rattle.caching.specs.Frames.{Cache, count, filled, find, is_marked}
use Rattle.caching.specs.Cache.{can_put, evict, get, spare_turn}

pub can : (n : ℕ) (b : List ℕ) (m : Cache) → n < m.numbers → (eqb (length b) 4096 && all_bytes b) ≡ true → can_put n b m ≡ true
can n b m l e = and_from _ _ (lt-ltb n m.numbers l) e

-- the two ways through a `given`
some_same : {B : Type 0} {x y : B} → ◌≡◌ {A = Option B} (Some x) (Some y) → x ≡ y
some_same e = cc

module _ {B : Type 0} {o : Option B} {P : B → Type 0} {Q : Type 0} where
  pub with_some : (x : B) → o ≡ Some x → P x → ((y : B) → o ≡ Some y → P y) × (o ≡ None → Q)
  with_some x e p = (λ y f. subst P (some_same (sym e ∙ f)) p, λ f. absurd (let z : ◌≡◌ {A = Option B} (Some x) None = sym e ∙ f in cc))

  pub with_none : o ≡ None → Q → ((y : B) → o ≡ Some y → P y) × (o ≡ None → Q)
  with_none e q = (λ y f. absurd (let z : ◌≡◌ {A = Option B} None (Some y) = sym e ∙ f in cc), λ f. q)

-- a page is read into the frame at the hand
pub get-read : {S : Type 0} (goes : S → (c : PageCall) → Told c → S → Type 0) (n : ℕ) (m : Cache) (d : S) → n < m.numbers → find m n ≡ None → (i : ℕ) (u v : Cache) (b : List ℕ) (t x : S) → (count m ≡ 0 → ⊥) → Runs goes (evict m) d t u → i ≡ m.hand → goes t (Get n) b x → v ≡ filled i (Clean n) b u → Runs goes (get n m) d x (b, v)
get-read goes n m d l e i u v b t x c r h q f =
    taken (lt _ _) l (with_none e (left (eq _ _) c (u, t, r, (b, x, q, (refl, λ j. (b, (ap (λ (i : ℕ). filled i (Clean n) b u) (sym h) ∙ sym f) j))))))

-- SPARE: what is told, as the code goes on with it
pub told_as : (o : Option ℕ) (n : ℕ) → n ≡ unwrap_or o 0 → page_told o ≡ n
told_as (Some k) n e = sym e
told_as None n e = sym e

module _ {S : Type 0} (goes : S → (c : PageCall) → Told c → S → Type 0) (m : Cache) (i at n : ℕ) (d t : S) (q : goes d (Spare at) n t) where
  pub spare-on : is_marked m n ≡ true → Runs goes (spare_turn m i at) d t (on ((n + 1) % 18446744073709551616))
  spare-on e = (n, t, q, taken (is _) e (refl, refl))

  pub spare-out : (u : Cache) → is_marked m n ≡ false → m ≡ u → Runs goes (spare_turn m i at) d t (out (n, u))
  spare-out u e f = (n, t, q, left (is _) e (refl, λ j. out (n, f j)))
