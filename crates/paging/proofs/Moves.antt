-- A page comes to be at a place; a page is synced; free places.
-- Assumes nothing.
use Rattle.std.proofs.Common.{◌≡◌, ℕ, zero, suc, ◌+◌, ◌-◌, ◌<◌, ◌≤◌, min, Bool, true, false, cond, not, ◌&&◌, eqb, List, sym, refl, ap, ◌∙◌, arith}
use Rattle.std.proofs.lemmas.Bool.{eqb-true, eqb-false, ne_eqb, and_parts}
use Rattle.device.specs.Sectors.{Device, shown}
use Rattle.paging.specs.Layout.{one, numbers, last_node, leaf_of, home, rooms}
use Rattle.paging.specs.Pages.{blank_page, same_bytes}
use Rattle.paging.specs.Memory.{Mem, at_place, vacant, counts, placed, moved, durable, settled, find_down, free, target}
use Rattle.paging.proofs.Logic.{by-eq}
use Rattle.paging.proofs.Count.{count, count-ext, counts-right, count_none, count_most, find-some, find_none}
use Rattle.paging.proofs.Inv.{page_at, Sane, Safe, Fine, Up, set-sane, set-marks}
use Rattle.paging.proofs.Marks.{mark-closed, unmarked}

-- the count of vacant places over a change of a flag
pub flag-busy : (r : ℕ) (busy held : ℕ → Bool) (v : ℕ) (b : Bool) (left : ℕ) → v ≤ r → left ≡ count r (vacant busy held) → counts left v (vacant busy held (v - 1)) (not b && not (held (v - 1))) ≡ count r (vacant (at_place v b busy) held)
flag-busy r busy held v b left h e =
    counts-right r left v (vacant busy held) _ (not b && not (held (v - 1))) h e refl ∙
    count-ext r _ (vacant (at_place v b busy) held) (λ p l. by-eq (suc p) v (λ t. cond t (not b && not (held (v - 1))) (vacant busy held p) ≡ (not (cond t b (busy p)) && not (held p))) (λ i. let q : v - 1 ≡ p = omega arith in rw q) (λ i. refl))

pub flag-held : (r : ℕ) (busy held : ℕ → Bool) (v : ℕ) (b will : Bool) (left : ℕ) → v ≤ r → left ≡ count r (vacant busy held) → will ≡ (not (busy (v - 1)) && not b) → counts left v (vacant busy held (v - 1)) will ≡ count r (vacant busy (at_place v b held))
flag-held r busy held v b will left h e w =
    counts-right r left v (vacant busy held) _ will h e refl ∙
    count-ext r _ (vacant busy (at_place v b held)) (λ p l. by-eq (suc p) v (λ t. cond t will (vacant busy held p) ≡ (not (busy p) && not (cond t b (held p)))) (λ i. let q : v - 1 ≡ p = omega arith in w ∙ ap (λ k. not (busy k) && not b) q) (λ i. refl))

pub and-true : (b : Bool) → b ≡ (b && true)
and-true true = refl
and-true false = refl

pub and_none : (b : Bool) → false ≡ (b && false)
and_none true = refl
and_none false = refl

-- a place on the card is one of the rooms
pub fits : (z : ℕ) (m : ℕ → ℕ) (n : ℕ) → Sane z m → n < numbers z → m n ≤ rooms z
fits z m n s l = go (m n) refl
  where
    go : (v : ℕ) → m n ≡ v → v ≤ rooms z
    go zero e = omega arith
    go (suc p) e = omega (arith, s.within n p l e)

below : (z v : ℕ) → ((p : ℕ) → v ≡ suc p → home z p + 8 ≤ z) → v ≤ rooms z
below z zero h = omega arith
below z (suc p) h = omega (arith, h p refl)

pub placed-fine : (z : ℕ) (m : Mem) (n v : ℕ) → n < numbers z → ((p : ℕ) → v ≡ suc p → home z p + 8 ≤ z) → ((p : ℕ) → v ≡ suc p → (k : ℕ) → k < numbers z → (k ≡ n → ⊥) → m.now k ≡ suc p → ⊥) →
    ((p k : ℕ) → v ≡ suc p → k < numbers z → m.old k ≡ suc p → n ≡ k) → Fine z m → Fine z (placed n v m)
placed-fine z m n v l on alone its r =
    record {
      now_sane = set-sane z m.now n v l alone on r.now_sane;
      old_sane = r.old_sane;
      now_marks = set-marks z m.now n v l alone m.busy r.now_sane r.now_marks;
      old_marks = r.old_marks;
      joint = λ k j p hk hj. by-eq k n (λ t. cond t v (m.now k) ≡ suc p → m.old j ≡ suc p → k ≡ j) (λ e u w. e ∙ its p j u hj w) (λ e u w. r.joint k j p hk hj u w);
      counted = flag-busy (rooms z) (at_place (m.now n) false m.busy) m.held v true _ (below z v on)
          (flag-busy (rooms z) m.busy m.held (m.now n) false m.left (fits z m.now n r.now_sane l) r.counted);
    }

-- what is durable is there
pub durable-is : (m : Mem) (n p : ℕ) → durable m n ≡ suc p → (m.now n ≡ suc p) × (m.vol n ≡ false)
durable-is m n p = go (m.vol n)
  where
    go : (b : Bool) → cond b 0 (m.now n) ≡ suc p → (m.now n ≡ suc p) × (b ≡ false)
    go true e = absurd (omega arith)
    go false e = (e, refl)

pub settled-fine : (z : ℕ) (m : Mem) (n : ℕ) → n < numbers z → Fine z m → Fine z (settled n m)
settled-fine z m n l r =
    record {
      now_sane = r.now_sane;
      old_sane = set-sane z m.old n (durable m n) l alone on r.old_sane;
      now_marks = r.now_marks;
      old_marks = set-marks z m.old n (durable m n) l alone m.held r.old_sane r.old_marks;
      joint = λ k j p hk hj u. by-eq j n (λ t. cond t (durable m n) (m.old j) ≡ suc p → k ≡ j) (λ e w. r.now_sane.apart k j p hk hj u (ap m.now e ∙ (durable-is m n p w).0)) (λ e w. r.joint k j p hk hj u w);
      counted = flag-held (rooms z) m.busy (at_place (m.old n) false m.held) (durable m n) true false _ (below z (durable m n) on)
          (flag-held (rooms z) m.busy m.held (m.old n) false _ m.left (fits z m.old n r.old_sane l) r.counted (and-true (not (m.busy (m.old n - 1))))) (and_none _);
    }
  where
    on : (p : ℕ) → durable m n ≡ suc p → home z p + 8 ≤ z
    on p e = r.now_sane.within n p l (durable-is m n p e).0

    alone : (p : ℕ) → durable m n ≡ suc p → (k : ℕ) → k < numbers z → (k ≡ n → ⊥) → m.old k ≡ suc p → ⊥
    alone p e k hk c w = c (sym (r.joint n k p l hk (durable-is m n p e).0 w))

-- FREE PLACES
pub free-some : (m : Mem) (q : ℕ) → free m ≡ suc q → (q < rooms m.size) × (vacant m.busy m.held q ≡ true)
free-some m q e = go (eqb m.left 0) (eqb (find_down (min m.next (rooms m.size)) (vacant m.busy m.held)) 0) e
  where
    go : (b c : Bool) → cond b 0 (cond c (find_down (rooms m.size) (vacant m.busy m.held)) (find_down (min m.next (rooms m.size)) (vacant m.busy m.held))) ≡ suc q → (q < rooms m.size) × (vacant m.busy m.held q ≡ true)
    go true c i = absurd (omega arith)
    go false true i = find-some (rooms m.size) (vacant m.busy m.held) q i
    go false false i = let a = find-some (min m.next (rooms m.size)) (vacant m.busy m.held) q i in (omega arith, a.1)

pub free-none : (m : Mem) → m.left ≡ count (rooms m.size) (vacant m.busy m.held) → free m ≡ 0 → m.left ≡ 0
free-none m r e = go (eqb m.left 0) (eqb (find_down (min m.next (rooms m.size)) (vacant m.busy m.held)) 0) refl refl e
  where
    go : (b c : Bool) → eqb m.left 0 ≡ b → eqb (find_down (min m.next (rooms m.size)) (vacant m.busy m.held)) 0 ≡ c →
        cond b 0 (cond c (find_down (rooms m.size) (vacant m.busy m.held)) (find_down (min m.next (rooms m.size)) (vacant m.busy m.held))) ≡ 0 → m.left ≡ 0
    go true c i k j = eqb-true m.left 0 i
    go false true i k j = r ∙ count_none (rooms m.size) (vacant m.busy m.held) (find_none (rooms m.size) (vacant m.busy m.held) j)
    go false false i k j = absurd (eqb-false _ 0 k j)

-- where no place is given, the page is nowhere, or where it was synced, and nothing is left
pub target_none : (m : Mem) (v : ℕ) → target m v ≡ 0 → (free m ≡ 0) × ((p : ℕ) → v ≡ suc p → m.held p ≡ true)
unfolding target
target_none m zero e = (e, λ p i. absurd (omega arith))
target_none m (suc p) e = go (m.held p) refl e
  where
    go : (b : Bool) → m.held p ≡ b → cond b (free m) (suc p) ≡ 0 → (free m ≡ 0) × ((q : ℕ) → suc p ≡ suc q → m.held q ≡ true)
    go true i j = (j, λ q w. let a : p ≡ q = omega arith in rw (← a) i)
    go false i j = absurd (omega arith)

-- WHERE A PAGE MAY GO
pub record Goes (m : Mem) (n v : ℕ) (b : List ℕ) : Type 0 where
  pub on-card : (p : ℕ) → v ≡ suc p → home m.size p + 8 ≤ m.size
  pub alone : (p : ℕ) → v ≡ suc p → (k : ℕ) → k < numbers m.size → (k ≡ n → ⊥) → m.now k ≡ suc p → ⊥
  pub its : (p k : ℕ) → v ≡ suc p → k < numbers m.size → m.old k ≡ suc p → n ≡ k
  pub full : (p : ℕ) → v ≡ suc p → same_bytes b blank_page ≡ false

module _ (m : Mem) {d : Device} {F : ℕ → List ℕ} {V : ℕ → Bool} {E : ℕ → List ℕ} {label : List ℕ} (u : Up m.size m d F V E label) (n v : ℕ) (w : Bool) (b : List ℕ) (l : n < numbers m.size) (g : Goes m n v b) where
  pub moved-fine : Fine m.size (moved n v w m)
  moved-fine = placed-fine m.size m n v l g.on-card g.alone g.its u.ready

  -- what is on the card may change elsewhere
  pub up-moved : (v ≡ 0 → w ≡ false) → (e : Device) (G : ℕ → List ℕ) (W : ℕ → Bool) → Safe m.size m.sel m.old E label e → page_at m.size (shown e) v ≡ b →
      ((k : ℕ) → k < numbers m.size → (k ≡ n → ⊥) → page_at m.size (shown e) (m.now k) ≡ page_at m.size (shown d) (m.now k)) →
      G n ≡ b → ((k : ℕ) → (k ≡ n → ⊥) → G k ≡ F k) → W n ≡ w → ((k : ℕ) → (k ≡ n → ⊥) → W k ≡ V k) → Up m.size (moved n v w m) e G W E label
  up-moved bl e G W s i o gn ge wn we =
      record {
        sized = refl;
        big = u.big;
        small = u.small;
        ready = moved-fine;
        now_full = λ k p h. by-eq k n (λ t. cond t v (m.now k) ≡ suc p → same_bytes (G k) blank_page ≡ false) (λ c q. rw (ap G c ∙ gn) (g.full p q)) (λ c q. rw (ge k c) (u.now_full k p h q));
        old_full = u.old_full;
        vols = λ k h. by-eq k n (λ t. cond t w (m.vol k) ≡ W k) (λ c. sym (ap W c ∙ wn)) (λ c. u.vols k h ∙ sym (we k c));
        blanks = λ k h. by-eq k n (λ t. cond t v (m.now k) ≡ 0 → cond t w (m.vol k) ≡ false) (λ c q. bl q) (λ c q. u.blanks k h q);
        closed = mark-closed (last_node m.size) (leaf_of m.size n) (leaf_of m.size n) m.dirty (omega arith) u.closed;
        clean = λ k h q.
            let y = unmarked (leaf_of m.size n) (leaf_of m.size n) (leaf_of m.size k) m.dirty q in
            by-eq k n (λ t. cond (cond t w (m.vol k)) 0 (cond t v (m.now k)) ≡ m.old k) (λ c. absurd (y.0 (ap (leaf_of m.size) c))) (λ c. u.clean k h y.1);
        safe = s;
        shows = λ k h. by-eq k n (λ t. page_at m.size (shown e) (cond t v (m.now k)) ≡ G k) (λ c. i ∙ sym (ap G c ∙ gn)) (λ c. o k h c ∙ (u.shows k h ∙ sym (ge k c)));
      }

  -- it takes one of what is left at most, and none if it goes nowhere
  pub left-moved : m.left ≤ (moved n v w m).left + one (not (eqb v 0))
  left-moved =
      let a = u.ready.counted in
      let c = moved-fine.counted in
      let h = count_most (rooms m.size) v (vacant m.busy m.held) (vacant (moved n v w m).busy m.held) (λ p k o q.
      let y = and_parts (not (m.busy p)) (not (m.held p)) q in
      by-eq (suc p) v (λ t. (not (cond t true (cond (eqb (suc p) (m.now n)) false (m.busy p))) && not (m.held p)) ≡ true) (λ i. absurd (o (sym i)))
      (λ i. by-eq (suc p) (m.now n) (λ t. (not (cond t false (m.busy p)) && not (m.held p)) ≡ true) (λ j. y.1) (λ j. q))) in
      omega arith

  -- and none if it stays
  pub left-stays : v ≡ m.now n → (moved n v w m).left ≡ m.left
  left-stays e =
      let a = u.ready.counted in
      let c = moved-fine.counted in
      let h = count-ext (rooms m.size) (vacant (moved n v w m).busy m.held) (vacant m.busy m.held) (λ p k.
      by-eq (suc p) v (λ t. (not (cond t true (cond (eqb (suc p) (m.now n)) false (m.busy p))) && not (m.held p)) ≡ vacant m.busy m.held p)
      (λ i. let y : m.busy p ≡ true = u.ready.now_marks.marked n p l (sym e ∙ sym i) in rw y)
      (λ i. rw (ne_eqb (suc p) (m.now n) (λ j. i (j ∙ sym e))))) in
      omega arith
