-- What always holds of the memory is kept by each of its steps.
-- Assumes nothing.
use Rattle.std.proofs.Common.{◌≡◌, ℕ, zero, suc, ◌+◌, ◌-◌, ◌*◌, ◌/◌, ◌<◌, ◌≤◌, Bool, true, false, cond, not, ◌&&◌, ◌||◌, T, eqb, leb, ◌⊎◌, List, get_or, replicate, sym, refl, ap, ◌∙◌, subst, inl, inr, add-one, arith}
use mathlib.Core.Path.{fun_ext}
use lib.ListN.{get_or-replicate, length-replicate}
use Rattle.std.proofs.lemmas.List.{get_or_past}
use mir.Val.{bool_byte}
use Rattle.std.proofs.lemmas.Bool.{cases_lt, eq-eqb, ne_eqb, lt-ltb, le-ltb, cond-true, cond-false}
use Rattle.paging.specs.Layout.{one, numbers, rooms, inner, last_node, child, parent}
use Rattle.paging.specs.Memory.{Mem, at, at_place, vacant, counts, with_sel, with_dirty, with_now, with_old, with_busy, with_held, with_next, freed, taken, placed, mark, durable, settled, settled_at, settled_from, cleaned, cleaned_at, cleaned_children, cleaned_below, bare, selected, took_bit, took_bits, clipped, took_place, took_places}
use Rattle.pages.specs.Words.{place, flag, ram, mem_of, Places, Inside}
use Rattle.pages.specs.declared.flags.Flag.{Flag}
use Rattle.pages.specs.declared.flags.Flag.TheVariants.{Volatile, Busy, Held, Dirty, Slot}
use Rattle.pages.specs.declared.flags.Version.{Version}
use Rattle.pages.specs.declared.flags.Version.TheVariants.{Now, Synced}
use Rattle.pages.specs.declared.memory.Memory.{Memory}
use Rattle.pages.specs.declared.memory.Words.{Words}
use Rattle.pages.specs.Flags.{claimed, owner, with_flag, with_place}
use Rattle.pages.specs.Of.{CanSet, seen, view, Sets, Steps}
use Rattle.pages.proofs.Counts.{by-eq, count-ext, count-more, count-below, count-all, counts-right, from-bool}

-- PLACES ARE HAD, by the pages as they are or by those as synced
and_comm : (x y : Bool) → (x && y) ≡ (y && x)
and_comm true true = refl
and_comm true false = refl
and_comm false true = refl
and_comm false false = refl

pub claimed-places : (x : Version) (m : Mem) (v : ℕ) (b : Bool) → Places m → v ≤ rooms m.size → Places (claimed x v b m)
claimed-places Now m v b (ns, os, c) h = (ns, os, counts-right (rooms m.size) m.left v (vacant m.busy m.held) (vacant m.busy m.held (v - 1)) (not b && not (m.held (v - 1))) h c refl ∙ count-ext (rooms m.size) _ _ (λ p l. each p))
  where
    each : (p : ℕ) → cond (eqb (suc p) v) (not b && not (m.held (v - 1))) (vacant m.busy m.held p) ≡ vacant (at_place v b m.busy) m.held p
    each p = by-eq (suc p) v (λ t. cond t (not b && not (m.held (v - 1))) (vacant m.busy m.held p) ≡ (not (cond t b (m.busy p)) && not (m.held p))) (λ e. let q : v - 1 ≡ p = omega arith in ap (λ k. not b && not (m.held k)) q) (λ e. refl)
claimed-places Synced m v b (ns, os, c) h = (ns, os, counts-right (rooms m.size) m.left v (vacant m.busy m.held) (vacant m.busy m.held (v - 1)) (not b && not (m.busy (v - 1))) h c refl ∙ count-ext (rooms m.size) _ _ (λ p l. each p))
  where
    each : (p : ℕ) → cond (eqb (suc p) v) (not b && not (m.busy (v - 1))) (vacant m.busy m.held p) ≡ vacant m.busy (at_place v b m.held) p
    each p = by-eq (suc p) v (λ t. cond t (not b && not (m.busy (v - 1))) (vacant m.busy m.held p) ≡ (not (m.busy p) && not (cond t b (m.held p)))) (λ e. let q : v - 1 ≡ p = omega arith in ap (λ k. not b && not (m.busy k)) q ∙ and_comm (not b) (not (m.busy p))) (λ e. refl)

claimed-inside : (x : Version) (m : Mem) (v : ℕ) (b : Bool) → Inside m → Inside (claimed x v b m)
claimed-inside Now m v b i = i
claimed-inside Synced m v b i = i

-- a vacant place is one of what is left, and no more is left than there is
pub left-enough : (m : Mem) (p : ℕ) → Places m → p < rooms m.size → one (vacant m.busy m.held p) ≤ m.left
left-enough m p (ns, os, c) h = let b = count-more (rooms m.size) p (vacant m.busy m.held) h in omega arith

pub left-small : (m : Mem) → Places m → m.left ≤ rooms m.size
left-small m (ns, os, c) = let b = count-below (rooms m.size) (vacant m.busy m.held) in omega arith

-- PLACES OF A PAGE
at-le : (i v r : ℕ) (f : ℕ → ℕ) → v ≤ r → ((n : ℕ) → f n ≤ r) → (n : ℕ) → at i v f n ≤ r
at-le i v r f h k n = by-eq n i (λ t. cond t v (f n) ≤ r) (λ e. h) (λ e. k n)

pub set_places : (x : Version) (m : Mem) (n v : ℕ) → Places m → v ≤ rooms m.size → Places (with_place x n v m)
set_places Now m n v (ns, os, c) h = (at-le n v (rooms m.size) m.now h ns, os, c)
set_places Synced m n v (ns, os, c) h = (ns, at-le n v (rooms m.size) m.old h os, c)

-- WHAT IS NO PAGE OR NO NODE has nothing
at_other : {A : Type 0} (i k : ℕ) (v : A) (f : ℕ → A) → (k ≡ i → ⊥) → at i v f k ≡ f k
at_other i k v f n = rw (ne_eqb k i n)

pub sel-inside : (m : Mem) (i : ℕ) (b : Bool) → Inside m → i ≤ last_node m.size → Inside (with_sel (at i b m.sel) m)
sel-inside m i b (s, d, n) h = ((λ k. subst (λ (c : Bool). T (not c)) (sym (at_other i (last_node m.size + suc k) b m.sel (omega arith))) (s k)), d, n)

pub dirty-inside : (m : Mem) (i : ℕ) (b : Bool) → Inside m → i ≤ last_node m.size → Inside (with_dirty (at i b m.dirty) m)
dirty-inside m i b (s, d, n) h = (s, (λ k. subst (λ (c : Bool). T (not c)) (sym (at_other i (last_node m.size + suc k) b m.dirty (omega arith))) (d k)), n)

pub set_inside : (x : Version) (m : Mem) (i v : ℕ) → Inside m → i < numbers m.size → Inside (with_place x i v m)
set_inside Now m i v (s, d, n) h = (s, d, λ k. rw (at_other i (numbers m.size + k) v m.now (omega arith)) (n k))
set_inside Synced m i v g h = g

none-flag : (b : Bool) → T (not b) → b ≡ false
none-flag true h = elim h [ ]
none-flag false h = refl

beyond-flag : (f : ℕ → Bool) (l k : ℕ) → ((j : ℕ) → T (not (f (l + suc j)))) → l < k → f k ≡ false
beyond-flag f l k h o = let e : l + suc (k - (l + 1)) ≡ k = omega arith in ap f (sym e) ∙ none-flag (f (l + suc (k - (l + 1)))) (h (k - (l + 1)))

-- so no slot of what is no node is selected, and what is no page is blank
pub selected-beyond : (m : Mem) (k : ℕ) → Inside m → last_node m.size < k → selected m k ≡ false
unfolding selected
selected-beyond m zero i l = refl
selected-beyond m (suc k) (s, d, n) l = rw (beyond-flag m.dirty (last_node m.size) (suc k) d l, beyond-flag m.sel (last_node m.size) (suc k) s l)

pub durable-beyond : (m : Mem) (k : ℕ) → Inside m → numbers m.size ≤ k → durable m k ≡ 0
durable-beyond m k (s, d, n) l = go (m.vol k)
  where
    go : (b : Bool) → cond b 0 (m.now k) ≡ 0
    go true = refl
    go false = let e : numbers m.size + (k - numbers m.size) ≡ k = omega arith in let a = n (k - numbers m.size) in ap m.now (sym e) ∙ (omega arith)

-- CODE WENT FROM m TO t
pub size-by : (s : Mem) (v : Mem) → s ≡ v → s.size ≡ v.size
size-by s v e = ap (λ (x : Mem). x.size) e

pub ends_at : (m t u : Memory) (v : Mem) → u ≡ t → Steps m t v → Steps m u v
ends_at m t u v e = subst (λ (u : Memory). Steps m u v) (sym e)

-- A PLACE IS CLAIMED, or given up
at-place : (p : ℕ) (b : Bool) (f : ℕ → Bool) → at p b f ≡ at_place (suc p) b f
at-place p b f = fun_ext (λ k. by-eq k p (λ t. cond t b (f k) ≡ cond (eqb (suc k) (suc p)) b (f k)) (λ e. rw (eq-eqb (suc k) (suc p) (omega arith))) (λ e. rw (ne_eqb (suc k) (suc p) (omega arith))))

counted : (l p : ℕ) (was will : Bool) → (l + one will) - one was ≡ counts l (suc p) was will
counted l p was will = rw (ne_eqb (suc p) 0 (omega arith))

at_here : {A : Type 0} (p : ℕ) (v : A) (f : ℕ → A) → at p v f p ≡ v
at_here p v f = rw (eq-eqb p p refl)

module _ (m : Memory) (w : Words) (p x y : ℕ) (b was will : Bool) (ew : was ≡ vacant (seen m).busy (seen m).held p) (ex : x ≡ bool_byte will) (ey : y ≡ bool_byte was) where
  abbrev pub left_then : ℕ
  left_then = (m.left + x) - y

  el : left_then ≡ (m.left + one will) - one was
  el = λ j. (m.left + (ex ∙ from-bool will) j) - (ey ∙ from-bool was) j

  claimed-is : (x : Version) → Sets m.words w (with_flag (owner x) p b) → will ≡ vacant (view w 0 0).busy (view w 0 0).held p → view w left_then m.next ≡ claimed x (suc p) b (seen m)
  claimed-is Now s ez =
      let q : suc p - 1 ≡ p = omega arith in
      let d : will ≡ (not b && not ((seen m).held p)) = ez ∙ (ap (λ (x : Mem). vacant x.busy x.held p) (s.is 0 0) ∙ ap (λ (c : Bool). not c && not ((seen m).held p)) (at_here p b (seen m).busy)) in
      let e : left_then ≡ counts m.left (suc p) (vacant (seen m).busy (seen m).held (suc p - 1)) (not b && not ((seen m).held (suc p - 1))) = el ∙ (counted m.left p was will ∙ (λ j. counts m.left (suc p) ((ew ∙ ap (vacant (seen m).busy (seen m).held) (sym q)) j) ((d ∙ ap (λ (k : ℕ). not b && not ((seen m).held k)) (sym q)) j))) in
      s.is left_then m.next ∙ (λ j. with_busy (at-place p b (seen m).busy j) (e j) (seen m))
  claimed-is Synced s ez =
      let q : suc p - 1 ≡ p = omega arith in
      let d : will ≡ (not b && not ((seen m).busy p)) = ez ∙ (ap (λ (x : Mem). vacant x.busy x.held p) (s.is 0 0) ∙ (ap (λ (c : Bool). not ((seen m).busy p) && not c) (at_here p b (seen m).held) ∙ and_comm (not ((seen m).busy p)) (not b))) in
      let e : left_then ≡ counts m.left (suc p) (vacant (seen m).busy (seen m).held (suc p - 1)) (not b && not ((seen m).busy (suc p - 1))) = el ∙ (counted m.left p was will ∙ (λ j. counts m.left (suc p) ((ew ∙ ap (vacant (seen m).busy (seen m).held) (sym q)) j) ((d ∙ ap (λ (k : ℕ). not b && not ((seen m).busy k)) (sym q)) j))) in
      s.is left_then m.next ∙ (λ j. with_held (at-place p b (seen m).held j) (e j) (seen m))

  -- it is in order then
  pub claimed-good : (x : Version) (f : Flag) → f ≡ owner x → suc p ≤ rooms m.words.card.sectors → Sets m.words w (with_flag f p b) → will ≡ vacant (view w 0 0).busy (view w 0 0).held p →
      Places (view w left_then m.next) × Inside (view w left_then m.next) × (view w left_then m.next ≡ claimed x (suc p) b (seen m))
  claimed-good x f ef h s ez =
      let e = claimed-is x (subst (λ (f : Flag). Sets m.words w (with_flag f p b)) ef s) ez in
      (subst Places (sym e) (claimed-places x (seen m) (suc p) b m.places h), subst Inside (sym e) (claimed-inside x (seen m) (suc p) b m.inside), e)

-- A FIELD IS SET in the memory
pub place-good : (m : Memory) (w : Words) (x : Version) (n v : ℕ) → Sets m.words w (with_place x n v) → n < numbers m.words.card.sectors → v ≤ rooms m.words.card.sectors → Places (view w m.left m.next) × Inside (view w m.left m.next)
place-good m w x n v s l h =
    let e = s.is m.left m.next in
    (subst Places (sym e) (set_places x (seen m) n v m.places h), subst Inside (sym e) (set_inside x (seen m) n v m.inside l))

pub flag-within : (m : Memory) (f : Flag) (i : ℕ) → CanSet f m i → i < numbers m.words.card.sectors
flag-within m Volatile i h = h
flag-within m Busy i h = absurd h
flag-within m Held i h = absurd h
flag-within m Dirty i h = let a = m.words.card.size.0 h.0 in omega (arith, h.1)
flag-within m Slot i h = let a = m.words.card.size.0 h.0 in omega (arith, h.1)

pub flag-good : (m : Memory) (w : Words) (f : Flag) (i : ℕ) (b : Bool) → Sets m.words w (with_flag f i b) → CanSet f m i → Places (view w m.left m.next) × Inside (view w m.left m.next)
flag-good m w Volatile i b s h = let e = s.is m.left m.next in (subst Places (sym e) m.places, subst Inside (sym e) m.inside)
flag-good m w Busy i b s h = absurd h
flag-good m w Held i b s h = absurd h
flag-good m w Dirty i b s h = let e = s.is m.left m.next in (subst Places (sym e) m.places, subst Inside (sym e) (dirty-inside (seen m) i b m.inside h.1))
flag-good m w Slot i b s h = let e = s.is m.left m.next in (subst Places (sym e) m.places, subst Inside (sym e) (sel-inside (seen m) i b m.inside h.1))

-- A PAGE IS PLACED, AND SETTLED
placed-is : (s s1 s2 s3 : Mem) (n v w k : ℕ) → w ≡ s.now n → k ≡ cond (eqb v 0 || eqb v w) s.next (v - 1) → s1 ≡ claimed Now w false s → s2 ≡ claimed Now v true s1 → s3 ≡ with_place Now n v s2 → with_next k s3 ≡ placed n v s
placed-is s s1 s2 s3 n v w k ew ek e1 e2 e3 =
    let a : s3 ≡ with_now (at n v s.now) (taken v (freed (s.now n) s)) = e3 ∙ ap (with_place Now n v) (e2 ∙ ap (claimed Now v true) (e1 ∙ ap (λ (i : ℕ). claimed Now i false s) ew)) in
    λ j. with_next ((ek ∙ ap (λ (i : ℕ). cond (eqb v 0 || eqb v i) s.next (v - 1)) ew) j) (a j)

settled_is : (s s1 s2 s3 : Mem) (n v w : ℕ) → v ≡ durable s n → w ≡ s.old n → s1 ≡ claimed Synced w false s → s2 ≡ claimed Synced v true s1 → s3 ≡ with_place Synced n v s2 → s3 ≡ settled n s
settled_is s s1 s2 s3 n v w ev ew e1 e2 e3 =
    e3 ∙ (ap (with_place Synced n v) (e2 ∙ ap (claimed Synced v true) (e1 ∙ ap (λ (i : ℕ). claimed Synced i false s) ew)) ∙ ap (λ (i : ℕ). with_old (at n i s.old) (claimed Synced i true (claimed Synced (s.old n) false s))) ev)

module _ (m m1 m2 m3 : Memory) (n v w : ℕ) where
  pub placed-step : (t : Memory) (k : ℕ) → w ≡ (seen m).now n → k ≡ cond (eqb v 0 || eqb v w) m.next (v - 1) →
      Steps m m1 (claimed Now w false (seen m)) → Steps m1 m2 (claimed Now v true (seen m1)) → Steps m2 m3 (with_place Now n v (seen m2)) → seen t ≡ with_next k (seen m3) → Steps m t (placed n v (seen m))
  placed-step t k ew ek s1 s2 s3 et =
      record { is = et ∙ placed-is (seen m) (seen m1) (seen m2) (seen m3) n v w k ew ek s1.is s2.is s3.is; size = size-by (seen t) _ et ∙ (s3.size ∙ (s2.size ∙ s1.size)) }

  pub settled-step : v ≡ durable (seen m) n → w ≡ (seen m).old n → Steps m m1 (claimed Synced w false (seen m)) → Steps m1 m2 (claimed Synced v true (seen m1)) → Steps m2 m3 (with_place Synced n v (seen m2)) → Steps m m3 (settled n (seen m))
  settled-step ev ew s1 s2 s3 = record { is = settled_is (seen m) (seen m1) (seen m2) (seen m3) n v w ev ew s1.is s2.is s3.is; size = s3.size ∙ (s2.size ∙ s1.size) }

-- NODES ARE MARKED: code has come from m to t and is at the node k
pub record Marking (m t : Memory) (node k : ℕ) : Type 0 where
  pub fuel : ℕ
  pub enough : k ≤ fuel
  pub there : k ≤ last_node m.words.card.sectors
  pub marks : mark fuel k (seen t).dirty ≡ mark node node (seen m).dirty
  pub rest : seen t ≡ with_dirty (seen t).dirty (seen m)
  pub size : t.words.card.sectors ≡ m.words.card.sectors

mark-more : (i k : ℕ) (t : ℕ → Bool) → mark (suc i) (suc k) t ≡ mark i (parent (suc k)) (at (suc k) true t)
unfolding mark
mark-more i k t = refl

mark-root : (i : ℕ) (t : ℕ → Bool) → at 0 true t ≡ mark i 0 t
unfolding mark
mark-root zero t = refl
mark-root (suc i) t = refl

pub marks-more : (m t u : Memory) (node k : ℕ) → Marking m t node k → 0 < k → Steps t u (with_flag Dirty k true (seen t)) → Marking m u node ((k - 1) / 2048)
marks-more m t u node k w o f = go w.fuel k w.enough w.there w.marks o f
  where
    go : (i k : ℕ) → k ≤ i → k ≤ last_node m.words.card.sectors → mark i k (seen t).dirty ≡ mark node node (seen m).dirty → 0 < k → Steps t u (with_dirty (at k true (seen t).dirty) (seen t)) → Marking m u node ((k - 1) / 2048)
    go zero k a b c o f = absurd (omega arith)
    go (suc i) zero a b c o f = absurd (omega arith)
    go (suc i) (suc k) a b c o f =
        let e : (seen u).dirty ≡ at (suc k) true (seen t).dirty = ap (λ (x : Mem). x.dirty) f.is in
        record {
          fuel = i;
          enough = omega arith;
          there = omega arith;
          marks = ap (mark i (parent (suc k))) e ∙ (sym (mark-more i k (seen t).dirty) ∙ c);
          rest = f.is ∙ ((λ j. with_dirty (at (suc k) true (seen t).dirty) (w.rest j)) ∙ (λ j. with_dirty (sym e j) (seen m)));
          size = f.size ∙ w.size;
        }

pub marks-all : (m t u : Memory) (node k : ℕ) → Marking m t node k → k ≡ 0 → Steps t u (with_flag Dirty 0 true (seen t)) → Steps m u (with_dirty (mark node node (seen m).dirty) (seen m))
marks-all m t u node zero w z f =
    let e : at 0 true (seen t).dirty ≡ mark node node (seen m).dirty = mark-root w.fuel (seen t).dirty ∙ w.marks in
    let d : seen u ≡ with_dirty (mark node node (seen m).dirty) (seen m) = f.is ∙ ((λ j. with_dirty (at 0 true (seen t).dirty) (w.rest j)) ∙ (λ j. with_dirty (e j) (seen m))) in
    record { is = d; size = f.size ∙ w.size }
marks-all m t u node (suc k) w z f = absurd (omega arith)

-- AFTER A SYNC
settled_from-more : (i n : ℕ) (m : Mem) → settled_from (i + 1) n m ≡ settled_at (n + i) (settled_from i n m)
unfolding settled_from
settled_from-more i n m = rw (add-one i)

pub settled_from-none : (n : ℕ) (m : Mem) → settled_from 0 n m ≡ m
unfolding settled_from
settled_from-none n m = refl

pub next-settled : (m t u : Memory) (i n : ℕ) → Steps m t (settled_from i n (seen m)) → Steps t u (settled_at (n + i) (seen t)) → Steps m u (settled_from (i + 1) n (seen m))
next-settled m t u i n a b = record { is = b.is ∙ (ap (settled_at (n + i)) a.is ∙ sym (settled_from-more i n (seen m))); size = b.size ∙ a.size }

-- THE NODES BELOW A NODE
children-more : (below : ℕ → Mem → Mem) (b k : ℕ) (m : Mem) → cleaned_children below (b + 1) k m ≡ cleaned_at below (child k b) (cleaned_children below b k m)
unfolding cleaned_children
children-more below b k m = rw (add-one b)

pub children-none : (below : ℕ → Mem → Mem) (k : ℕ) (m : Mem) → m ≡ cleaned_children below 0 k m
unfolding cleaned_children
children-none below k m = refl

-- code has come from m to t, by the first b children of the node k; the next one is marked, or not
module _ (m t : Memory) (d b k : ℕ) (a : Steps m t (cleaned_children (cleaned_below d) b k (seen m))) where
  pub child-cleaned : (u v : Memory) → (leb (child k b) (last_node t.words.card.sectors) && (seen t).dirty (child k b)) ≡ true → Steps t u (cleaned_below d (child k b) (seen t)) → Steps u v (cleaned (child k b) (seen u)) → Steps m v (cleaned_children (cleaned_below d) (b + 1) k (seen m))
  child-cleaned u v y p q =
      let c = child k b in
      let e : cleaned_at (cleaned_below d) c (seen t) ≡ cleaned c (cleaned_below d c (seen t)) = cond-true (leb c (last_node t.words.card.sectors) && (seen t).dirty c) (cleaned c (cleaned_below d c (seen t))) (seen t) y in
      record { is = q.is ∙ (ap (cleaned c) p.is ∙ (sym e ∙ (ap (cleaned_at (cleaned_below d) c) a.is ∙ sym (children-more (cleaned_below d) b k (seen m))))); size = q.size ∙ (p.size ∙ a.size) }

  pub child-left : (leb (child k b) (last_node t.words.card.sectors) && (seen t).dirty (child k b)) ≡ false → Steps m t (cleaned_children (cleaned_below d) (b + 1) k (seen m))
  child-left n =
      let c = child k b in
      let e : cleaned_at (cleaned_below d) c (seen t) ≡ seen t = cond-false (leb c (last_node t.words.card.sectors) && (seen t).dirty c) (cleaned c (cleaned_below d c (seen t))) (seen t) n in
      record { is = sym e ∙ (ap (cleaned_at (cleaned_below d) c) a.is ∙ sym (children-more (cleaned_below d) b k (seen m))); size = a.size }

below-inner : (d k : ℕ) (m : Mem) → k < inner m.size → cleaned_children (cleaned_below d) 2048 k m ≡ cleaned_below (suc d) k m
unfolding cleaned_below
below-inner d k m l = rw (lt-ltb k (inner m.size) l)

pub below_all : (m t : Memory) (d b k : ℕ) → Steps m t (cleaned_children (cleaned_below (d - 1)) b k (seen m)) → b ≡ 2048 → 0 < d → k < inner m.words.card.sectors → Steps m t (cleaned_below d k (seen m))
below_all m t d b k a e o l =
    let z : suc (d - 1) ≡ d = omega arith in
    record { is = a.is ∙ (ap (λ (b : ℕ). cleaned_children (cleaned_below (d - 1)) b k (seen m)) e ∙ (below-inner (d - 1) k (seen m) l ∙ ap (λ (d : ℕ). cleaned_below d k (seen m)) z)); size = a.size }

pub below_none : (m : Memory) (d k : ℕ) → (d ≡ 0) ⊎ (inner m.words.card.sectors ≤ k) → Steps m m (cleaned_below d k (seen m))
unfolding cleaned_below
below_none m d k o = record { is = go d o; size = refl }
  where
    go : (d : ℕ) → (d ≡ 0) ⊎ (inner m.words.card.sectors ≤ k) → seen m ≡ cleaned_below d k (seen m)
    go zero o = refl
    go (suc d) (inl e) = absurd (omega arith)
    go (suc d) (inr l) = rw (le-ltb k (inner m.words.card.sectors) l)

-- BEFORE ANYTHING WAS READ
zero-at : (n k : ℕ) → ◌≡◌ {A = ℕ} (get_or (replicate n 0) k 0) 0
zero-at n k = elim (cases_lt k n) [ inl l ↦ get_or-replicate n k 0 0 l | inr l ↦ get_or_past (replicate n 0) k 0 (rw (length-replicate {A = ℕ} n 0) l) ]

pub bare-seen : (size n : ℕ) → mem_of (ram size (replicate n 0) (rooms size) (rooms size)) ≡ bare size
bare-seen size n =
    λ j. record {
      size = size;
      sel = fun_ext (λ k. ap (flag 39) (zero-at n (2 * k + 1))) j;
      dirty = fun_ext (λ k. ap (flag 40) (zero-at n (2 * k))) j;
      now = fun_ext (λ k. ap place (zero-at n (2 * k))) j;
      old = fun_ext (λ k. ap place (zero-at n (2 * k + 1))) j;
      vol = fun_ext (λ k. ap (flag 38) (zero-at n (2 * k))) j;
      busy = fun_ext (λ k. ap (flag 39) (zero-at n (2 * k))) j;
      held = fun_ext (λ k. ap (flag 38) (zero-at n (2 * k + 1))) j;
      left = rooms size;
      next = rooms size;
    }

pub bare-good : (s : Mem) (size : ℕ) → s ≡ bare size → Places s × Inside s
bare-good s size e =
    let p : Places (bare size) = ((λ n. omega arith), (λ n. omega arith), sym (count-all (rooms size))) in
    let n : Inside (bare size) = ((λ k. tt), (λ k. tt), λ k. omega arith) in
    (subst Places (sym e) p, subst Inside (sym e) n)

-- COMING UP: the bits of a node, the places of a leaf
pub bits_none : (k : ℕ) (bs : List ℕ) (m : Mem) → m ≡ took_bits 0 k bs m
unfolding took_bits
bits_none k bs m = refl

bits-next : (b k : ℕ) (bs : List ℕ) (m : Mem) → took_bits (b + 1) k bs m ≡ took_bit k bs b (took_bits b k bs m)
unfolding took_bits
bits-next b k bs m = rw (add-one b)

pub bits-more : (m t u : Memory) (b k : ℕ) (bs : List ℕ) → Steps m t (took_bits b k bs (seen m)) → Steps t u (took_bit k bs b (seen t)) → Steps m u (took_bits (b + 1) k bs (seen m))
bits-more m t u b k bs s r = record { is = r.is ∙ (ap (took_bit k bs b) s.is ∙ sym (bits-next b k bs (seen m))); size = r.size ∙ s.size }

pub place-took : (m t u : Memory) (n v w : ℕ) → w ≡ clipped (rooms m.words.card.sectors) v → Steps m t (placed n w (seen m)) → Steps t u (settled n (seen t)) → Steps m u (settled n (placed n (clipped (rooms m.words.card.sectors) v) (seen m)))
place-took m t u n v w e s r = record { is = r.is ∙ ap (settled n) (s.is ∙ ap (λ (w : ℕ). placed n w (seen m)) e); size = r.size ∙ s.size }

pub places-none : (first : ℕ) (bs : List ℕ) (m : Mem) → m ≡ took_places 0 first bs m
unfolding took_places
places-none first bs m = refl

places-next : (j first : ℕ) (bs : List ℕ) (m : Mem) → took_places (j + 1) first bs m ≡ took_place first bs j (took_places j first bs m)
unfolding took_places
places-next j first bs m = rw (add-one j)

pub places-more : (m t u : Memory) (j first : ℕ) (bs : List ℕ) → Steps m t (took_places j first bs (seen m)) → Steps t u (took_place first bs j (seen t)) → Steps m u (took_places (j + 1) first bs (seen m))
places-more m t u j first bs s r = record { is = r.is ∙ (ap (took_place first bs j) s.is ∙ sym (places-next j first bs (seen m))); size = r.size ∙ s.size }
