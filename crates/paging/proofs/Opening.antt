-- Coming up.
-- Assumes nothing.
use Rattle.std.proofs.Common.{◌≡◌, ℕ, zero, suc, ◌+◌, ◌-◌, ◌*◌, ◌%◌, ◌<◌, ◌≤◌, min, Bool, true, false, cond, not, ◌&&◌, ltb, leb, List, sym, refl, ap, ◌∙◌, subst, inl, inr, arith}
use Rattle.std.proofs.lemmas.Bool.{cases_lt, ne_eqb, eq-eqb, both_ways, false≢true, ltb-true, ltb-false, leb-true, leb-false, le-leb}
use Rattle.device.specs.Sectors.{Device, shown, AfterCut}
use Rattle.device.specs.Plays.{io_of}
use Rattle.paging.specs.Layout.{numbers, inner, last_node, child, leaf_of, slot, rooms}
use Rattle.paging.specs.Sectors.{place_at, bit_at, label_at, root_known}
use Rattle.paging.specs.Memory.{Mem, at, bare, vacant, durable, settled, placed, clipped, with_sel, took_bit, took_bits, took_place, took_places, took}
use Rattle.paging.specs.Store.{node_turn, open_flow}
use Rattle.paging.specs.Judge.{State, Down}
use Rattle.paging.proofs.Coding.{one-le}
use Rattle.paging.proofs.Logic.{by-eq, kept-quiet, shown-quiet, Wp, wp-cond, wp-map, wp-turns}
use Rattle.paging.proofs.Count.{count-ext, count-all}
use Rattle.paging.proofs.Inv.{page_at, page-ext, Sane, Marks, Off, Fine, Runs, frame, ext-safe, Rested, resting, downs}
use Rattle.paging.proofs.Moves.{placed-fine, settled-fine, fits}

-- the bits of the nodes below w have been read, and the places of the pages below y
record Reading (z : ℕ) (S : ℕ → Bool) (M : ℕ → ℕ) (w y : ℕ) (m : Mem) : Type 0 where
  sized : m.size ≡ z
  fine : Fine z m
  dirty : (k : ℕ) → m.dirty k ≡ false
  vol : (n : ℕ) → m.vol n ≡ false
  sels : (j : ℕ) → 0 < j → j < w → j ≤ last_node z → m.sel j ≡ S j
  done : (n : ℕ) → n < numbers z → n < y → m.now n ≡ M n
  undone : (n : ℕ) → n < numbers z → y ≤ n → m.now n ≡ 0
  same : (n : ℕ) → n < numbers z → m.old n ≡ m.now n

module _ (z : ℕ) (S : ℕ → Bool) (M : ℕ → ℕ) (sane : Sane z M) where
  bit_ok : (b k y : ℕ) (bs : List ℕ) (m : Mem) → Reading z S M (child k b) y m → (child k b ≤ last_node z → bit_at bs b ≡ S (child k b)) → Reading z S M (child k (suc b)) y (took_bit k bs b m)
  bit_ok b k y bs m r h = step (leb (child k b) (last_node m.size)) refl
    where
      step : (v : Bool) → leb (child k b) (last_node m.size) ≡ v → Reading z S M (child k (suc b)) y (cond v (with_sel (at (child k b) (bit_at bs b) m.sel) m) m)
      step true e =
          let l : child k b ≤ last_node z = rw r.sized at (leb-true (child k b) (last_node m.size) e) in
          record {
            sized = r.sized;
            fine = r.fine;
            dirty = r.dirty;
            vol = r.vol;
            sels = λ j o i n. by-eq j (child k b) (λ t. cond t (bit_at bs b) (m.sel j) ≡ S j) (λ q. h l ∙ ap S (sym q)) (λ q. r.sels j o (omega arith) n);
            done = r.done;
            undone = r.undone;
            same = r.same;
          }
      step false e =
          let l : last_node z < child k b = rw r.sized at (leb-false (child k b) (last_node m.size) e) in
          record { sized = r.sized; fine = r.fine; dirty = r.dirty; vol = r.vol; sels = λ j o i n. r.sels j o (omega arith) n; done = r.done; undone = r.undone; same = r.same }

  bits-ok : (b k y : ℕ) (bs : List ℕ) (m : Mem) → Reading z S M (child k 0) y m → ((i : ℕ) → i < b → child k i ≤ last_node z → bit_at bs i ≡ S (child k i)) → Reading z S M (child k b) y (took_bits b k bs m)
  unfolding took_bits
  bits-ok zero k y bs m r h = r
  bits-ok (suc b) k y bs m r h = bit_ok b k y bs _ (bits-ok b k y bs m r (λ i l. h i (omega arith))) (h b (omega arith))

  place_ok : (n w : ℕ) (v : ℕ) (m : Mem) → Reading z S M w n m → (n < numbers z → v ≡ M n) → Reading z S M w (suc n) (cond (ltb n (numbers m.size)) (settled n (placed n (clipped (rooms m.size) v) m)) m)
  place_ok n w v m r h = step (ltb n (numbers m.size)) refl
    where
      other : (p k : ℕ) → M n ≡ suc p → n < numbers z → k < numbers z → m.now k ≡ suc p → k ≡ n
      other p k c l hk d = elim (cases_lt k n) [ inl a ↦ sane.apart k n p hk l (sym (r.done k hk a) ∙ d) c | inr a ↦ absurd (omega (arith, r.undone k hk a)) ]

      step : (b : Bool) → ltb n (numbers m.size) ≡ b → Reading z S M w (suc n) (cond b (settled n (placed n (clipped (rooms m.size) v) m)) m)
      step true e =
          let l : n < numbers z = rw r.sized at (ltb-true n (numbers m.size) e) in
          let q : clipped (rooms m.size) v ≡ M n = rw (r.sized, h l, le-leb (M n) (rooms z) (fits z M n sane l)) in
          record {
            sized = r.sized;
            fine = settled-fine z (placed n (clipped (rooms m.size) v) m) n l (placed-fine z m n (clipped (rooms m.size) v) l (λ p c. sane.within n p l (sym q ∙ c)) (λ p c k hk o d. o (other p k (sym q ∙ c) l hk d)) (λ p k c hk d. sym (other p k (sym q ∙ c) l hk (sym (r.same k hk) ∙ d))) r.fine);
            dirty = r.dirty;
            vol = r.vol;
            sels = r.sels;
            done = λ k hk a. by-eq k n (λ t. cond t (clipped (rooms m.size) v) (m.now k) ≡ M k) (λ c. q ∙ ap M (sym c)) (λ c. r.done k hk (omega arith));
            undone = λ k hk a. rw (ne_eqb k n (omega arith)) (r.undone k hk (omega arith));
            same = λ k hk. by-eq k n (λ t. cond t (durable (placed n (clipped (rooms m.size) v) m) n) (m.old k) ≡ cond t (clipped (rooms m.size) v) (m.now k)) (λ c. rw (r.vol n, eq-eqb n n refl)) (λ c. r.same k hk);
          }
      step false e =
          let l : numbers z ≤ n = rw r.sized at (ltb-false n (numbers m.size) e) in
          record { sized = r.sized; fine = r.fine; dirty = r.dirty; vol = r.vol; sels = r.sels; done = λ k hk a. r.done k hk (omega arith); undone = λ k hk a. r.undone k hk (omega arith); same = r.same }

  places-ok : (j n w : ℕ) (bs : List ℕ) (m : Mem) → Reading z S M w n m → ((i : ℕ) → i < j → n + i < numbers z → place_at bs i ≡ M (n + i)) → Reading z S M w (n + j) (took_places j n bs m)
  unfolding took_places
  places-ok zero n w bs m r h = let e : n ≡ n + 0 = omega arith in subst (λ y. Reading z S M w y m) e r
  places-ok (suc j) n w bs m r h =
      let e : suc (n + j) ≡ n + suc j = omega arith in
      subst (λ y. Reading z S M w y (took_place n bs j (took_places j n bs m))) e (place_ok (n + j) w (place_at bs j) _ (places-ok j n w bs m r (λ i l. h i (omega arith))) (h j (omega arith)))

abbrev W : ℕ → ℕ → ℕ
W z k = 2048 * min k (inner z) + 1

abbrev Y : ℕ → ℕ → ℕ
Y z k = 64 * (k - inner z)

-- what a cut while it comes up leaves
abbrev pub Waits : ℕ → State → Device → Type 0
Waits z s d = (g : Device) → AfterCut d g → (v : State) × Down z s v × Rested z g v

pub off-cut : (z : ℕ) (d : Device) (s : State) → Rested z d s → Waits z s d
off-cut z d s r g a =
    let o = r.off in
    let n : Off z g s.synced s.label = record { still = a.nothing; sel = o.sel; m = o.m; taken = o.taken; sane = o.sane; full = o.full; marks = o.marks; holds = frame (λ t _. kept-quiet t a (o.still t)) o.holds } in
    (_, downs s n, resting n)

marks-same : (z : ℕ) (m k : ℕ → ℕ) (t s : ℕ → Bool) → Marks z m t → Marks z k s → ((n : ℕ) → n < numbers z → m n ≡ k n) → (p : ℕ) → t p ≡ s p
marks-same z m k t s a b h p = go (t p) (s p) refl refl
  where
    go : (u v : Bool) → t p ≡ u → s p ≡ v → u ≡ v
    go true true e f = refl
    go false false e f = refl
    go true false e f = let (n, l, i) = a.marks p e in absurd (both_ways (s p) f (b.marked n p l (sym (h n l) ∙ i)))
    go false true e f = let (n, l, i) = b.marks p f in absurd (both_ways (t p) e (a.marked n p l (h n l ∙ i)))

and_same : (b : Bool) → (b && b) ≡ b
and_same true = refl
and_same false = refl

module _ (z : ℕ) (d : Device) (s : State) (big : 8192 ≤ z) (small : z ≤ 1099511627776) (r : Rested z d s) where
  abbrev o : Off z d s.synced s.label
  o = r.off

  abbrev Now : ℕ → Mem → Type 0
  Now k m = Reading z o.sel o.m (W z k) (Y z k) m

  -- a node's sector, as it counts, is read
  node_ok : (k : ℕ) (m : Mem) (bs : List ℕ) → k ≤ last_node z → (k < inner z → (i : ℕ) → i < 2048 → child k i ≤ last_node z → bit_at bs i ≡ o.sel (child k i)) → (inner z ≤ k → (i : ℕ) → i < 64 → Y z k + i < numbers z → place_at bs i ≡ o.m (Y z k + i)) →
      Now k m → Now (suc k) (took k bs m)
  node_ok k m bs l bits places q =
      subst (λ v. Now (suc k) (cond (ltb k (inner v)) (took_bits 2048 k bs m) (took_places 64 (64 * (k - inner v)) bs m))) (sym q.sized) (go (ltb k (inner z)) refl)
    where
      go : (b : Bool) → ltb k (inner z) ≡ b → Now (suc k) (cond b (took_bits 2048 k bs m) (took_places 64 (64 * (k - inner z)) bs m))
      go true e =
          let h = ltb-true k (inner z) e in
          let a : W z k ≡ child k 0 = omega arith in
          let b : child k 2048 ≡ W z (suc k) = omega arith in
          let c : Y z k ≡ Y z (suc k) = omega arith in
          subst (λ y. Reading z o.sel o.m (W z (suc k)) y (took_bits 2048 k bs m)) c
          (subst (λ w. Reading z o.sel o.m w (Y z k) (took_bits 2048 k bs m)) b
          (bits-ok z o.sel o.m o.sane 2048 k (Y z k) bs m (subst (λ w. Reading z o.sel o.m w (Y z k) m) a q) (bits h)))
      go false e =
          let h = ltb-false k (inner z) e in
          let a : W z k ≡ W z (suc k) = omega arith in
          let b : Y z k + 64 ≡ Y z (suc k) = omega arith in
          subst (λ w. Reading z o.sel o.m w (Y z (suc k)) (took_places 64 (64 * (k - inner z)) bs m)) a
          (subst (λ y. Reading z o.sel o.m (W z k) y (took_places 64 (64 * (k - inner z)) bs m)) b
          (places-ok z o.sel o.m o.sane 64 (Y z k) (W z k) bs m q (places h)))

  shows_kept : (k : ℕ) (b : Bool) → shown d (slot k b) ≡ d.kept (slot k b)
  shows_kept k b = shown-quiet d _ (o.still _)

  next-ok : (k : ℕ) (m : Mem) → 0 < k → k ≤ last_node z → Now k m → Now (suc k) (took k (shown d (slot k (m.sel k))) m)
  next-ok k m c l q =
      let f : m.sel k ≡ o.sel k = q.sels k c (omega arith) l in
      let g : shown d (slot k (m.sel k)) ≡ d.kept (slot k (o.sel k)) = shows_kept k (m.sel k) ∙ ap (λ t. d.kept (slot k t)) f in
      node_ok k m _ l
      (λ h i u v. ap (λ t. bit_at t i) g ∙ o.holds.rests.bitting k c i u v)
      (λ h i u v.
      let e : leaf_of z (Y z k + i) ≡ k = omega arith in
      let j : (Y z k + i) % 64 ≡ i = omega arith in
      ap (λ t. place_at t i) (g ∙ ap (λ t. d.kept (slot t (o.sel t))) (sym e)) ∙ (ap (place_at (d.kept (slot (leaf_of z (Y z k + i)) (o.sel (leaf_of z (Y z k + i)))))) (sym j) ∙ o.holds.rests.mapping (Y z k + i) v)) q

  -- all has been read
  rises : (m : Mem) (label : List ℕ) → label ≡ s.label → Now (last_node z + 1) m → Runs z (record { known = true; label = label; mem = m }) d s
  rises m label lb q =
      record {
        known = refl;
        label = lb;
        left = q.fine.counted ∙ (count-ext (rooms z) (vacant m.busy m.held) (λ p. not (o.taken p)) (λ p l. rw (marks-same z m.now o.m m.busy o.taken q.fine.now_marks o.marks is p, marks-same z m.old o.m m.held o.taken q.fine.old_marks o.marks was p) (and_same (not (o.taken p)))) ∙ sym r.lefts);
        up = record {
          sized = q.sized;
          big = big;
          small = small;
          ready = q.fine;
          now_full = λ n p l e. rw (r.nows n) (o.full n p l (sym (is n l) ∙ e));
          old_full = λ n p l e. o.full n p l (sym (was n l) ∙ e);
          vols = λ n l. q.vol n ∙ sym (r.steady n);
          blanks = λ n l e. q.vol n;
          closed = λ k c l e. absurd (both_ways (m.dirty k) (q.dirty k) e);
          clean = λ n l e. rw (q.vol n) (sym (q.same n l));
          safe = ext-safe (λ k c l. q.sels k c (omega arith) l) was (λ n l. refl) (record { quiet = λ t _. o.still t; holds = o.holds });
          shows = λ n l. page-ext z d.kept (shown d) _ (λ p e t a b. shown-quiet d t (o.still t)) ∙ (ap (page_at z d.kept) (is n l) ∙ (o.holds.rests.paging n l ∙ sym (r.nows n)));
        };
      }
    where
      is : (n : ℕ) → n < numbers z → m.now n ≡ o.m n
      is n l = q.done n l (omega arith)

      was : (n : ℕ) → n < numbers z → m.old n ≡ o.m n
      was n l = q.same n l ∙ is n l

  none_yet : Now 0 (bare z)
  none_yet =
      record {
        sized = refl;
        fine = record {
          now_sane = record { apart = λ n k p a b c e. absurd (omega arith); within = λ n p a c. absurd (omega arith) };
          old_sane = record { apart = λ n k p a b c e. absurd (omega arith); within = λ n p a c. absurd (omega arith) };
          now_marks = record { marked = λ n p l e. absurd (omega arith); marks = λ p e. absurd (false≢true e) };
          old_marks = record { marked = λ n p l e. absurd (omega arith); marks = λ p e. absurd (false≢true e) };
          joint = λ n k p a b c e. absurd (omega arith);
          counted = sym (count-all (rooms z));
        };
        dirty = λ k. refl;
        vol = λ n. refl;
        sels = λ j a b c. absurd (omega arith);
        done = λ n l a. absurd (omega arith);
        undone = λ n l a. refl;
        same = λ n l. refl;
      }

  root-read : Now 1 (took 0 (shown d 0) (bare z))
  root-read = node_ok 0 (bare z) (shown d 0) (omega arith) (λ h i u v. ap (λ t. bit_at t i) (shown-quiet d 0 (o.still 0)) ∙ o.holds.rooting i u v) (λ h. absurd (omega arith)) none_yet

  pub opens-ok : Wp z (Waits z s) (λ x e. Runs z x.0 e s) (io_of (open_flow z)) d
  unfolding io_of
  opens-ok =
      Wp.reads (off-cut z d s r) (omega arith)
      (wp-cond (root_known (shown d 0))
      (λ k. wp-map (λ m. (record { known = true; label = label_at (shown d 0); mem = m }, last_node z + 1)) (λ e q. q)
      (λ m e (j, q). subst (λ e. Runs z (record { known = true; label = label_at (shown d 0); mem = m }) e s) j (rises m _ (ap label_at (shown-quiet d 0 (o.still 0)) ∙ o.holds.labelled) q))
      (wp-turns node_turn (λ i m e. (d ≡ e) × Now (i + 1) m) (λ i m e j. subst (Waits z s) j.0 (off-cut z d s r)) (last_node z)
      (λ i m e l j. subst (λ e. Wp z (Waits z s) (λ m e. (d ≡ e) × Now (suc i + 1) m) (io_of (node_turn i m)) e) j.0
      (Wp.reads (off-cut z d s r) (omega (arith, one-le (m.sel (i + 1))))
      (Wp.ends (off-cut z d s r) (refl, subst (λ k. Now k (took (i + 1) (shown d (slot (i + 1) (m.sel (i + 1)))) m)) (let h : suc (i + 1) ≡ suc i + 1 = omega arith in h) (next-ok (i + 1) m (omega arith) (omega arith) j.1)))))
      _ d (refl, root-read)))
      (λ k. absurd (both_ways (root_known (shown d 0)) k (ap root_known (shown-quiet d 0 (o.still 0)) ∙ o.holds.known))))
