-- Where a page may be written, when there is no room, and the pass over pages with two places.
-- Assumes nothing.
use Rattle.std.proofs.Common.{◌≡◌, ℕ, zero, suc, ◌+◌, ◌-◌, ◌<◌, ◌≤◌, Bool, true, false, cond, not, ◌&&◌, eqb, ◌⊎◌, List, sym, refl, ap, ◌∙◌, subst, inl, inr, arith}
use Rattle.std.proofs.lemmas.Bool.{eqb-true, eqb-false, ne_eqb, cases_eq, and_parts, and_cases, not-true, not-false, both_ways}
use Rattle.device.specs.Sectors.{Device, shown}
use Rattle.device.specs.Program.{Io}
use Rattle.device.specs.Plays.{io_of}
use Rattle.paging.specs.Layout.{one, numbers, home, rooms}
use Rattle.paging.specs.Pages.{blank_page, same_bytes}
use Rattle.paging.specs.Memory.{Mem, vacant, at, moved, free, target, twice}
use Rattle.paging.specs.Store.{reclaim_turn, reclaim}
use Rattle.paging.specs.Judge.{set_at, used}
use Rattle.paging.proofs.Coding.{same_self, same_not}
use Rattle.paging.proofs.Logic.{by-eq, sectors, shown-quiet, Whole, Wp, wp-cond, wp-then, wp-turns, wp-same_pages}
use Rattle.paging.proofs.Count.{count, one-true, used-at, kept-all, count_most}
use Rattle.paging.proofs.Inv.{page_at, page-ext, Uses, Up}
use Rattle.paging.proofs.Moves.{free-some, Goes, up-moved, moved-fine}

-- where a page may be written: on the card, where the synced map has nothing, nor any other page as it is
pub record Fit (m : Mem) (n q : ℕ) : Type 0 where
  pub roomy : home m.size q + 8 ≤ m.size
  pub not_old : (k : ℕ) → k < numbers m.size → m.old k ≡ suc q → ⊥
  pub not_now : (k : ℕ) → k < numbers m.size → (k ≡ n → ⊥) → m.now k ≡ suc q → ⊥

weigh : (x y : Bool) → one (not x && not x) ≤ one (not x && not y) + one y
unfolding one
weigh true true = omega arith
weigh true false = omega arith
weigh false true = omega arith
weigh false false = omega arith

-- two places, two contents: the pages before y
abbrev pub Differ : (z : ℕ) (m : Mem) (y : ℕ) (F G : ℕ → List ℕ) → Type 0
Differ z m y F G = (n p : ℕ) → n < y → n < numbers z → m.old n ≡ suc p → (m.now n ≡ suc p → ⊥) → same_bytes (G n) (F n) ≡ false

module _ (m : Mem) {d : Device} {F : ℕ → List ℕ} {V : ℕ → Bool} {G : ℕ → List ℕ} {label : List ℕ} (u : Up m.size m d F V G label) where
  free-fit : (n q : ℕ) → free m ≡ suc q → Fit m n q
  free-fit n q e =
      let a = free-some m q e in
      let b = and_parts (not (m.busy q)) (not (m.held q)) a.1 in
      record {
        roomy = omega arith;
        not_old = λ k l i. both_ways (m.held q) (not-true (m.held q) b.1) (u.ready.old_marks.marked k q l i);
        not_now = λ k l o i. both_ways (m.busy q) (not-true (m.busy q) b.0) (u.ready.now_marks.marked k q l i);
      }

  pub target-fit : (n v q : ℕ) → n < numbers m.size → m.now n ≡ v → target m v ≡ suc q → Fit m n q
  unfolding target
  target-fit n zero q l w e = free-fit n q e
  target-fit n (suc p) q l w e = go (m.held p) refl e
    where
      go : (b : Bool) → m.held p ≡ b → cond b (free m) (suc p) ≡ suc q → Fit m n q
      go true i j = free-fit n q j
      go false i j =
          let y : m.now n ≡ suc q = w ∙ j in
          let r : p ≡ q = omega arith in
          record {
            roomy = u.ready.now_sane.within n q l y;
            not_old = λ k h o. both_ways (m.held q) (rw r at i) (u.ready.old_marks.marked k q h o);
            not_now = λ k h o i. o (u.ready.now_sane.apart k n q h l i y);
          }

  -- where nothing is left, and pages with two places have two contents, all places are wanted for contents
  pub crowded : (n : ℕ) (b : List ℕ) → n < numbers m.size → m.left ≡ 0 → ((p : ℕ) → m.now n ≡ suc p → m.held p ≡ true) → same_bytes b blank_page ≡ false → Differ m.size m (numbers m.size) F G →
      rooms m.size < used (numbers m.size) (set_at n b F) G + one (same_bytes (G n) b)
  crowded n b l none at_old nb differ =
      let a : rooms m.size ≤ count (rooms m.size) (vacant m.busy m.held) + used (numbers m.size) (set_at n blank_page F) G =
      kept-all (rooms m.size) (numbers m.size) (vacant m.busy m.held) (at n 0 m.now) m.old (set_at n blank_page F) G
      (λ p i. cover p (m.busy p) (m.held p) refl refl)
      (λ k h. by-eq k n (λ t. (cond t 0 (m.now k) ≡ 0 → ⊥) → same_bytes (cond t blank_page (F k)) blank_page ≡ false) (λ _ i. absurd (i refl)) (λ _ i. u.now_full k (m.now k - 1) h (omega arith)))
      (λ k h o. let w : m.old k ≡ suc (m.old k - 1) = omega arith in
      by-eq k n (λ t. (m.old k ≡ cond t 0 (m.now k) → ⊥) → (same_bytes (G k) blank_page ≡ false) × (same_bytes (G k) (cond t blank_page (F k)) ≡ false))
      (λ e c. (u.old_full k (m.old k - 1) h w, u.old_full k (m.old k - 1) h w)) (λ e c. (u.old_full k (m.old k - 1) h w, differ k (m.old k - 1) h h w (λ i. c (w ∙ sym i))))) in
      let c = u.ready.counted in
      let e = used-at (numbers m.size) n F G b blank_page l in
      let f = weigh (same_bytes (G n) blank_page) (same_bytes (G n) b) in
      let g = one-true (not (same_bytes b blank_page)) (ap not nb) in
      let h : one (not (same_bytes blank_page blank_page)) ≡ 0 = rw (same_self blank_page) (unfold one in refl) in
      omega arith
    where
      -- a place as it is: another page's, or a synced one
      mine : (p : ℕ) → (k : ℕ) × (k < numbers m.size) × (m.now k ≡ suc p) → ((k : ℕ) × (k < numbers m.size) × (at n 0 m.now k ≡ suc p)) ⊎ ((k : ℕ) × (k < numbers m.size) × (m.old k ≡ suc p))
      mine p (k, h, e) =
          elim (cases_eq k n) [
            | inl i ↦ inr (u.ready.old_marks.marks p (at_old p (rw i at e)))
            | inr i ↦ inl (k, h, rw (ne_eqb k n i) e)
          ]

      cover : (p : ℕ) (a b : Bool) → m.busy p ≡ a → m.held p ≡ b → (vacant m.busy m.held p ≡ true) ⊎ (((k : ℕ) × (k < numbers m.size) × (at n 0 m.now k ≡ suc p)) ⊎ ((k : ℕ) × (k < numbers m.size) × (m.old k ≡ suc p)))
      cover p true b i j = inr (mine p (u.ready.now_marks.marks p i))
      cover p false true i j = inr (inr (u.ready.old_marks.marks p j))
      cover p false false i j = inl (rw (i, j))

  -- what the page's place shows, and what the synced one does
  pub now-page : (n p : ℕ) → n < numbers m.size → m.now n ≡ suc p → sectors 8 (home m.size p) (shown d) ≡ F n
  unfolding page_at
  now-page n p l e = sym (ap (page_at m.size (shown d)) e) ∙ u.shows n l

  pub now-blank : (n : ℕ) → n < numbers m.size → m.now n ≡ 0 → F n ≡ blank_page
  unfolding page_at
  now-blank n l e = sym (u.shows n l) ∙ ap (page_at m.size (shown d)) e

  pub old-shows : (n : ℕ) → n < numbers m.size → page_at m.size (shown d) (m.old n) ≡ G n
  old-shows n l = page-ext m.size d.kept (shown d) (m.old n) (λ q i t g h. shown-quiet d t (u.safe.quiet t (Uses.paged n q l i g h))) ∙ u.safe.holds.rests.paging n l

  pub old-page : (n p : ℕ) → n < numbers m.size → m.old n ≡ suc p → sectors 8 (home m.size p) (shown d) ≡ G n
  unfolding page_at
  old-page n p l e = sym (ap (page_at m.size (shown d)) e) ∙ old-shows n l

-- so far the pass has come
pub record Reclaimed (z l : ℕ) (d : Device) (F : ℕ → List ℕ) (V : ℕ → Bool) (G : ℕ → List ℕ) (label : List ℕ) (i : ℕ) (t : Mem) (e : Device) : Type 0 where
  pub same : d ≡ e
  pub sized : t.size ≡ z
  pub up : Up t.size t d F V G label
  pub differ : Differ t.size t i F G
  pub more : l ≤ t.left

module _ {Q : Device → Type 0} (l : ℕ) (d : Device) (whole : Whole d) (q : Q d) (F : ℕ → List ℕ) (V : ℕ → Bool) (G : ℕ → List ℕ) (label : List ℕ) where
  turn-ok : (n : ℕ) (m : Mem) → n < numbers m.size → Up m.size m d F V G label → Differ m.size m n F G → l ≤ m.left → Wp m.size Q (Reclaimed m.size l d F V G label (suc n)) (io_of (reclaim_turn n m)) d
  unfolding io_of
  turn-ok n m h u w g =
      wp-cond (twice m n)
      (λ y.
      let a = and_parts (not (eqb (m.now n) 0)) _ y in
      let b = and_parts (not (eqb (m.old n) 0)) _ a.1 in
      let v : m.now n ≡ suc (m.now n - 1) = omega (arith, eqb-false (m.now n) 0 (not-true _ a.0)) in
      let o : m.old n ≡ suc (m.old n - 1) = omega (arith, eqb-false (m.old n) 0 (not-true _ b.0)) in
      wp-then _
      (λ r e c. subst (λ e. Wp m.size Q (Reclaimed m.size l d F V G label (suc n)) (cond r (Io.answer (moved n (m.old n) (m.vol n) m)) (Io.answer m)) e) c.0
      (wp-cond r
      (λ s. Wp.ends q (back o (sym (old-page m u n _ h o) ∙ (sym (c.1 s) ∙ now-page m u n _ h v))))
      (λ s. Wp.ends q (done (λ p i k. same_not (G n) (F n) (λ z. c.2 s (now-page m u n _ h v ∙ (sym z ∙ sym (old-page m u n _ h o)))))))))
      (wp-same_pages (home m.size (m.now n - 1)) (home m.size (m.old n - 1)) d (u.ready.now_sane.within n (m.now n - 1) h v) (u.ready.old_sane.within n (m.old n - 1) h o) whole q))
      (λ y. Wp.ends q (done (λ p i c. lone p i c (and_cases _ _ y))))
    where
      -- nothing is changed
      done : ((p : ℕ) → m.old n ≡ suc p → (m.now n ≡ suc p → ⊥) → same_bytes (G n) (F n) ≡ false) → Reclaimed m.size l d F V G label (suc n) m d
      done k =
          record {
            same = refl;
            sized = refl;
            up = u;
            differ = λ j p a b o c. elim (cases_eq j n) [ inl i ↦ rw i (k p (rw i at o) (λ r. c (ap m.now i ∙ r))) | inr i ↦ w j p (omega arith) b o c ];
            more = g;
          }

      lone : (p : ℕ) → m.old n ≡ suc p → (m.now n ≡ suc p → ⊥) → (not (eqb (m.now n) 0) ≡ false) ⊎ ((not (eqb (m.old n) 0) && not (eqb (m.now n) (m.old n))) ≡ false) → same_bytes (G n) (F n) ≡ false
      lone p o c (inl i) = rw (now-blank m u n h (eqb-true (m.now n) 0 (not-false _ i))) (u.old_full n p h o)
      lone p o c (inr i) = absurd (go (and_cases _ _ i))
        where
          go : (not (eqb (m.old n) 0) ≡ false) ⊎ (not (eqb (m.now n) (m.old n)) ≡ false) → ⊥
          go (inl i) = omega (arith, eqb-true (m.old n) 0 (not-false _ i))
          go (inr i) = c (eqb-true (m.now n) (m.old n) (not-false _ i) ∙ o)

      -- the page goes back to where it was synced
      back : m.old n ≡ suc (m.old n - 1) → G n ≡ F n → Reclaimed m.size l d F V G label (suc n) (moved n (m.old n) (m.vol n) m) d
      back o r =
          record {
            same = refl;
            sized = refl;
            up = up-moved m u n (m.old n) (m.vol n) (F n) h goes (λ z. absurd (omega arith)) d F V u.safe (old-shows m u n h ∙ r) (λ j a b. refl) refl (λ j a. refl) (sym (u.vols n h)) (λ j a. refl);
            differ = λ j p a b c. by-eq j n (λ t. (cond t (m.old n) (m.now j) ≡ suc p → ⊥) → same_bytes (G j) (F j) ≡ false) (λ i v. absurd (v (ap m.old (sym i) ∙ c))) (λ i v. w j p (omega arith) b c v);
            more = more;
          }
        where
          goes : Goes m n (m.old n) (F n)
          goes =
              record {
                on-card = λ p i. u.ready.old_sane.within n p h i;
                alone = λ p i j hj c a. c (u.ready.joint j n p hj h a i);
                its = λ p j i hj a. u.ready.old_sane.apart n j p h hj i a;
                full = λ p i. rw (← r) (u.old_full n p h i);
              }

          more : l ≤ (moved n (m.old n) (m.vol n) m).left
          more =
              let a = u.ready.counted in
              let c = (moved-fine m u n (m.old n) (m.vol n) (F n) h goes).counted in
              let e = count_most (rooms m.size) 0 (vacant m.busy m.held) (vacant (moved n (m.old n) (m.vol n) m).busy m.held) (λ p k _ i.
              let y = and_parts (not (m.busy p)) (not (m.held p)) i in
              by-eq (suc p) (m.old n) (λ t. (not (cond t true (cond (eqb (suc p) (m.now n)) false (m.busy p))) && not (m.held p)) ≡ true)
              (λ j. absurd (both_ways (m.held p) (not-true _ y.1) (u.ready.old_marks.marked n p h (sym j))))
              (λ j. by-eq (suc p) (m.now n) (λ t. (not (cond t false (m.busy p)) && not (m.held p)) ≡ true) (λ j. y.1) (λ j. i))) in
              let o : one (not (eqb 0 0)) ≡ 0 = unfold one in refl in
              omega arith

  pub reclaim-ok : (m : Mem) → Up m.size m d F V G label → l ≤ m.left → Wp m.size Q (Reclaimed m.size l d F V G label (numbers m.size)) (io_of (reclaim m)) d
  reclaim-ok m u g =
      wp-turns reclaim_turn (Reclaimed m.size l d F V G label) (λ i t e r. subst Q r.same q) (numbers m.size)
      (λ i t e h r. subst (λ e. Wp m.size Q (Reclaimed m.size l d F V G label (suc i)) (io_of (reclaim_turn i t)) e) r.same
      (subst (λ z. i < numbers z → Wp z Q (Reclaimed z l d F V G label (suc i)) (io_of (reclaim_turn i t)) d) r.sized (λ h. turn-ok i t h r.up r.differ r.more) h))
      m d (record { same = refl; sized = refl; up = u; differ = λ n p a. absurd (omega arith); more = g })
