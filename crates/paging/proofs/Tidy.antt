-- What a sync leaves in memory.
-- Assumes nothing.
use Rattle.std.proofs.Common.{◌≡◌, ℕ, zero, suc, ◌+◌, ◌-◌, ◌*◌, ◌<◌, ◌≤◌, Bool, true, false, cond, not, ◌&&◌, ltb, leb, ◌⊎◌, sym, refl, ap, ◌∙◌, subst, inl, inr, arith}
use Rattle.std.proofs.lemmas.Bool.{eq-eqb, ne_eqb, cases_eq, cases_lt, ltb-true, ltb-false, leb-true, leb-false, and_parts, and_cases, both_ways}
use Rattle.paging.specs.Layout.{numbers, inner, last_node, child, parent, leaf_of}
use Rattle.paging.specs.Memory.{Mem, at, durable, settled, settled_at, settled_from, turned, cleaned, cleaned_at, cleaned_children, cleaned_below, tidied, selected}
use Rattle.paging.proofs.Logic.{by-eq}
use Rattle.paging.proofs.Inv.{Fine}
use Rattle.paging.proofs.Moves.{settled-fine}
use Rattle.paging.proofs.Marks.{Closed, none-marked}

-- t is m but for what is synced, and marked
pub record Like (m t : Mem) : Type 0 where
  pub size : t.size ≡ m.size
  pub now : t.now ≡ m.now
  pub vol : t.vol ≡ m.vol
  pub busy : t.busy ≡ m.busy

pub durable-like : {m t : Mem} → Like m t → (n : ℕ) → durable t n ≡ durable m n
durable-like l n = λ i. cond (l.vol i n) 0 (l.now i n)

like-self : (m : Mem) → Like m m
like-self m = record { size = refl; now = refl; vol = refl; busy = refl }

like-on : {m t r : Mem} → Like m t → Like t r → Like m r
like-on a b = record { size = b.size ∙ a.size; now = b.now ∙ a.now; vol = b.vol ∙ a.vol; busy = b.busy ∙ a.busy }

-- i pages from the page n on are synced
record Kept (z i n : ℕ) (m t : Mem) : Type 0 where
  like : Like m t
  sel : t.sel ≡ m.sel
  dirty : t.dirty ≡ m.dirty
  fine : Fine z t
  inside : (k : ℕ) → n ≤ k → k < n + i → k < numbers z → t.old k ≡ durable m k
  outside : (k : ℕ) → (k < n) ⊎ (n + i ≤ k) → t.old k ≡ m.old k

kept_from : (z i n : ℕ) (m : Mem) → m.size ≡ z → Fine z m → Kept z i n m (settled_from i n m)
unfolding settled_from
kept_from z zero n m e r = record { like = like-self m; sel = refl; dirty = refl; fine = r; inside = λ k a b. absurd (omega arith); outside = λ k a. refl }
kept_from z (suc i) n m e r = go (settled_from i n m) (kept_from z i n m e r)
  where
    narrow : (k : ℕ) → (k < n) ⊎ (n + suc i ≤ k) → (k < n) ⊎ (n + i ≤ k)
    narrow k (inl a) = inl a
    narrow k (inr a) = inr (omega arith)

    apart : (k : ℕ) → (k < n) ⊎ (n + suc i ≤ k) → k ≡ n + i → ⊥
    apart k (inl a) e = omega arith
    apart k (inr a) e = omega arith

    go : (t : Mem) → Kept z i n m t → Kept z (suc i) n m (settled_at (n + i) t)
    go t h = by (ltb (n + i) (numbers t.size)) refl
      where
        same : t.size ≡ z
        same = h.like.size ∙ e

        by : (b : Bool) → ltb (n + i) (numbers t.size) ≡ b → Kept z (suc i) n m (cond b (settled (n + i) t) t)
        by true w =
            let l : n + i < numbers z = rw same at (ltb-true (n + i) (numbers t.size) w) in
            record {
              like = record { size = h.like.size; now = h.like.now; vol = h.like.vol; busy = h.like.busy };
              sel = h.sel;
              dirty = h.dirty;
              fine = settled-fine z t (n + i) l h.fine;
              inside = λ k a b c. by-eq k (n + i) (λ v. cond v (durable t (n + i)) (t.old k) ≡ durable m k) (λ q. durable-like h.like (n + i) ∙ ap (durable m) (sym q)) (λ q. h.inside k a (omega arith) c);
              outside = λ k a. rw (ne_eqb k (n + i) (apart k a)) (h.outside k (narrow k a));
            }
        by false w =
            let l : numbers z ≤ n + i = rw same at (ltb-false (n + i) (numbers t.size) w) in
            record {
              like = h.like;
              sel = h.sel;
              dirty = h.dirty;
              fine = h.fine;
              inside = λ k a b c. h.inside k a (omega arith) c;
              outside = λ k a. h.outside k (narrow k a);
            }

-- the pages of a node are synced
record Noded (z k : ℕ) (m t : Mem) : Type 0 where
  like : Like m t
  sel : t.sel ≡ m.sel
  dirty : t.dirty ≡ m.dirty
  fine : Fine z t
  its : (n : ℕ) → n < numbers z → leaf_of z n ≡ k → t.old n ≡ durable m n
  others : (n : ℕ) → n < numbers z → (leaf_of z n ≡ k → ⊥) → t.old n ≡ m.old n

noded : (k : ℕ) (m : Mem) → Fine m.size m → Noded m.size k m (cond (ltb k (inner m.size)) m (settled_from 64 (64 * (k - inner m.size)) m))
noded k m r = go (ltb k (inner m.size)) refl
  where
    place : (n : ℕ) → (leaf_of m.size n ≡ k → ⊥) → inner m.size ≤ k → (n < 64 * (k - inner m.size)) ⊎ (64 * (k - inner m.size) + 64 ≤ n)
    place n c h = elim (cases_lt n (64 * (k - inner m.size))) [ inl a ↦ inl a | inr a ↦ inr (omega arith) ]

    go : (b : Bool) → ltb k (inner m.size) ≡ b → Noded m.size k m (cond b m (settled_from 64 (64 * (k - inner m.size)) m))
    go true e = record { like = like-self m; sel = refl; dirty = refl; fine = r; its = λ n l i. absurd (omega (arith, ltb-true k (inner m.size) e)); others = λ n l i. refl }
    go false e =
        let h = ltb-false k (inner m.size) e in
        let q = kept_from m.size 64 (64 * (k - inner m.size)) m refl r in
        record { like = q.like; sel = q.sel; dirty = q.dirty; fine = q.fine; its = λ n l i. q.inside n (omega arith) (omega arith) l; others = λ n l i. q.outside n (place n i h) }

-- WHILE THE MARKED NODES ARE CLEANED, t is what m has become: each node is as it was, or is cleaned.
record Unchanged (z : ℕ) (m t : Mem) (k : ℕ) : Type 0 where
  sel : t.sel k ≡ m.sel k
  dirty : t.dirty k ≡ m.dirty k
  old : (n : ℕ) → n < numbers z → leaf_of z n ≡ k → t.old n ≡ m.old n

record Cleaned (z : ℕ) (m t : Mem) (k : ℕ) : Type 0 where
  was : m.dirty k ≡ true
  sel : t.sel k ≡ not (m.sel k)
  dirty : t.dirty k ≡ false
  old : (n : ℕ) → n < numbers z → leaf_of z n ≡ k → t.old n ≡ durable m n

record Swept (z : ℕ) (m t : Mem) : Type 0 where
  like : Like m t
  fine : Fine z t
  closed : Closed (last_node z) t.dirty
  each : (k : ℕ) → 0 < k → k ≤ last_node z → Unchanged z m t k ⊎ Cleaned z m t k

-- and from t to r: nothing is marked anew, and nothing up to the node k changes
record Fewer (k : ℕ) (t r : Mem) : Type 0 where
  less : (j : ℕ) → t.dirty j ≡ false → r.dirty j ≡ false
  stays : (j : ℕ) → j ≤ k → r.dirty j ≡ t.dirty j

abbrev Childless : ℕ → Mem → ℕ → Type 0
Childless z t c = (j : ℕ) → 0 < j → j ≤ last_node z → parent j ≡ c → t.dirty j ≡ false

module _ (z : ℕ) (m : Mem) (sized : m.size ≡ z) where
  -- a node below which nothing is marked is cleaned
  turn-node : (c : ℕ) (t r : Mem) → 0 < c → c ≤ last_node z → t.dirty c ≡ true → Childless z t c → Noded z c t r → Swept z m t → Swept z m (turned c r)
  turn-node c t r o l e none d p =
      let f = like-on p.like d.like in
      record {
        like = record { size = f.size; now = f.now; vol = f.vol; busy = f.busy };
        fine = d.fine;
        closed = λ j a b. by-eq j c (λ v. cond v false (r.dirty j) ≡ true → at c false r.dirty (parent j) ≡ true) (λ q w. absurd (both_ways false refl w))
            (λ q w.
            let h : t.dirty j ≡ true = ap (λ g. g j) (sym d.dirty) ∙ w in
            rw (ne_eqb (parent j) c (λ i. both_ways (t.dirty j) (none j a b i) h)) (ap (λ g. g (parent j)) d.dirty ∙ p.closed j a b h));
        each = λ k a b. elim (cases_eq k c) [ inl q ↦ inr (subst (Cleaned z m (turned c r)) (sym q) (here (p.each c o l))) | inr q ↦ there k q (p.each k a b) ];
      }
    where
      here : Unchanged z m t c ⊎ Cleaned z m t c → Cleaned z m (turned c r) c
      here (inl h) =
          record {
            was = sym h.dirty ∙ e;
            sel = rw (eq-eqb c c refl) (ap (λ g. not (g c)) d.sel ∙ ap not h.sel);
            dirty = rw (eq-eqb c c refl);
            old = λ n i q. d.its n i q ∙ durable-like p.like n;
          }
      here (inr h) = absurd (both_ways (t.dirty c) h.dirty e)

      there : (k : ℕ) → (k ≡ c → ⊥) → Unchanged z m t k ⊎ Cleaned z m t k → Unchanged z m (turned c r) k ⊎ Cleaned z m (turned c r) k
      there k q (inl h) =
          inl (record {
            sel = rw (ne_eqb k c q) (ap (λ g. g k) d.sel ∙ h.sel);
            dirty = rw (ne_eqb k c q) (ap (λ g. g k) d.dirty ∙ h.dirty);
            old = λ n i w. d.others n i (λ v. q (sym w ∙ v)) ∙ h.old n i w;
          })
      there k q (inr h) =
          inr (record {
            was = h.was;
            sel = rw (ne_eqb k c q) (ap (λ g. g k) d.sel ∙ h.sel);
            dirty = rw (ne_eqb k c q) (ap (λ g. g k) d.dirty ∙ h.dirty);
            old = λ n i w. d.others n i (λ v. q (sym w ∙ v)) ∙ h.old n i w;
          })

  clean-node : (c : ℕ) (t : Mem) → 0 < c → c ≤ last_node z → t.dirty c ≡ true → Childless z t c → Swept z m t → Swept z m (cleaned c t) × ((j : ℕ) → (cleaned c t).dirty j ≡ at c false t.dirty j)
  clean-node c t o l e none p =
      let s : t.size ≡ z = p.like.size ∙ sized in
      let d = subst (λ z. Fine z t → Noded z c t (cond (ltb c (inner t.size)) t (settled_from 64 (64 * (c - inner t.size)) t))) s (noded c t) p.fine in
      (turn-node c t _ o l e none d p, λ j. ap (λ g. at c false g j) d.dirty)

  -- the children of a node below b have been gone through
  record Through (k b : ℕ) (t r : Mem) : Type 0 where
    swept : Swept z m r
    fewer : Fewer k t r
    done : (i : ℕ) → i < b → child k i ≤ last_node z → r.dirty (child k i) ≡ false

  record Under (k : ℕ) (t r : Mem) : Type 0 where
    swept : Swept z m r
    fewer : Fewer k t r
    done : Childless z r k

  child-ok : (below : ℕ → Mem → Mem) (k b : ℕ) (t r : Mem) → ((t : Mem) → Swept z m t → Under (child k b) t (below (child k b) t)) → Through k b t r → Through k (suc b) t (cleaned_at below (child k b) r)
  child-ok below k b t r h g = go (leb (child k b) (last_node r.size) && r.dirty (child k b)) refl
    where
      same : r.size ≡ z
      same = g.swept.like.size ∙ sized

      go : (v : Bool) → (leb (child k b) (last_node r.size) && r.dirty (child k b)) ≡ v → Through k (suc b) t (cond v (cleaned (child k b) (below (child k b) r)) r)
      go true e =
          let a = and_parts (leb (child k b) (last_node r.size)) (r.dirty (child k b)) e in
          let l : child k b ≤ last_node z = rw same at (leb-true (child k b) (last_node r.size) a.0) in
          let u = h r g.swept in
          let (s, w) = clean-node (child k b) (below (child k b) r) (omega arith) l (u.fewer.stays (child k b) (omega arith) ∙ a.1) u.done u.swept in
          let off : (j : ℕ) → r.dirty j ≡ false → (cleaned (child k b) (below (child k b) r)).dirty j ≡ false =
          λ j q. w j ∙ by-eq j (child k b) (λ v. cond v false ((below (child k b) r).dirty j) ≡ false) (λ _. refl) (λ _. u.fewer.less j q) in
          record {
            swept = s;
            fewer = record {
              less = λ j q. off j (g.fewer.less j q);
              stays = λ j q. w j ∙ (rw (ne_eqb j (child k b) (omega arith)) (u.fewer.stays j (omega arith) ∙ g.fewer.stays j q));
            };
            done = λ i q n. elim (cases_eq i b) [ inl v ↦ w (child k i) ∙ rw (eq-eqb (child k i) (child k b) (ap (child k) v)) | inr v ↦ off (child k i) (g.done i (omega arith) n) ];
          }
      go false e =
          record {
            swept = g.swept;
            fewer = g.fewer;
            done = λ i q n. elim (cases_eq i b) [ inl v ↦ last i v n (and_cases (leb (child k b) (last_node r.size)) (r.dirty (child k b)) e) | inr v ↦ g.done i (omega arith) n ];
          }
        where
          last : (i : ℕ) → i ≡ b → child k i ≤ last_node z → (leb (child k b) (last_node r.size) ≡ false) ⊎ (r.dirty (child k b) ≡ false) → r.dirty (child k i) ≡ false
          last i v n (inl q) = absurd (let w : last_node z < child k b = rw same at (leb-false (child k b) (last_node r.size) q) in omega arith)
          last i v n (inr q) = ap (λ i. r.dirty (child k i)) v ∙ q

  children-ok : (below : ℕ → Mem → Mem) (k b : ℕ) (t : Mem) → ((i : ℕ) (t : Mem) → Swept z m t → Under (child k i) t (below (child k i) t)) → Swept z m t → Through k b t (cleaned_children below b k t)
  unfolding cleaned_children
  children-ok below k zero t h p = record { swept = p; fewer = record { less = λ j q. q; stays = λ j q. refl }; done = λ i q. absurd (omega arith) }
  children-ok below k (suc b) t h p = child-ok below k b t (cleaned_children below b k t) (h b) (children-ok below k b t h p)

  -- the first node d + 1 levels below a node
  abbrev low : ℕ → ℕ → ℕ
  low zero k = 2048 * k + 1
  low (suc d) k = low d (2048 * k + 1)

  low-more : (d a b : ℕ) → a ≤ b → low d a ≤ low d b
  low-more zero a b h = omega arith
  low-more (suc d) a b h = low-more d (2048 * a + 1) (2048 * b + 1) (omega arith)

  below-ok : (d k : ℕ) (t : Mem) → last_node z < low d k → Swept z m t → Under k t (cleaned_below d k t)
  unfolding cleaned_below
  below-ok zero k t h p = record { swept = p; fewer = record { less = λ j q. q; stays = λ j q. refl }; done = λ j a b c. absurd (omega arith) }
  below-ok (suc d) k t h p = go (ltb k (inner t.size)) refl (children-ok (cleaned_below d) k 2048 t (λ i r q. below-ok d (child k i) r (deep i) q) p)
    where
      deep : (i : ℕ) → last_node z < low d (child k i)
      deep i = let a = low-more d (2048 * k + 1) (child k i) (omega arith) in omega arith

      go : (b : Bool) → ltb k (inner t.size) ≡ b → Through k 2048 t (cleaned_children (cleaned_below d) 2048 k t) → Under k t (cond b (cleaned_children (cleaned_below d) 2048 k t) t)
      go true e g =
          record {
            swept = g.swept;
            fewer = g.fewer;
            done = λ j a b c.
                let i : child k (j - (2048 * k + 1)) ≡ j = omega arith in
                ap (cleaned_children (cleaned_below d) 2048 k t).dirty (sym i) ∙ g.done (j - (2048 * k + 1)) (omega arith) (omega arith);
          }
      go false e g =
          let s : t.size ≡ z = p.like.size ∙ sized in
          let l : inner z ≤ k = rw s at (ltb-false k (inner t.size) e) in
          record { swept = p; fewer = record { less = λ j q. q; stays = λ j q. refl }; done = λ j a b c. absurd (omega arith) }

pub record Tidied (z : ℕ) (m t : Mem) : Type 0 where
  pub like : Like m t
  pub fine : Fine z t
  pub sel : (k : ℕ) → 0 < k → k ≤ last_node z → t.sel k ≡ selected m k
  pub dirty : (k : ℕ) → k ≤ last_node z → t.dirty k ≡ false
  pub old : (n : ℕ) → n < numbers z → t.old n ≡ durable m n

pub selected-is : (m : Mem) (k : ℕ) → 0 < k → selected m k ≡ cond (m.dirty k) (not (m.sel k)) (m.sel k)
unfolding selected
selected-is m zero o = absurd (omega arith)
selected-is m (suc k) o = refl

pub tidied-is : (m : Mem) → m.size ≤ 1099511627776 → Fine m.size m → Closed (last_node m.size) m.dirty → ((n : ℕ) → n < numbers m.size → m.dirty (leaf_of m.size n) ≡ false → durable m n ≡ m.old n) → Tidied m.size m (tidied m)
tidied-is m small r closed clean = ends (cleaned_below 3 0 m) (below-ok m.size m refl 3 0 m (omega arith) (record { like = like-self m; fine = r; closed = closed; each = λ k a b. inl (record { sel = refl; dirty = refl; old = λ n l i. refl }) }))
  where
    ends : (t : Mem) → Under m.size m refl 0 m t → Tidied m.size m (record { size = t.size; sel = t.sel; dirty = at 0 false t.dirty; now = t.now; old = t.old; vol = t.vol; busy = t.busy; held = t.held; left = t.left; next = t.next })
    ends t u =
        let p = u.swept in
        record {
          like = record { size = p.like.size; now = p.like.now; vol = p.like.vol; busy = p.like.busy };
          fine = p.fine;
          sel = λ k a b. rw (selected-is m k a) (sels k (p.each k a b) (off k a b));
          dirty = none;
          old = λ n l. olds n l (p.each (leaf_of m.size n) (omega arith) (omega arith)) (off (leaf_of m.size n) (omega arith) (omega arith));
        }
      where
        none : (k : ℕ) → k ≤ last_node m.size → at 0 false t.dirty k ≡ false
        none =
            none-marked (last_node m.size) (at 0 false t.dirty)
            (λ j a b. by-eq j 0 (λ v. cond v false (t.dirty j) ≡ true → at 0 false t.dirty (parent j) ≡ true) (λ q. absurd (omega arith))
            (λ q w. by-eq (parent j) 0 (λ v. cond v false (t.dirty (parent j)) ≡ true) (λ i. absurd (both_ways (t.dirty j) (u.done j a b i) w)) (λ i. u.swept.closed j a b w))) refl

        off : (k : ℕ) → 0 < k → k ≤ last_node m.size → t.dirty k ≡ false
        off k a b = rw (ne_eqb k 0 (omega arith)) at (none k b)

        sels : (k : ℕ) → Unchanged m.size m t k ⊎ Cleaned m.size m t k → t.dirty k ≡ false → t.sel k ≡ cond (m.dirty k) (not (m.sel k)) (m.sel k)
        sels k (inl h) e = rw (sym h.dirty ∙ e) h.sel
        sels k (inr h) e = rw h.was h.sel

        olds : (n : ℕ) → n < numbers m.size → Unchanged m.size m t (leaf_of m.size n) ⊎ Cleaned m.size m t (leaf_of m.size n) → t.dirty (leaf_of m.size n) ≡ false → t.old n ≡ durable m n
        olds n l (inl h) e = h.old n l refl ∙ sym (clean n l (sym h.dirty ∙ e))
        olds n l (inr h) e = h.old n l refl
