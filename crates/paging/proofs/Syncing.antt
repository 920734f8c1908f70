-- A sync.
-- Assumes nothing.
use Rattle.std.proofs.Common.{◌≡◌, ℕ, zero, suc, ◌+◌, ◌-◌, ◌*◌, ◌%◌, ◌^◌, ◌<◌, ◌≤◌, Bool, true, false, cond, not, ◌&&◌, ◌||◌, T, eqb, ltb, leb, ◌⊎◌, List, [], ◌∷◌, length, sym, refl, ap, ◌∙◌, subst, inl, inr, arith}
use mathlib.Core.List.Memᴰ
use mathlib.Core.List.{Memᴰ}
use Rattle.std.proofs.lemmas.Bool.{eqb-true, eqb-false, cases_eq, cases_Bool, both_ways, false≢true, lt-ltb, le-ltb, ltb-false, leb-true, leb-false, and_parts, and_cases, or_cases, or_parts, not-true, not-false}
use Rattle.device.specs.Sectors.{Device, shown, latest, written, synced, all_bytes}
use Rattle.device.specs.Program.{Io, and_then}
use Rattle.device.specs.Plays.{io_of}
use Rattle.device.specs.Priced.{CutIn}
use Rattle.paging.specs.Layout.{one, numbers, inner, last_node, child, parent, leaf_of, slot, rooms}
use Rattle.paging.specs.Pages.{Sync, Synced, replied, same_bytes, blank_page}
use Rattle.paging.specs.Sectors.{leaf_sector, inner_sector, root_sector, place_at, bit_at, label_at, root_known}
use Rattle.paging.specs.Memory.{Mem, vacant, durable, selected, tidied}
use Rattle.paging.specs.Store.{Stored, holds, write_node, write_below, write_root, unchanged, store_flow}
use Rattle.paging.specs.Judge.{State, live, lasting, Answers, kept}
use Rattle.paging.proofs.Coding.{same, one-le, place-back, bit-inner, bit-root, leaf-whole, leaf-bytes, inner-whole, inner-bytes, root-whole, root-bytes, label-back, known-root}
use Rattle.paging.proofs.Logic.{shown-same, shown-other, since-other, kept-quiet, shown-quiet, Wp, wp-cond, wp-then, wp-weaker, wp-turns}
use Rattle.paging.proofs.Count.{kept-all, used-live}
use Rattle.paging.proofs.Marks.{none-marked}
use Rattle.paging.proofs.Inv.{page_at, page-ext, Sane, Full, Marks, Uses, Safe, Off, UpIn, Runs, Ends, Cut, Rests, Holds, Fine, Rested, resting, downs, stays, safe-cut, safe-write, safe-sync, frame, frame-rests, ext-safe}
use Rattle.paging.proofs.Moves.{durable-is}
use Rattle.paging.proofs.Reclaiming.{old-shows}
use Rattle.paging.proofs.Tidy.{Tidied, tidied-is, durable-like, selected-is}

one-not : (b : Bool) → one b + one (not b) ≡ 1
unfolding one
one-not true = refl
one-not false = refl

slots_apart : (j k : ℕ) (a b : Bool) → (j ≡ k → ⊥) → slot j a ≡ slot k b → ⊥
slots_apart j k a b n e = omega (arith, one-le a, one-le b)

-- the slots that do not count carry nothing
other-free : (z : ℕ) (sel : ℕ → Bool) (m : ℕ → ℕ) (k : ℕ) → 0 < k → k ≤ last_node z → Uses z sel m (slot k (not (sel k))) → ⊥
other-free z sel m k o l (Uses.root e) = omega arith
other-free z sel m k o l (Uses.noded j h i e) =
    let q : j ≡ k = omega (arith, one-le (not (sel k)), one-le (sel j)) in
    let w : one (sel j) ≡ one (sel k) = ap (λ i. one (sel i)) q in
    omega (arith, one-not (sel k), one-le (sel k))
other-free z sel m k o l (Uses.paged n p h e a b) = omega (arith, one-le (not (sel k)))

holds_fits : (m : Mem) (k : ℕ) → (length (holds m k) ≡ 512) × T (all_bytes (holds m k))
holds_fits m k = go (ltb k (inner m.size))
  where
    go : (b : Bool) →
        (length (cond b (inner_sector (λ b. selected m (child k b))) (leaf_sector (λ j. durable m (64 * (k - inner m.size) + j)))) ≡ 512) × T (all_bytes (cond b (inner_sector (λ b. selected m (child k b))) (leaf_sector (λ j. durable m (64 * (k - inner m.size) + j)))))
    go true = (inner-whole _, inner-bytes _)
    go false = (leaf-whole _, leaf-bytes _)

-- THE NODES
-- the other slot of a node holds what a sync makes of it
abbrev Holding : Mem → Device → ℕ → Type 0
Holding m e k = shown e (slot k (not (m.sel k))) ≡ holds m k

-- only other slots were written, each with what its node is to hold
record Wrote (m : Mem) (I : Device → Type 0) (d e : Device) : Type 0 where
  inv : I e
  others : (t : ℕ) → ((k : ℕ) → 0 < k → k ≤ last_node m.size → t ≡ slot k (not (m.sel k)) → ⊥) → shown e t ≡ shown d t
  more : (k : ℕ) → 0 < k → Holding m d k → Holding m e k

wrote_then : {m : Mem} {I : Device → Type 0} {d e f : Device} → Wrote m I d e → Wrote m I e f → Wrote m I d f
wrote_then a b = record { inv = b.inv; others = λ t h. b.others t h ∙ a.others t h; more = λ k o h. b.more k o (a.more k o h) }

-- the marked nodes so many levels below a node are written
abbrev Below : Mem → ℕ → ℕ → Device → Type 0
Below m zero k e = Unit {0}
Below m (suc d) k e = (b : ℕ) → b < 2048 → child k b ≤ last_node m.size → m.dirty (child k b) ≡ true → Holding m e (child k b) × Below m d (child k b) e

below_more : (m : Mem) (d k : ℕ) (e f : Device) → ((k : ℕ) → 0 < k → Holding m e k → Holding m f k) → Below m d k e → Below m d k f
below_more m zero k e f h w = tt
below_more m (suc d) k e f h w = λ b l i y. let v = w b l i y in (h (child k b) (omega arith) v.0, below_more m d (child k b) e f h v.1)

module _ {Q : Device → Type 0} (m : Mem) (big : 8192 ≤ m.size) (I : Device → Type 0) (here : (e : Device) → I e → Q e) (keeps : (k : ℕ) (b : List ℕ) (e : Device) → 0 < k → k ≤ last_node m.size → I e → I (written (slot k (not (m.sel k))) b e)) where
  wrote-node : (k : ℕ) (e : Device) → 0 < k → k ≤ last_node m.size → I e → Wrote m I e (written (slot k (not (m.sel k))) (holds m k) e)
  wrote-node k e o l i =
      record {
        inv = keeps k (holds m k) e o l i;
        others = λ t h. shown-other (slot k (not (m.sel k))) t (holds m k) e (h k o l);
        more = λ j a h. elim (cases_eq j k) [
          | inl q ↦ subst (Holding m (written (slot k (not (m.sel k))) (holds m k) e)) (sym q) (shown-same (slot k (not (m.sel k))) (holds m k) e)
          | inr q ↦ shown-other (slot k (not (m.sel k))) (slot j (not (m.sel j))) (holds m k) e (slots_apart j k (not (m.sel j)) (not (m.sel k)) q) ∙ h
        ];
      }

  -- the children of a node before b are written, with what is below them
  record Children (d k : ℕ) (e : Device) (b : ℕ) (x : Unit {0}) (f : Device) : Type 0 where
    wrote : Wrote m I e f
    done : (i : ℕ) → i < b → child k i ≤ last_node m.size → m.dirty (child k i) ≡ true → Holding m f (child k i) × Below m d (child k i) f

  wp-below : (d k : ℕ) (e : Device) → I e → Wp m.size Q (λ _ f. Wrote m I e f × Below m d k f) (io_of (write_below d m k)) e
  unfolding write_below io_of
  wp-below zero k e i = Wp.ends (here e i) (record { inv = i; others = λ t h. refl; more = λ k o h. h }, tt)
  wp-below (suc d) k e i =
      wp-cond (ltb k (inner m.size))
      (λ _. wp-weaker (λ x f c. (c.wrote, c.done))
      (wp-turns (λ b _. write_node (write_below d m) m (child k b)) (Children d k e) (λ b x f c. here f c.wrote.inv) 2048
      (λ b x f l c. wp-cond (leb (child k b) (last_node m.size) && m.dirty (child k b)) (λ h. writes b x f c (and_parts (leb (child k b) (last_node m.size)) (m.dirty (child k b)) h) (λ g. wp-below d (child k b) g)) (λ h. Wp.ends (here f c.wrote.inv) (none b x f c (and_cases (leb (child k b) (last_node m.size)) (m.dirty (child k b)) h)))) tt e
      (record { wrote = record { inv = i; others = λ t h. refl; more = λ k o h. h }; done = λ i l. absurd (omega arith) })))
      (λ h. Wp.ends (here e i) (record { inv = i; others = λ t h. refl; more = λ k o h. h }, λ b l c. absurd (omega (arith, ltb-false k (inner m.size) h))))
    where
      writes : (b : ℕ) (x : Unit {0}) (f : Device) → Children d k e b x f → (leb (child k b) (last_node m.size) ≡ true) × (m.dirty (child k b) ≡ true) → ((g : Device) → I g → Wp m.size Q (λ _ h. Wrote m I g h × Below m d (child k b) h) (io_of (write_below d m (child k b))) g) →
          Wp m.size Q (Children d k e (suc b)) (Io.write (slot (child k b) (not (m.sel (child k b)))) (holds m (child k b)) (io_of (write_below d m (child k b)))) f
      writes b x f c (h, y) w =
          let l = leb-true (child k b) (last_node m.size) h in
          let o = wrote-node (child k b) f (omega arith) l c.wrote.inv in
          Wp.writes (here f c.wrote.inv) (omega (arith, one-le (not (m.sel (child k b))))) (holds_fits m (child k b)).0 (holds_fits m (child k b)).1
          (wp-weaker (λ _ g v. record {
            wrote = wrote_then c.wrote (wrote_then o v.0);
            done = λ i q n s. elim (cases_eq i b) [
              | inl a ↦ subst (λ i. Holding m g (child k i) × Below m d (child k i) g) (sym a) (v.0.more (child k b) (omega arith) (shown-same (slot (child k b) (not (m.sel (child k b)))) (holds m (child k b)) f), v.1)
              | inr a ↦
                  let p = c.done i (omega arith) n s in
                  let t = wrote_then o v.0 in
                  (t.more (child k i) (omega arith) p.0, below_more m d (child k i) f g t.more p.1)
            ];
          }) (w (written (slot (child k b) (not (m.sel (child k b)))) (holds m (child k b)) f) o.inv))

      none : (b : ℕ) (x : Unit {0}) (f : Device) → Children d k e b x f → (leb (child k b) (last_node m.size) ≡ false) ⊎ (m.dirty (child k b) ≡ false) → Children d k e (suc b) x f
      none b x f c h = record { wrote = c.wrote; done = λ i q n s. elim (cases_eq i b) [ inl a ↦ absurd (never i a n s h) | inr a ↦ c.done i (omega arith) n s ] }
        where
          never : (i : ℕ) → i ≡ b → child k i ≤ last_node m.size → m.dirty (child k i) ≡ true → (leb (child k b) (last_node m.size) ≡ false) ⊎ (m.dirty (child k b) ≡ false) → ⊥
          never i a n s (inl h) = omega (arith, leb-false (child k b) (last_node m.size) h)
          never i a n s (inr h) = both_ways (m.dirty (child k b)) h (rw a at s)

-- three levels below the root reach every node
reaches : (m : Mem) (e : Device) → m.size ≤ 1099511627776 → ((k : ℕ) → 0 < k → k ≤ last_node m.size → m.dirty k ≡ true → m.dirty (parent k) ≡ true) → Below m 3 0 e → (k : ℕ) → 0 < k → k ≤ last_node m.size → m.dirty k ≡ true → Holding m e k
reaches m e small closed w k o l y = go (cases_eq (parent k) 0)
  where
    -- a node, by its parent
    step : (p k d : ℕ) → parent k ≡ p → 0 < k → k ≤ last_node m.size → m.dirty k ≡ true → Below m (suc d) p e → Holding m e k × Below m d k e
    step p k d q o l y v =
        let i : child p (k - (2048 * p + 1)) ≡ k = omega arith in
        subst (λ k. Holding m e k × Below m d k e) i (v (k - (2048 * p + 1)) (omega arith) (omega arith) (rw i y))

    go2 : (p : ℕ) → parent k ≡ p → 0 < p → m.dirty p ≡ true → (parent p ≡ 0) ⊎ (parent p ≡ 0 → ⊥) → Holding m e k
    go2 p q a x (inl i) = (step p k 1 q o l y (step 0 p 2 i a (omega arith) x w).1).0
    go2 p q a x (inr i) =
        let u = closed p a (omega arith) x in
        (step p k 0 q o l y (step (parent p) p 1 refl a (omega arith) x (step 0 (parent p) 2 (omega arith) (omega arith) (omega arith) u w).1).1).0

    go : (parent k ≡ 0) ⊎ (parent k ≡ 0 → ⊥) → Holding m e k
    go (inl i) = (step 0 k 2 i o l y w).0
    go (inr i) = go2 (parent k) refl (omega arith) (closed k o l y) (cases_eq (parent (parent k)) 0)

place-small : (z : ℕ) (m : ℕ → ℕ) (n : ℕ) → Sane z m → z ≤ 1099511627776 → n < numbers z → m n < 2 ^ 64
place-small z m n s h l = go (m n) refl
  where
    go : (v : ℕ) → m n ≡ v → v < 2 ^ 64
    go zero e = omega arith
    go (suc p) e = omega (arith, s.within n p l e)

-- what is durable of a map that can be one is one
durable-sane : (z : ℕ) (m : Mem) → Sane z m.now → Sane z (durable m)
durable-sane z m s = record { apart = λ n k p a b c e. s.apart n k p a b (durable-is m n p c).0 (durable-is m k p e).0; within = λ n p a c. s.within n p a (durable-is m n p c).0 }

module _ (m : Mem) (d : Device) (s : State) (u : UpIn m.size m d s) where
  abbrev G : ℕ → List ℕ
  G = lasting s.volatile s.now

  G-full : Full m.size (durable m) G
  G-full n p l e =
      let a = durable-is m n p e in
      ap (λ b. same_bytes (cond b blank_page (s.now n)) blank_page) (sym (u.vols n l) ∙ a.1) ∙ u.now_full n p l a.0

  -- what the places of the durable pages show
  G-shows : (c : ℕ → List ℕ) → ((n : ℕ) → n < numbers m.size → page_at m.size c (m.now n) ≡ s.now n) → (n : ℕ) → n < numbers m.size → page_at m.size c (durable m n) ≡ G n
  unfolding page_at
  G-shows c h n l = go (m.vol n) (s.volatile n) (u.vols n l)
    where
      go : (a b : Bool) → a ≡ b → page_at m.size c (cond a 0 (m.now n)) ≡ cond b blank_page (s.now n)
      go true true e = refl
      go true false e = absurd (false≢true (sym e))
      go false true e = absurd (false≢true e)
      go false false e = h n l

  -- where what is durable is synced, only the pages as they are take room
  room : (t : Mem) → Fine m.size t → ((n : ℕ) → n < numbers m.size → t.old n ≡ durable m n) → t.busy ≡ m.busy → rooms m.size ≤ t.left + live (numbers m.size) s.now
  room t fine olds busy =
      let a = kept-all (rooms m.size) (numbers m.size) (vacant t.busy t.held) m.now (durable m) s.now G
      (λ p i. cover p (t.busy p) (t.held p) refl refl)
      (λ k l i. u.now_full k (m.now k - 1) l (omega arith))
      (λ k l i j. absurd (j (let w : durable m k ≡ suc (durable m k - 1) = omega arith in w ∙ sym (durable-is m k (durable m k - 1) w).0))) in
      let c = fine.counted in
      let e = used-live (numbers m.size) s.now G (λ n. either (s.volatile n) (s.now n)) in
      omega arith
    where
      either : (b : Bool) (f : List ℕ) → (cond b blank_page f ≡ blank_page) ⊎ (cond b blank_page f ≡ f)
      either true f = inl refl
      either false f = inr refl

      held : (p : ℕ) → (k : ℕ) × (k < numbers m.size) × (t.old k ≡ suc p) → (k : ℕ) × (k < numbers m.size) × (durable m k ≡ suc p)
      held p (k, l, e) = (k, l, sym (olds k l) ∙ e)

      cover : (p : ℕ) (a b : Bool) → t.busy p ≡ a → t.held p ≡ b → (vacant t.busy t.held p ≡ true) ⊎ (((k : ℕ) × (k < numbers m.size) × (m.now k ≡ suc p)) ⊎ ((k : ℕ) × (k < numbers m.size) × (durable m k ≡ suc p)))
      cover p true b i j = inr (inl (u.ready.now_marks.marks p (ap (λ g. g p) (sym busy) ∙ i)))
      cover p false true i j = inr (inr (held p (fine.old_marks.marks p j)))
      cover p false false i j = inl (rw (i, j))

  module _ (label : List ℕ) (len : length label ≡ 248) (bytes : T (all_bytes label)) where
    abbrev Q : Device → Type 0
    Q = Cut m.size (Sync label) s

    -- NOTHING IS MARKED: what is synced is what is durable
    abbrev same_after : State
    same_after = record { now = s.now; volatile = s.volatile; synced = G; label = label; left = m.left }

    unmarked-up : m.dirty 0 ≡ false → s.label ≡ label → UpIn m.size m d same_after
    unmarked-up e i =
        record {
          sized = refl;
          big = u.big;
          small = u.small;
          ready = u.ready;
          now_full = u.now_full;
          old_full = λ n p l q. G-full n p l (was n l ∙ q);
          vols = u.vols;
          blanks = u.blanks;
          closed = u.closed;
          clean = u.clean;
          safe = subst (λ label. Safe m.size m.sel m.old G label d) i (ext-safe (λ k o l. refl) (λ n l. refl) (λ n l. sym (old-shows m u n l) ∙ (ap (page_at m.size (shown d)) (sym (was n l)) ∙ G-shows (shown d) u.shows n l)) u.safe);
          shows = u.shows;
        }
      where
        was : (n : ℕ) → n < numbers m.size → durable m n ≡ m.old n
        was n l = u.clean n l (none-marked (last_node m.size) m.dirty u.closed e (leaf_of m.size n) (omega arith))

    same-answered : m.dirty 0 ≡ false → Answers m.size (Sync label) s Synced same_after
    same-answered e = Answers.syncs label s m.left len bytes (room m u.ready (λ n l. sym (u.clean n l (none-marked (last_node m.size) m.dirty u.closed e (leaf_of m.size n) (omega arith)))) refl)

    -- WHAT A SYNC LEAVES
    abbrev t : Mem
    t = tidied m

    td : Tidied m.size m t
    td = tidied-is m u.small u.ready u.closed u.clean

    abbrev after : State
    after = record { now = s.now; volatile = s.volatile; synced = G; label = label; left = t.left }

    t-marks : Marks m.size (durable m) t.held
    t-marks = record { marked = λ n p l e. td.fine.old_marks.marked n p l (td.old n l ∙ e); marks = λ p e. let (k, l, i) = td.fine.old_marks.marks p e in (k, l, sym (td.old k l) ∙ i) }

    answered : Answers m.size (Sync label) s Synced after
    answered = Answers.syncs label s t.left len bytes (room t td.fine td.old td.like.busy)

    -- the new map rests on what the first half wrote
    pages-stay : (e : Device) → ((t : ℕ) → ((k : ℕ) → 0 < k → k ≤ last_node m.size → t ≡ slot k (not (m.sel k)) → ⊥) → shown e t ≡ shown d t) → (n : ℕ) → n < numbers m.size → page_at m.size (shown e) (m.now n) ≡ s.now n
    pages-stay e o n l = page-ext m.size (shown d) (shown e) (m.now n) (λ p i t a b. o t (λ k g h j. omega (arith, one-le (not (m.sel k))))) ∙ u.shows n l

    new-rests : (e : Device) → Safe m.size m.sel m.old s.synced s.label e → ((t : ℕ) → ((k : ℕ) → 0 < k → k ≤ last_node m.size → t ≡ slot k (not (m.sel k)) → ⊥) → shown e t ≡ shown d t) →
        ((k : ℕ) → 0 < k → k ≤ last_node m.size → m.dirty k ≡ true → Holding m e k) → Rests m.size (shown e) (selected m) (durable m) G
    new-rests e sf o w =
        record {
          bitting = λ p g b l i. rw (selected-is m p g) (bits-to p g b l i (m.dirty p) refl);
          mapping = λ n l. rw (selected-is m (leaf_of m.size n) (omega arith)) (maps-to n l (m.dirty (leaf_of m.size n)) refl);
          paging = G-shows (shown e) (pages-stay e o);
        }
      where
        bits-to : (p : ℕ) → 0 < p → (b : ℕ) → b < 2048 → child p b ≤ last_node m.size → (t : Bool) → m.dirty p ≡ t → bit_at (shown e (slot p (cond t (not (m.sel p)) (m.sel p)))) b ≡ selected m (child p b)
        bits-to p g b l i true y =
            ap (λ t. bit_at t b) (w p g (omega arith) y ∙ ap (λ t. cond t (inner_sector (λ b. selected m (child p b))) (leaf_sector (λ j. durable m (64 * (p - inner m.size) + j)))) (lt-ltb p (inner m.size) (omega arith))) ∙
            bit-inner (λ b. selected m (child p b)) b l
        bits-to p g b l i false y =
            let a : parent (child p b) ≡ p = omega arith in
            let q : m.dirty (child p b) ≡ false = elim (cases_Bool (m.dirty (child p b))) [ inl v ↦ absurd (both_ways (m.dirty p) y (rw a at (u.closed (child p b) (omega arith) i v))) | inr v ↦ v ] in
            ap (λ t. bit_at t b) (shown-quiet e (slot p (m.sel p)) (sf.quiet _ (Uses.noded p g (omega arith) refl))) ∙
            (sf.holds.rests.bitting p g b l i ∙ sym (selected-is m (child p b) (omega arith) ∙ ap (λ t. cond t (not (m.sel (child p b))) (m.sel (child p b))) q))

        maps-to : (n : ℕ) → n < numbers m.size → (b : Bool) → m.dirty (leaf_of m.size n) ≡ b → place_at (shown e (slot (leaf_of m.size n) (cond b (not (m.sel (leaf_of m.size n))) (m.sel (leaf_of m.size n))))) (n % 64) ≡ durable m n
        maps-to n l true y =
            let v : 64 * (leaf_of m.size n - inner m.size) + n % 64 ≡ n = omega arith in
            ap (λ b. place_at b (n % 64)) (w (leaf_of m.size n) (omega arith) (omega arith) y ∙ ap (λ t. cond t (inner_sector (λ b. selected m (child (leaf_of m.size n) b))) (leaf_sector (λ j. durable m (64 * (leaf_of m.size n - inner m.size) + j)))) (le-ltb (leaf_of m.size n) (inner m.size) (omega arith))) ∙
            (place-back (λ j. durable m (64 * (leaf_of m.size n - inner m.size) + j)) (n % 64) (omega arith) (rw v (place-small m.size (durable m) n (durable-sane m.size m u.ready.now_sane) u.small l)) ∙ ap (durable m) v)
        maps-to n l false y =
            ap (λ b. place_at b (n % 64)) (shown-quiet e (slot (leaf_of m.size n) (m.sel (leaf_of m.size n))) (sf.quiet _ (Uses.noded (leaf_of m.size n) (omega arith) (omega arith) refl))) ∙
            (sf.holds.rests.mapping n l ∙ sym (u.clean n l y))

    abbrev root : List ℕ
    root = root_sector label (λ b. selected m (child 0 b))

    module _ (e : Device) (sf : Safe m.size m.sel m.old s.synced s.label e) (r : Rests m.size (shown e) (selected m) (durable m) G) (stay : (n : ℕ) → n < numbers m.size → page_at m.size (shown e) (m.now n) ≡ s.now n) where
      -- the root is written and not yet synced
      abbrev rooted : Device
      rooted = written 0 root (synced e)

      root-rests : (c : ℕ → List ℕ) → ((t : ℕ) → (t ≡ 0 → ⊥) → c t ≡ shown e t) → c 0 ≡ root → Holds m.size c (selected m) (durable m) G label
      root-rests c h i =
          record {
            known = ap root_known i ∙ known-root label _;
            labelled = ap label_at i ∙ label-back label _ len;
            rooting = λ b l _. ap (λ t. bit_at t b) i ∙ bit-root label (λ b. selected m (child 0 b)) b len l;
            rests = frame-rests (λ t n _. h t n) r;
          }

      done-off : (g : Device) → Off m.size g G label → (v : State) × CutIn (kept m.size) (Sync label) s v × Rested m.size g v
      done-off g o = (_, CutIn.done Synced after answered (downs after o), resting o)

      root-cut : Q rooted
      root-cut g a = go (a.each 0)
        where
          else' : (t : ℕ) → (t ≡ 0 → ⊥) → g.kept t ≡ shown e t
          else' t n = kept-quiet t a (since-other 0 t root (synced e) n)

          lost-off : g.kept 0 ≡ shown e 0 → Off m.size g s.synced s.label
          lost-off i =
              record {
                still = a.nothing;
                sel = m.sel;
                m = m.old;
                taken = m.held;
                sane = u.ready.old_sane;
                full = u.old_full;
                marks = u.ready.old_marks;
                holds = frame (λ t _. elim (cases_eq t 0) [ inl v ↦ rw v i | inr v ↦ else' t v ]) (safe-sync sf).holds;
              }

          go : (g.kept 0 ≡ shown e 0) ⊎ Memᴰ (g.kept 0) (root ∷ []) → (v : State) × CutIn (kept m.size) (Sync label) s v × Rested m.size g v
          go (inl i) = (_, CutIn.lost (downs s (lost-off i)), resting (lost-off i))
          go (inr i) =
              done-off g (record {
                still = a.nothing;
                sel = selected m;
                m = durable m;
                taken = t.held;
                sane = durable-sane m.size m u.ready.now_sane;
                full = G-full;
                marks = t-marks;
                holds = root-rests g.kept else' (elim (Memᴰ.cases_cons i) [ inl v ↦ v | inr v ↦ absurd (Memᴰ.not-nil v) ]);
              })

      last-safe : Safe m.size (selected m) (durable m) G label (synced rooted)
      unfolding latest
      last-safe = record { quiet = λ t _. refl; holds = root-rests (shown rooted) (λ t n. shown-other 0 t _ (synced e) n) (shown-same 0 _ (synced e)) }

      last-cut : Q (synced rooted)
      last-cut g a = done-off g (safe-cut (durable-sane m.size m u.ready.now_sane) G-full t-marks last-safe a)

      last_up : UpIn m.size t (synced rooted) after
      unfolding latest
      last_up =
          record {
            sized = td.like.size;
            big = u.big;
            small = u.small;
            ready = td.fine;
            now_full = λ n p l i. u.now_full n p l (ap (λ g. g n) (sym td.like.now) ∙ i);
            old_full = λ n p l i. G-full n p l (sym (td.old n l) ∙ i);
            vols = λ n l. ap (λ g. g n) td.like.vol ∙ u.vols n l;
            blanks = λ n l i. ap (λ g. g n) td.like.vol ∙ u.blanks n l (ap (λ g. g n) (sym td.like.now) ∙ i);
            closed = λ k o l i. absurd (both_ways (t.dirty k) (td.dirty k l) i);
            clean = λ n l i. durable-like td.like n ∙ sym (td.old n l);
            safe = ext-safe td.sel td.old (λ n l. refl) last-safe;
            shows = λ n l. ap (λ g. page_at m.size (shown rooted) (g n)) td.like.now ∙ (page-ext m.size (shown e) (shown rooted) (m.now n) (λ p i v a b. shown-other 0 v _ (synced e) (omega arith)) ∙ stay n l);
          }

module _ (t : Stored) (d : Device) (s : State) (r : Runs t.mem.size t d s) (label : List ℕ) where
  abbrev z : ℕ
  z = t.mem.size

  writes : length label ≡ 248 → T (all_bytes label) → Wp z (Cut z (Sync label) s) (Ends z (Sync label) s) (and_then (io_of (write_below 3 t.mem 0)) (λ _. io_of (write_root label t))) d
  unfolding io_of replied
  writes len bytes =
      wp-then (λ _. io_of (write_root label t))
      (λ _ e (o, b).
      let w = reaches t.mem e r.up.small r.up.closed b in
      let v = pages-stay t.mem d s r.up label len bytes e o.others in
      let q = new-rests t.mem d s r.up label len bytes e o.inv o.others w in
      Wp.syncs (stays r.up (Sync label) e o.inv)
      (Wp.writes (stays r.up (Sync label) (synced e) (safe-sync o.inv)) (omega (arith, r.up.big)) (root-whole label _ len) (root-bytes label _ bytes)
      (Wp.syncs (root-cut t.mem d s r.up label len bytes e o.inv q v)
      (Wp.ends (last-cut t.mem d s r.up label len bytes e o.inv q v) (
        after t.mem d s r.up label len bytes,
        answered t.mem d s r.up label len bytes,
        record { known = r.known; label = refl; left = refl; up = last_up t.mem d s r.up label len bytes e o.inv q v },
      )))))
      (wp-below t.mem r.up.big (Safe z t.mem.sel t.mem.old s.synced s.label) (stays r.up (Sync label))
      (λ k b e o l sf. safe-write (slot k (not (t.mem.sel k))) b (other-free z t.mem.sel t.mem.old k o l) sf) 3 0 d r.up.safe)

  -- what is no label
  no_label : (eqb (length label) 248 && all_bytes label) ≡ false → (length label ≡ 248 → ⊥) ⊎ T (not (all_bytes label))
  no_label e = go (and_cases (eqb (length label) 248) (all_bytes label) e)
    where
      go : (eqb (length label) 248 ≡ false) ⊎ (all_bytes label ≡ false) → (length label ≡ 248 → ⊥) ⊎ T (not (all_bytes label))
      go (inl i) = inl (eqb-false (length label) 248 i)
      go (inr i) = inr (rw i tt)

  a-label : (eqb (length label) 248 && all_bytes label) ≡ true → (length label ≡ 248) × T (all_bytes label)
  a-label e = let h = and_parts (eqb (length label) 248) (all_bytes label) e in (eqb-true (length label) 248 h.0, rw h.1 tt)

  pub sync-ok : Wp z (Cut z (Sync label) s) (Ends z (Sync label) s) (io_of (store_flow (Sync label) t)) d
  unfolding io_of store_flow replied
  sync-ok =
      wp-cond (unchanged label t)
      (λ e. Wp.ends (stays r.up (Sync label) d r.up.safe) (still (eqb (length label) 248 && all_bytes label) refl (or_cases (not t.known) _ e)))
      (λ e.
      let h = a-label (not-false _ (or_parts (not (eqb (length label) 248 && all_bytes label)) _ (or_parts (not t.known) _ e).1).0) in
      writes h.0 h.1)
    where
      still : (b : Bool) → (eqb (length label) 248 && all_bytes label) ≡ b → (not t.known ≡ true) ⊎ ((not b || (not (t.mem.dirty 0) && same_bytes label t.label)) ≡ true) → Ends z (Sync label) s (tt, t) d
      still b e (inl i) = absurd (both_ways t.known (not-true _ i) r.known)
      still false e (inr i) = (s, Answers.no_sync label s (no_label e), r)
      still true e (inr i) =
          let h = a-label e in
          let j = and_parts (not (t.mem.dirty 0)) (same_bytes label t.label) i in
          let k = same label t.label j.1 in
          let o = not-true _ j.0 in (
            same_after t.mem d s r.up label h.0 h.1,
            same-answered t.mem d s r.up label h.0 h.1 o,
            record { known = r.known; label = sym k; left = refl; up = unmarked-up t.mem d s r.up label h.0 h.1 o (sym r.label ∙ sym k) },
          )
