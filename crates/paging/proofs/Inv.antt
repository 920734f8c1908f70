-- What ties the card, the memory and the pages; and that it lasts over a cut and over writes elsewhere.
-- Assumes nothing.
use Rattle.std.proofs.Common.{◌≡◌, ℕ, zero, suc, ◌+◌, ◌-◌, ◌%◌, ◌<◌, ◌≤◌, Bool, true, false, cond, not, eqb, ◌⊎◌, List, [], sym, refl, ap, ◌∙◌, subst, inl, inr, arith}
use Rattle.std.proofs.lemmas.Bool.{eq-eqb, ne_eqb, false≢true}
use Rattle.device.specs.Sectors.{Device, shown, written, synced, AfterCut}
use Rattle.device.specs.Priced.{CutIn}
use Rattle.paging.specs.Layout.{numbers, last_node, child, leaf_of, slot, rooms, home}
use Rattle.paging.specs.Pages.{PageCall, Told, replied, blank_page, same_bytes}
use Rattle.paging.specs.Sectors.{place_at, bit_at, label_at, root_known}
use Rattle.paging.specs.Memory.{Mem, at, vacant, durable}
use Rattle.paging.specs.Store.{Stored}
use Rattle.paging.specs.Judge.{State, live, Answers, Down, still, kept}
use Rattle.paging.proofs.Logic.{by-eq, sectors, sectors-ext, since-other, kept-quiet, shown-quiet}
use Rattle.paging.proofs.Count.{count, kept-all, used-live}
use Rattle.paging.proofs.Marks.{Closed}

-- the page at a place
unfoldable pub page_at : ℕ → (ℕ → List ℕ) → ℕ → List ℕ
page_at z c zero = blank_page
page_at z c (suc p) = sectors 8 (home z p) c

-- a map that can be one: its places lie on the card, each used once
pub record Sane (z : ℕ) (m : ℕ → ℕ) : Type 0 where
  pub apart : (n k p : ℕ) → n < numbers z → k < numbers z → m n ≡ suc p → m k ≡ suc p → n ≡ k
  pub within : (n p : ℕ) → n < numbers z → m n ≡ suc p → home z p + 8 ≤ z

-- blank pages have no place
abbrev pub Full : ℕ → (ℕ → ℕ) → (ℕ → List ℕ) → Type 0
Full z m f = (n p : ℕ) → n < numbers z → m n ≡ suc p → same_bytes (f n) blank_page ≡ false

-- the sectors that a map and its bits rest on
pub data Uses (z : ℕ) (sel : ℕ → Bool) (m : ℕ → ℕ) (s : ℕ) : Type 0 where
  root : s ≡ 0 → Uses z sel m s
  noded : (k : ℕ) → 0 < k → k ≤ last_node z → s ≡ slot k (sel k) → Uses z sel m s
  paged : (n p : ℕ) → n < numbers z → m n ≡ suc p → home z p ≤ s → s < home z p + 8 → Uses z sel m s

-- a sector holds the bits of the children of a node
abbrev pub Shows : ℕ → (ℕ → Bool) → ℕ → List ℕ → Type 0
Shows z sel p bs = (b : ℕ) → b < 2048 → child p b ≤ last_node z → bit_at bs b ≡ sel (child p b)

-- all but the root
pub record Rests (z : ℕ) (c : ℕ → List ℕ) (sel : ℕ → Bool) (m : ℕ → ℕ) (f : ℕ → List ℕ) : Type 0 where
  pub bitting : (p : ℕ) → 0 < p → Shows z sel p (c (slot p (sel p)))
  pub mapping : (n : ℕ) → n < numbers z → place_at (c (slot (leaf_of z n) (sel (leaf_of z n)))) (n % 64) ≡ m n
  pub paging : (n : ℕ) → n < numbers z → page_at z c (m n) ≡ f n

pub record Holds (z : ℕ) (c : ℕ → List ℕ) (sel : ℕ → Bool) (m : ℕ → ℕ) (f : ℕ → List ℕ) (label : List ℕ) : Type 0 where
  pub known : root_known (c 0) ≡ true
  pub labelled : label_at (c 0) ≡ label
  pub rooting : Shows z sel 0 (c 0)
  pub rests : Rests z c sel m f

pub page-ext : (z : ℕ) (c e : ℕ → List ℕ) (v : ℕ) → ((p : ℕ) → v ≡ suc p → (t : ℕ) → home z p ≤ t → t < home z p + 8 → e t ≡ c t) → page_at z e v ≡ page_at z c v
unfolding page_at
page-ext z c e zero h = refl
page-ext z c e (suc p) h = sectors-ext 8 (home z p) c e (h p refl)

-- what stands on other sectors is of no weight
pub frame-rests : {z : ℕ} {c e : ℕ → List ℕ} {sel : ℕ → Bool} {m : ℕ → ℕ} {f : ℕ → List ℕ} →
    ((s : ℕ) → (s ≡ 0 → ⊥) → Uses z sel m s → e s ≡ c s) → Rests z c sel m f → Rests z e sel m f
frame-rests {z} {c} {e} {sel} {m} {f} h r =
    record {
      bitting = λ p o b l i. ap (λ t. bit_at t b) (h (slot p (sel p)) (λ q. omega arith) (Uses.noded p o (omega arith) refl)) ∙ r.bitting p o b l i;
      mapping = λ n l. ap (λ b. place_at b (n % 64)) (h (slot (leaf_of z n) (sel (leaf_of z n))) (λ q. omega arith) (Uses.noded (leaf_of z n) (omega arith) (omega arith) refl)) ∙ r.mapping n l;
      paging = λ n l. page-ext z c e (m n) (λ p q t u v. h t (λ w. omega arith) (Uses.paged n p l q u v)) ∙ r.paging n l;
    }

pub frame : {z : ℕ} {c e : ℕ → List ℕ} {sel : ℕ → Bool} {m : ℕ → ℕ} {f : ℕ → List ℕ} {label : List ℕ} → ((s : ℕ) → Uses z sel m s → e s ≡ c s) → Holds z c sel m f label → Holds z e sel m f label
frame h r =
    let i = h 0 (Uses.root refl) in
    record { known = ap root_known i ∙ r.known; labelled = ap label_at i ∙ r.labelled; rooting = λ b l w. ap (λ t. bit_at t b) i ∙ r.rooting b l w; rests = frame-rests (λ s o u. h s u) r.rests }

-- the physical pages that a map has
pub record Marks (z : ℕ) (m : ℕ → ℕ) (t : ℕ → Bool) : Type 0 where
  pub marked : (n p : ℕ) → n < numbers z → m n ≡ suc p → t p ≡ true
  pub marks : (p : ℕ) → t p ≡ true → (n : ℕ) × (n < numbers z) × (m n ≡ suc p)

-- THE CARD WHEN POWER IS OFF holds the pages f
pub record Off (z : ℕ) (d : Device) (f : ℕ → List ℕ) (label : List ℕ) : Type 0 where
  pub still : (s : ℕ) → d.since s ≡ []
  pub sel : ℕ → Bool
  pub m : ℕ → ℕ
  pub taken : ℕ → Bool
  pub sane : Sane z m
  pub full : Full z m f
  pub marks : Marks z m taken
  pub holds : Holds z d.kept sel m f label

-- THE CARD KEEPS the pages f: what they rest on is synced, and not written since
pub record Safe (z : ℕ) (sel : ℕ → Bool) (m : ℕ → ℕ) (f : ℕ → List ℕ) (label : List ℕ) (d : Device) : Type 0 where
  pub quiet : (s : ℕ) → Uses z sel m s → d.since s ≡ []
  pub holds : Holds z d.kept sel m f label

-- so a cut leaves them
pub safe-cut : {z : ℕ} {sel : ℕ → Bool} {m : ℕ → ℕ} {f : ℕ → List ℕ} {label : List ℕ} {d g : Device} {t : ℕ → Bool} → Sane z m → Full z m f → Marks z m t → Safe z sel m f label d → AfterCut d g → Off z g f label
safe-cut {sel = sel} {m = m} {t = t} sn fu mk h a = record { still = a.nothing; sel = sel; m = m; taken = t; sane = sn; full = fu; marks = mk; holds = frame (λ s u. kept-quiet s a (h.quiet s u)) h.holds }

-- and so does a write elsewhere, and a sync
pub safe-write : {z : ℕ} {sel : ℕ → Bool} {m : ℕ → ℕ} {f : ℕ → List ℕ} {label : List ℕ} {d : Device} (s : ℕ) (b : List ℕ) → (Uses z sel m s → ⊥) → Safe z sel m f label d → Safe z sel m f label (written s b d)
safe-write {z = z} {sel = sel} {m = m} {d = d} s b out h = record { quiet = λ t u. since-other s t b d (λ e. out (subst (Uses z sel m) e u)) ∙ h.quiet t u; holds = h.holds }

pub safe-sync : {z : ℕ} {sel : ℕ → Bool} {m : ℕ → ℕ} {f : ℕ → List ℕ} {label : List ℕ} {d : Device} → Safe z sel m f label d → Safe z sel m f label (synced d)
safe-sync {d = d} h = record { quiet = λ t u. refl; holds = frame (λ s u. shown-quiet d s (h.quiet s u)) h.holds }

-- what is not taken is left
abbrev pub vacancies : (z : ℕ) → (ℕ → Bool) → ℕ
vacancies z t = count (rooms z) (λ p. not (t p))

room-off : (z : ℕ) (m : ℕ → ℕ) (t : ℕ → Bool) (f : ℕ → List ℕ) → Full z m f → Marks z m t → rooms z ≤ vacancies z t + live (numbers z) f
room-off z m t f fu mk =
    subst (λ n. rooms z ≤ vacancies z t + n) (used-live (numbers z) f f (λ n. inr refl))
    (kept-all (rooms z) (numbers z) (λ p. not (t p)) m m f f (λ p l. go p (t p) refl) (λ k l i. fu k (m k - 1) l (omega arith)) (λ k l i j. absurd (j refl)))
  where
    go : (p : ℕ) (b : Bool) → t p ≡ b → (not (t p) ≡ true) ⊎ (((k : ℕ) × (k < numbers z) × (m k ≡ suc p)) ⊎ ((k : ℕ) × (k < numbers z) × (m k ≡ suc p)))
    go p true e = inr (inl (mk.marks p e))
    go p false e = inl (ap not e)

-- THE STATE OF A CARD WITHOUT POWER
pub record Rested (z : ℕ) (d : Device) (s : State) : Type 0 where
  pub off : Off z d s.synced s.label
  pub lefts : s.left ≡ vacancies z off.taken
  pub nows : (n : ℕ) → s.now n ≡ s.synced n
  pub steady : (n : ℕ) → s.volatile n ≡ false

pub resting : {z : ℕ} {d : Device} {f : ℕ → List ℕ} {label : List ℕ} (o : Off z d f label) → Rested z d (still f label (vacancies z o.taken))
resting o = record { off = o; lefts = refl; nows = λ n. refl; steady = λ n. refl }

pub downs : {z : ℕ} {d : Device} (s : State) (o : Off z d s.synced s.label) → Down z s (still s.synced s.label (vacancies z o.taken))
downs {z = z} s o = Down.leaves s _ (room-off z o.m o.taken s.synced o.full o.marks)

-- what a cut may leave of a call
abbrev pub Cut : ℕ → PageCall → State → Device → Type 0
Cut z c s d = (g : Device) → AfterCut d g → (u : State) × CutIn (kept z) c s u × Rested z g u

-- the same bits, the same map, the same pages
pub ext-uses : {z : ℕ} {sel sel' : ℕ → Bool} {m m' : ℕ → ℕ} {s : ℕ} → ((k : ℕ) → 0 < k → k ≤ last_node z → sel' k ≡ sel k) → ((n : ℕ) → n < numbers z → m' n ≡ m n) → Uses z sel' m' s → Uses z sel m s
ext-uses h i (Uses.root e) = Uses.root e
ext-uses h i (Uses.noded k o l e) = Uses.noded k o l (e ∙ ap (slot k) (h k o l))
ext-uses h i (Uses.paged n p l e a b) = Uses.paged n p l (sym (i n l) ∙ e) a b

pub ext-safe : {z : ℕ} {sel sel' : ℕ → Bool} {m m' : ℕ → ℕ} {f f' : ℕ → List ℕ} {label : List ℕ} {d : Device} →
    ((k : ℕ) → 0 < k → k ≤ last_node z → sel' k ≡ sel k) → ((n : ℕ) → n < numbers z → m' n ≡ m n) → ((n : ℕ) → n < numbers z → f n ≡ f' n) → Safe z sel m f label d → Safe z sel' m' f' label d
ext-safe {z} {sel} {sel'} {m} {m'} {f} {f'} {label} {d} h i j s =
    record {
      quiet = λ t u. s.quiet t (ext-uses h i u);
      holds = record {
        known = s.holds.known;
        labelled = s.holds.labelled;
        rooting = λ b l w. s.holds.rooting b l w ∙ sym (h (child 0 b) (omega arith) w);
        rests = record {
          bitting = λ p o b l w. ap (λ t. bit_at (d.kept (slot p t)) b) (h p o (omega arith)) ∙ (s.holds.rests.bitting p o b l w ∙ sym (h (child p b) (omega arith) w));
          mapping = λ n l. ap (λ t. place_at (d.kept (slot (leaf_of z n) t)) (n % 64)) (h (leaf_of z n) (omega arith) (omega arith)) ∙ (s.holds.rests.mapping n l ∙ sym (i n l));
          paging = λ n l. ap (page_at z d.kept) (i n l) ∙ (s.holds.rests.paging n l ∙ j n l);
        };
      };
    }

-- THE MEMORY, whatever the card holds
pub record Ready (z : ℕ) (now old : ℕ → ℕ) (busy held : ℕ → Bool) (left : ℕ) : Type 0 where
  pub now_sane : Sane z now
  pub old_sane : Sane z old
  pub now_marks : Marks z now busy
  pub old_marks : Marks z old held
  -- a place in both maps is the same page's
  pub joint : (n k p : ℕ) → n < numbers z → k < numbers z → now n ≡ suc p → old k ≡ suc p → n ≡ k
  pub counted : left ≡ count (rooms z) (vacant busy held)

abbrev pub Fine : ℕ → Mem → Type 0
Fine z m = Ready z m.now m.old m.busy m.held m.left

-- WHILE IT RUNS. F: the pages as they are; V: which are volatile; G and label: the pages and the label at the last sync.
pub record Up (z : ℕ) (m : Mem) (d : Device) (F : ℕ → List ℕ) (V : ℕ → Bool) (G : ℕ → List ℕ) (label : List ℕ) : Type 0 where
  pub sized : m.size ≡ z
  pub big : 8192 ≤ z
  pub small : z ≤ 1099511627776
  pub ready : Fine z m
  pub now_full : Full z m.now F
  pub old_full : Full z m.old G
  pub vols : (n : ℕ) → n < numbers z → m.vol n ≡ V n
  -- what is blank is not volatile
  pub blanks : (n : ℕ) → n < numbers z → m.now n ≡ 0 → m.vol n ≡ false
  -- with a node all above it are marked; what is not marked has not changed
  pub closed : Closed (last_node z) m.dirty
  pub clean : (n : ℕ) → n < numbers z → m.dirty (leaf_of z n) ≡ false → durable m n ≡ m.old n
  pub safe : Safe z m.sel m.old G label d
  pub shows : (n : ℕ) → n < numbers z → page_at z (shown d) (m.now n) ≡ F n

abbrev pub UpIn : ℕ → Mem → Device → State → Type 0
UpIn z m d s = Up z m d s.now s.volatile s.synced s.label

-- ONE PAGE OF A MAP IS SET
module _ (z : ℕ) (m : ℕ → ℕ) (n v : ℕ) (l : n < numbers z) (alone : (p : ℕ) → v ≡ suc p → (k : ℕ) → k < numbers z → (k ≡ n → ⊥) → m k ≡ suc p → ⊥) where
  pub set-sane : ((p : ℕ) → v ≡ suc p → home z p + 8 ≤ z) → Sane z m → Sane z (at n v m)
  set-sane on s =
      record {
        apart = λ k j p hk hj.
            by-eq k n (λ b. cond b v (m k) ≡ suc p → cond (eqb j n) v (m j) ≡ suc p → k ≡ j)
            (λ e. by-eq j n (λ b. v ≡ suc p → cond b v (m j) ≡ suc p → k ≡ j) (λ i _ _. e ∙ sym i) (λ i u w. absurd (alone p u j hj i w)))
            (λ e. by-eq j n (λ b. m k ≡ suc p → cond b v (m j) ≡ suc p → k ≡ j) (λ i u w. absurd (alone p w k hk e u)) (λ i u w. s.apart k j p hk hj u w));
        within = λ k p hk. by-eq k n (λ b. cond b v (m k) ≡ suc p → home z p + 8 ≤ z) (λ e u. on p u) (λ e u. s.within k p hk u);
      }

  pub set-marks : (t : ℕ → Bool) → Sane z m → Marks z m t → Marks z (at n v m) (λ p. cond (eqb (suc p) v) true (cond (eqb (suc p) (m n)) false (t p)))
  set-marks t s h =
      record {
        marked = λ k p hk. by-eq k n (λ c. cond c v (m k) ≡ suc p → cond (eqb (suc p) v) true (cond (eqb (suc p) (m n)) false (t p)) ≡ true)
            (λ e u. rw (eq-eqb (suc p) v (sym u)))
            (λ e u. by-eq (suc p) v (λ c. cond c true (cond (eqb (suc p) (m n)) false (t p)) ≡ true) (λ _. refl)
            (λ _. by-eq (suc p) (m n) (λ c. cond c false (t p) ≡ true) (λ i. absurd (e (s.apart k n p hk l u (sym i)))) (λ _. h.marked k p hk u)));
        marks = λ p. by-eq (suc p) v (λ c. cond c true (cond (eqb (suc p) (m n)) false (t p)) ≡ true → (k : ℕ) × (k < numbers z) × (cond (eqb k n) v (m k) ≡ suc p))
            (λ e _. (n, l, rw (eq-eqb n n refl) (sym e)))
            (λ _. by-eq (suc p) (m n) (λ c. cond c false (t p) ≡ true → (k : ℕ) × (k < numbers z) × (cond (eqb k n) v (m k) ≡ suc p)) (λ _ i. absurd (false≢true i))
            (λ c i. let (k, hk, y) = h.marks p i in (k, hk, rw (ne_eqb k n (λ w. c (sym y ∙ ap m w))) y)));
      }

-- THE STATE WHILE IT RUNS
pub record Runs (z : ℕ) (t : Stored) (d : Device) (s : State) : Type 0 where
  pub known : t.known ≡ true
  pub label : t.label ≡ s.label
  pub left : t.mem.left ≡ s.left
  pub up : UpIn z t.mem d s

abbrev pub Ends : ℕ → (c : PageCall) → State → Told c × Stored → Device → Type 0
Ends z c s a e = (t : State) × Answers z c s (replied c a.0) t × Runs z a.1 e t

-- the synced pages are left by a cut
pub stays : {z : ℕ} {m : Mem} {d : Device} {s : State} (u : UpIn z m d s) (c : PageCall) (e : Device) → Safe z m.sel m.old s.synced s.label e → Cut z c s e
stays {s = s} u c e h g a =
    let o = safe-cut u.ready.old_sane u.old_full u.ready.old_marks h a in
    (_, CutIn.lost (downs s o), resting o)
