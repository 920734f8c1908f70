-- A logic of programs that may be cut: Q holds wherever the power may fail, R at the end, and nothing but the device is touched. With rules for loops, and for the 8 sectors of a page.
-- Assumes nothing.
use Rattle.std.proofs.Common.{◌≡◌, ℕ, zero, suc, ◌+◌, ◌-◌, ◌*◌, ◌<◌, ◌≤◌, Bool, true, false, cond, T, eqb, ◌⊎◌, List, [], ◌∷◌, ◌++◌, length, take, drop, sym, refl, ap, ◌∙◌, subst, subst₂, inl, inr, arith, length-append, length-drop, length-take, take_all, take_at, take-add, drop_at}
use mathlib.Core.List.Memᴰ
use mathlib.Core.List.{Memᴰ}
use lib.ListN.{length-replicate}
use Rattle.std.specs.List.{between}
use Rattle.std.proofs.lemmas.Bool.{eqb-true, eqb-false, eq-eqb, ne_eqb, cases_eq, false≢true, true≢false}
use Rattle.device.specs.Sectors.{Device, blank_device, shown, latest, written, synced, AfterCut, all_bytes}
use Rattle.device.specs.Program.{Io, answer, read, write, sync, run, Upto, Fair, and_then}
use Rattle.device.specs.Flow.{Flow, Turn, on, out, turns, tries, loop, go, past}
use Rattle.device.specs.Plays.{io_of}
use Rattle.paging.specs.Pages.{same_bytes}
use Rattle.paging.specs.Store.{OnDevice, read_turn, read_page, write_turn, write_page, same_turn, same_pages}
use Rattle.paging.proofs.Coding.{same, not_same, bytes_take, bytes_drop}

pub by-eq : (k n : ℕ) (C : Bool → Type 0) → (k ≡ n → C true) → ((k ≡ n → ⊥) → C false) → C (eqb k n)
by-eq k n C f g = go (eqb k n) refl
  where
    go : (b : Bool) → eqb k n ≡ b → C b
    go true e = f (eqb-true k n e)
    go false e = g (eqb-false k n e)

-- SECTORS
pub kept-quiet : {d g : Device} (s : ℕ) → AfterCut d g → d.since s ≡ [] → g.kept s ≡ d.kept s
kept-quiet {d} {g} s a q = go (a.each s)
  where
    go : (g.kept s ≡ d.kept s) ⊎ Memᴰ (g.kept s) (d.since s) → g.kept s ≡ d.kept s
    go (inl e) = e
    go (inr i) = absurd (Memᴰ.not-nil (rw q at i))

pub shown-quiet : (d : Device) (s : ℕ) → d.since s ≡ [] → shown d s ≡ d.kept s
unfolding latest
shown-quiet d s q = rw q

pub shown-same : (s : ℕ) (b : List ℕ) (d : Device) → shown (written s b d) s ≡ b
unfolding latest
shown-same s b d = rw (eq-eqb s s refl)

pub since-other : (s t : ℕ) (b : List ℕ) (d : Device) → (t ≡ s → ⊥) → (written s b d).since t ≡ d.since t
since-other s t b d h = rw (ne_eqb t s h)

pub shown-other : (s t : ℕ) (b : List ℕ) (d : Device) → (t ≡ s → ⊥) → shown (written s b d) t ≡ shown d t
shown-other s t b d h = rw (ne_eqb t s h)

-- what n sectors hold, one after the other
unfoldable pub sectors : ℕ → ℕ → (ℕ → List ℕ) → List ℕ
sectors zero s c = []
sectors (suc n) s c = sectors n s c ++ c (s + n)

pub sectors-ext : (n s : ℕ) (c e : ℕ → List ℕ) → ((t : ℕ) → s ≤ t → t < s + n → e t ≡ c t) → sectors n s e ≡ sectors n s c
unfolding sectors
sectors-ext zero s c e h = refl
sectors-ext (suc n) s c e h =
    let x : e (s + n) ≡ c (s + n) = h (s + n) (omega arith) (omega arith) in
    let y : sectors n s e ≡ sectors n s c = sectors-ext n s c e (λ t p q. h t (omega arith) (omega arith)) in
    λ i. y i ++ x i

sectors-join : (n s t : ℕ) (c : ℕ → List ℕ) → ((j : ℕ) → j < n → c (s + j) ≡ c (t + j)) → sectors n s c ≡ sectors n t c
unfolding sectors
sectors-join zero s t c h = refl
sectors-join (suc n) s t c h =
    let y = sectors-join n s t c (λ j l. h j (omega arith)) in
    let x = h n (omega arith) in
    λ i. y i ++ x i

sectors-length : (n s : ℕ) (c : ℕ → List ℕ) → ((k : ℕ) → length (c k) ≡ 512) → length (sectors n s c) ≡ 512 * n
unfolding sectors
sectors-length zero s c w = refl
sectors-length (suc n) s c w = length-append (sectors n s c) (c (s + n)) ∙ (let a = sectors-length n s c w in let b = w (s + n) in omega arith)

-- whole sectors that hold the same together hold the same each
sectors-apart : (n s t : ℕ) (c : ℕ → List ℕ) → ((k : ℕ) → length (c k) ≡ 512) → sectors n s c ≡ sectors n t c → (j : ℕ) → j < n → c (s + j) ≡ c (t + j)
unfolding sectors
sectors-apart zero s t c w e j l = absurd (omega arith)
sectors-apart (suc n) s t c w e j l =
    let a = sectors-length n s c w in
    let b = sectors-length n t c w in
    let front : sectors n s c ≡ sectors n t c = sym (take_at (sectors n s c) (c (s + n)) (512 * n) a) ∙ (ap (take (512 * n)) e ∙ take_at (sectors n t c) (c (t + n)) (512 * n) b) in
    let back : c (s + n) ≡ c (t + n) = sym (drop_at (sectors n s c) (c (s + n)) (512 * n) a) ∙ (ap (drop (512 * n)) e ∙ drop_at (sectors n t c) (c (t + n)) (512 * n) b) in
    elim (cases_eq j n) [ inl i ↦ ap (λ k. c (s + k)) i ∙ (back ∙ ap (λ k. c (t + k)) (sym i)) | inr i ↦ sectors-apart n s t c w front j (omega arith) ]

sectors-are : (n s : ℕ) (c : ℕ → List ℕ) (page : List ℕ) → ((j : ℕ) → j < n → c (s + j) ≡ between (j * 512) ((j + 1) * 512) page) → sectors n s c ≡ take (512 * n) page
unfolding sectors
sectors-are zero s c page h = refl
sectors-are (suc n) s c page h =
    let a = sectors-are n s c page (λ j l. h j (omega arith)) in
    let b = h n (omega arith) in
    let p : (n + 1) * 512 - n * 512 ≡ 512 = omega arith in
    let q : n * 512 ≡ 512 * n = omega arith in
    let r : 512 * n + 512 ≡ 512 * suc n = omega arith in
    (λ i. a i ++ b i) ∙ ((λ i. take (512 * n) page ++ take (p i) (drop (q i) page)) ∙ (sym (take-add (512 * n) 512 page) ∙ ap (λ k. take k page) r))

-- A device of whole sectors.
abbrev pub Whole : Device → Type 0
Whole d = (s : ℕ) → (length (d.kept s) ≡ 512) × ((b : List ℕ) → Memᴰ b (d.since s) → length b ≡ 512)

latest-whole : (k : List ℕ) (l : List (List ℕ)) → length k ≡ 512 → ((b : List ℕ) → Memᴰ b l → length b ≡ 512) → length (latest k l) ≡ 512
unfolding latest
latest-whole k [] h g = h
latest-whole k (b ∷ l) h g = g b (Memᴰ.head refl)

pub whole-shown : (d : Device) → Whole d → (s : ℕ) → length (shown d s) ≡ 512
whole-shown d w s = latest-whole (d.kept s) (d.since s) (w s).0 (w s).1

pub whole-write : (s : ℕ) (b : List ℕ) (d : Device) → length b ≡ 512 → Whole d → Whole (written s b d)
whole-write s b d l w t = (
  (w t).0,
  λ x. by-eq t s (λ (c : Bool). Memᴰ x (cond c (b ∷ d.since s) (d.since t)) → length x ≡ 512) (λ _ i. elim (Memᴰ.cases_cons i) [ inl e ↦ ap length e ∙ l | inr j ↦ (w s).1 x j ]) (λ _ i. (w t).1 x i),
)

pub whole-sync : (d : Device) → Whole d → Whole (synced d)
whole-sync d w s = (whole-shown d w s, λ b i. absurd (Memᴰ.not-nil i))

pub whole-cut : {d g : Device} → AfterCut d g → Whole d → Whole g
whole-cut {d} {g} a w s = (elim (a.each s) [ inl e ↦ ap length e ∙ (w s).0 | inr i ↦ (w s).1 (g.kept s) i ], λ b i. absurd (Memᴰ.not-nil (subst (Memᴰ b) (a.nothing s) i)))

pub whole-blank : Whole blank_device
whole-blank s = (length-replicate {A = ℕ} 512 0, λ b i. absurd (Memᴰ.not-nil i))

-- PROGRAMS
pub data Wp {A : Type 0} (size : ℕ) (Q : Device → Type 0) (R : A → Device → Type 0) : Io A → Device → Type 0 where
  ends : {a : A} {d : Device} → Q d → R a d → Wp size Q R (answer a) d
  reads : {s : ℕ} {k : List ℕ → Io A} {d : Device} → Q d → s < size → Wp size Q R (k (shown d s)) d → Wp size Q R (read s k) d
  writes : {s : ℕ} {b : List ℕ} {p : Io A} {d : Device} → Q d → s < size → length b ≡ 512 → T (all_bytes b) → Wp size Q R p (written s b d) → Wp size Q R (write s b p) d
  syncs : {p : Io A} {d : Device} → Q d → Wp size Q R p (synced d) → Wp size Q R (sync p) d

module _ {A : Type 0} {size : ℕ} {Q : Device → Type 0} {R : A → Device → Type 0} where
  pub wp-run : {p : Io A} {d : Device} → Wp size Q R p d → R (run p d).value (run p d).device
  unfolding run
  wp-run (Wp.ends q r) = r
  wp-run (Wp.reads q l w) = wp-run w
  wp-run (Wp.writes q l e b w) = wp-run w
  wp-run (Wp.syncs q w) = wp-run w

  pub wp-here : {p : Io A} {d : Device} → Wp size Q R p d → Q d
  wp-here (Wp.ends q r) = q
  wp-here (Wp.reads q l w) = q
  wp-here (Wp.writes q l e b w) = q
  wp-here (Wp.syncs q w) = q

  pub wp-upto : {p : Io A} {d e : Device} → Upto p d e → Wp size Q R p d → Q e
  wp-upto Upto.here w = wp-here w
  wp-upto (Upto.reads u) (Wp.reads q l w) = wp-upto u w
  wp-upto (Upto.writes u) (Wp.writes q l e b w) = wp-upto u w
  wp-upto (Upto.syncs u) (Wp.syncs q w) = wp-upto u w

  pub wp-fair : {p : Io A} {d : Device} → Wp size Q R p d → Fair size p d
  wp-fair (Wp.ends {a = a} {d = d} q r) = Fair.ends a d
  wp-fair (Wp.reads q l w) = Fair.reads l (wp-fair w)
  wp-fair (Wp.writes q l e b w) = Fair.writes l e b (wp-fair w)
  wp-fair (Wp.syncs q w) = Fair.syncs (wp-fair w)

  -- sectors stay whole
  pub wp-whole : {p : Io A} {d : Device} → Whole d → Wp size Q R p d → Wp size (λ e. Whole e × Q e) (λ a e. Whole e × R a e) p d
  wp-whole h (Wp.ends q r) = Wp.ends (h, q) (h, r)
  wp-whole h (Wp.reads q l w) = Wp.reads (h, q) l (wp-whole h w)
  wp-whole h (Wp.writes {s = s} {b = b} {d = d} q l e y w) = Wp.writes (h, q) l e y (wp-whole (whole-write s b d e h) w)
  wp-whole h (Wp.syncs {d = d} q w) = Wp.syncs (h, q) (wp-whole (whole-sync d h) w)

  pub wp-cond : (b : Bool) {p q : Io A} {d : Device} → (b ≡ true → Wp size Q R p d) → (b ≡ false → Wp size Q R q d) → Wp size Q R (cond b p q) d
  wp-cond true f g = f refl
  wp-cond false f g = g refl

-- the answer by another name
pub wp-map : {A B : Type 0} {size : ℕ} {Q Q' : Device → Type 0} {R : A → Device → Type 0} {R' : B → Device → Type 0} (g : A → B) → ((d : Device) → Q d → Q' d) → ((a : A) (d : Device) → R a d → R' (g a) d) →
    {p : Io A} {d : Device} → Wp size Q R p d → Wp size Q' R' (and_then p (λ x. answer (g x))) d
unfolding and_then
wp-map g h k (Wp.ends q r) = Wp.ends (h _ q) (k _ _ r)
wp-map g h k (Wp.reads q l w) = Wp.reads (h _ q) l (wp-map g h k w)
wp-map g h k (Wp.writes q l e b w) = Wp.writes (h _ q) l e b (wp-map g h k w)
wp-map g h k (Wp.syncs q w) = Wp.syncs (h _ q) (wp-map g h k w)

-- more is known than is asked
pub wp-weaker : {A : Type 0} {size : ℕ} {Q : Device → Type 0} {R R' : A → Device → Type 0} → ((a : A) (d : Device) → R a d → R' a d) → {p : Io A} {d : Device} → Wp size Q R p d → Wp size Q R' p d
wp-weaker k (Wp.ends q r) = Wp.ends q (k _ _ r)
wp-weaker k (Wp.reads q l w) = Wp.reads q l (wp-weaker k w)
wp-weaker k (Wp.writes q l e b w) = Wp.writes q l e b (wp-weaker k w)
wp-weaker k (Wp.syncs q w) = Wp.syncs q (wp-weaker k w)

-- one program after another
pub wp-then : {A B : Type 0} {size : ℕ} {Q : Device → Type 0} {R : A → Device → Type 0} {R' : B → Device → Type 0} (f : A → Io B) → ((a : A) (d : Device) → R a d → Wp size Q R' (f a) d) →
    {p : Io A} {d : Device} → Wp size Q R p d → Wp size Q R' (and_then p f) d
unfolding and_then
wp-then f k (Wp.ends q r) = k _ _ r
wp-then f k (Wp.reads q l w) = Wp.reads q l (wp-then f k w)
wp-then f k (Wp.writes q l e b w) = Wp.writes q l e b (wp-then f k w)
wp-then f k (Wp.syncs q w) = Wp.syncs q (wp-then f k w)

-- LOOPS, by an invariant
module _ {A : Type 0} {size : ℕ} {Q : Device → Type 0} (f : ℕ → A → OnDevice A) (Inv : ℕ → A → Device → Type 0) (here : (i : ℕ) (x : A) (e : Device) → Inv i x e → Q e) where
  pub wp-turns : (n : ℕ) → ((i : ℕ) (x : A) (e : Device) → i < n → Inv i x e → Wp size Q (Inv (suc i)) (io_of (f i x)) e) → (a : A) (d : Device) → Inv 0 a d → Wp size Q (Inv n) (io_of (turns n f a)) d
  unfolding turns io_of
  wp-turns zero st a d i = Wp.ends (here 0 a d i) i
  wp-turns (suc n) st a d i = wp-then (λ x. io_of (f n x)) (λ x e j. st n x e (omega arith) j) (wp-turns n (λ i x e l. st i x e (omega arith)) a d i)

abbrev Either : {A B : Type 0} → (A → Device → Type 0) → (B → Device → Type 0) → Turn A B → Device → Type 0
Either I R (on x) e = I x e
Either I R (out y) e = R y e

module _ {A B : Type 0} {size : ℕ} {Q : Device → Type 0} (f : ℕ → A → OnDevice (Turn A B)) (Inv : ℕ → A → Device → Type 0) (R : B → Device → Type 0) (here : (i : ℕ) (x : A) (e : Device) → Inv i x e → Q e) (there : (y : B) (e : Device) → R y e → Q e) where
  wp-tries : (n : ℕ) → ((i : ℕ) (x : A) (e : Device) → i < n → Inv i x e → Wp size Q (Either (Inv (suc i)) R) (io_of (f i x)) e) → (a : A) (d : Device) → Inv 0 a d → Wp size Q (Either (Inv n) R) (io_of (tries n f a)) d
  unfolding tries io_of
  wp-tries zero st a d i = Wp.ends (here 0 a d i) i
  wp-tries (suc n) st a d i = wp-then (λ x. io_of (go (f n) x)) next (wp-tries n (λ i x e l. st i x e (omega arith)) a d i)
    where
      next : (x : Turn A B) (e : Device) → Either (Inv n) R x e → Wp size Q (Either (Inv (suc n)) R) (io_of (go (f n) x)) e
      next (on x) e j = st n x e (omega arith) j
      next (out y) e j = Wp.ends (there y e j) j

  pub wp-loop : (n : ℕ) (k : A → OnDevice B) → ((i : ℕ) (x : A) (e : Device) → i < n → Inv i x e → Wp size Q (Either (Inv (suc i)) R) (io_of (f i x)) e) → ((x : A) (e : Device) → Inv n x e → Wp size Q R (io_of (k x)) e) →
      (a : A) (d : Device) → Inv 0 a d → Wp size Q R (io_of (loop n f a k)) d
  unfolding loop io_of
  wp-loop n k st en a d i = wp-then (λ x. io_of (past k x)) next (wp-tries n st a d i)
    where
      next : (x : Turn A B) (e : Device) → Either (Inv n) R x e → Wp size Q R (io_of (past k x)) e
      next (on x) e j = en x e j
      next (out y) e j = Wp.ends (there y e j) j

-- PAGES
abbrev Reads : ℕ → Device → ℕ → List ℕ → Device → Type 0
Reads from d i page e = (d ≡ e) × (page ≡ sectors i from (shown d))

pub wp-read_page : {A : Type 0} {size : ℕ} {Q : Device → Type 0} {R : A → Device → Type 0} (from : ℕ) (d : Device) → from + 8 ≤ size → Q d → (k : List ℕ → Io A) → Wp size Q R (k (sectors 8 from (shown d))) d → Wp size Q R (and_then (io_of (read_page from)) k) d
unfolding sectors io_of
wp-read_page {A} {size} {Q} {R} from d h q k w =
    wp-then k (λ page e i. subst₂ (λ e p. Wp size Q R (k p) e) i.0 (sym i.1) w)
    (wp-turns (read_turn from) (Reads from d) (λ i x e j. subst Q j.0 q) 8
    (λ i x e l j. Wp.reads (subst Q j.0 q) (omega arith) (Wp.ends (subst Q j.0 q) (j.0, λ t. j.1 t ++ shown (sym j.0 t) (from + i)))) [] d (refl, refl))

-- so many sectors of a page have been written, and I has been kept up
record Wrote (I : Device → Type 0) (from : ℕ) (page : List ℕ) (d : Device) (i : ℕ) (x : Unit {0}) (e : Device) : Type 0 where
  inv : I e
  others : (t : ℕ) → (t < from) ⊎ (from + i ≤ t) → shown e t ≡ shown d t
  done : (j : ℕ) → j < i → shown e (from + j) ≡ between (j * 512) ((j + 1) * 512) page

pub wp-write_page : {A : Type 0} {size : ℕ} {Q : Device → Type 0} {R : A → Device → Type 0} (I : Device → Type 0) → ((d : Device) → I d → Q d) → (from : ℕ) (page : List ℕ) (d : Device) →
    ((t : ℕ) (x : List ℕ) (e : Device) → from ≤ t → t < from + 8 → I e → I (written t x e)) → from + 8 ≤ size → length page ≡ 4096 → T (all_bytes page) → I d →
    (p : Io A) → ((e : Device) → I e → ((t : ℕ) → (t < from) ⊎ (from + 8 ≤ t) → shown e t ≡ shown d t) → sectors 8 from (shown e) ≡ page → Wp size Q R p e) →
    Wp size Q R (and_then (io_of (write_page from page)) (λ _. p)) d
unfolding io_of
wp-write_page {A} {size} {Q} {R} I here from page d st h l y i p k =
    wp-then (λ _. p) (λ _ e w. k e w.inv w.others (sectors-are 8 from (shown e) page w.done ∙ take_all 4096 page (omega arith)))
    (wp-turns (write_turn from page) (Wrote I from page d) (λ i x e w. here e w.inv) 8 turn tt d (record { inv = i; others = λ t _. refl; done = λ j l. absurd (omega arith) }))
  where
    wider : (i t : ℕ) → (t < from) ⊎ (from + suc i ≤ t) → (t < from) ⊎ (from + i ≤ t)
    wider i t (inl r) = inl r
    wider i t (inr r) = inr (omega arith)

    apart : (i t : ℕ) → (t < from) ⊎ (from + suc i ≤ t) → t ≡ from + i → ⊥
    apart i t (inl r) e = omega arith
    apart i t (inr r) e = omega arith

    turn : (i : ℕ) (x : Unit {0}) (e : Device) → i < 8 → Wrote I from page d i x e → Wp size Q (Wrote I from page d (suc i)) (io_of (write_turn from page i x)) e
    turn i x e b w =
        Wp.writes (here e w.inv) (omega arith) (length-take ((i + 1) * 512 - i * 512) (drop (i * 512) page) ∙ (let a = length-drop (i * 512) page in omega arith)) (bytes_take ((i + 1) * 512 - i * 512) (drop (i * 512) page) (bytes_drop (i * 512) page y))
        (Wp.ends (here _ (st (from + i) _ e (omega arith) (omega arith) w.inv))
        (record {
          inv = st (from + i) _ e (omega arith) (omega arith) w.inv;
          others = λ t o. shown-other (from + i) t _ e (apart i t o) ∙ w.others t (wider i t o);
          done = λ j a. elim (cases_eq j i) [
            | inl c ↦ subst (λ j. shown (written (from + i) (between (i * 512) ((i + 1) * 512) page) e) (from + j) ≡ between (j * 512) ((j + 1) * 512) page) (sym c) (shown-same (from + i) _ e)
            | inr c ↦ shown-other (from + i) (from + j) _ e (omega arith) ∙ w.done j (omega arith)
          ];
        }))

-- two pages are compared
abbrev Alike : ℕ → ℕ → Device → ℕ → Unit {0} → Device → Type 0
Alike a b d i x e = (d ≡ e) × ((j : ℕ) → j < i → shown d (a + j) ≡ shown d (b + j))

abbrev pub Compared : ℕ → ℕ → Device → Bool → Device → Type 0
Compared a b d r e = (d ≡ e) × (r ≡ true → sectors 8 a (shown d) ≡ sectors 8 b (shown d)) × (r ≡ false → sectors 8 a (shown d) ≡ sectors 8 b (shown d) → ⊥)

pub wp-same_pages : {size : ℕ} {Q : Device → Type 0} (a b : ℕ) (d : Device) → a + 8 ≤ size → b + 8 ≤ size → Whole d → Q d → Wp size Q (Compared a b d) (io_of (same_pages a b)) d
unfolding io_of
wp-same_pages {size} {Q} a b d h g w q =
    wp-loop (same_turn a b) (Alike a b d) (Compared a b d) (λ i x e j. subst Q j.0 q) (λ r e j. subst Q j.0 q) 8 (λ _. Flow.answer true)
    (λ i x e l j. subst (λ e. Wp size Q (Either (Alike a b d (suc i)) (Compared a b d)) (io_of (same_turn a b i x)) e) j.0 (turn i x l j.1))
    (λ x e j. Wp.ends (subst Q j.0 q) (j.0, (λ _. sectors-join 8 a b (shown d) j.1), λ z. absurd (true≢false z))) tt d (refl, λ j l. absurd (omega arith))
  where
    turn : (i : ℕ) (x : Unit {0}) → i < 8 → ((j : ℕ) → j < i → shown d (a + j) ≡ shown d (b + j)) → Wp size Q (Either (Alike a b d (suc i)) (Compared a b d)) (io_of (same_turn a b i x)) d
    turn i x l j =
        Wp.reads q (omega arith) (Wp.reads q (omega arith)
        (wp-cond (same_bytes (shown d (a + i)) (shown d (b + i)))
        (λ s. Wp.ends q (refl, λ k o. elim (cases_eq k i) [ inl c ↦ ap (λ k. shown d (a + k)) c ∙ (same _ _ s ∙ ap (λ k. shown d (b + k)) (sym c)) | inr c ↦ j k (omega arith) ]))
        (λ s. Wp.ends q (refl, (λ z. absurd (false≢true z)), λ _ z. not_same _ _ s (sectors-apart 8 a b (shown d) (whole-shown d w) z i l)))))
