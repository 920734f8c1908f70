-- The calls, where the store is up and where it is not.
-- Assumes nothing.
use Rattle.std.proofs.Common.{◌≡◌, ℕ, suc, ◌-◌, ◌<◌, min, max, Bool, true, false, cond, not, ◌&&◌, ◌||◌, eqb, ltb, List, length, Some, None, Option, is_some, sym, refl, ap, ◌∙◌, subst, arith}
use Rattle.std.proofs.lemmas.Bool.{and_parts, false≢true, and_from}
use borrow.Author.Tests.{ltb-true}
use Rattle.device.specs.Flow.{answer, eq, is, Runs}
use Rattle.device.specs.Plays.{Asked, Told, Read, Write}
use Rattle.device.specs.Plays as device
use Rattle.device.specs.Sectors.{all_bytes}
use Rattle.device.proofs.Loops.{taken, left}
use Rattle.paging.specs.Layout.{numbers, child, home}
use Rattle.paging.specs.Pages.{blank_page, same_bytes}
use Rattle.paging.specs.Sectors.{root_sector}
use Rattle.paging.specs.Memory.{Mem, bare, moved, tidied, target, selected, find_blank, spare_from}
use Rattle.paging.specs.Store.{Stored, OnDevice, shut, read_page, place_of, get, reclaim, reclaim_turn, same_pages, put_into, put, volatile, unchanged, sync}
use Rattle.pages.specs.Flags.{as_place, Twice}
use Rattle.pages.specs.Writing.{nodes_written, root_written}
use Rattle.pages.specs.Serving.{stored}

abbrev whole : List ℕ → Mem → Stored
whole l m = record { known = true; label = l; mem = m }

abbrev left_flow : Stored → OnDevice (ℕ × Stored)
left_flow s = answer (cond s.known s.mem.left 0, s)

abbrev spare_flow : ℕ → Stored → OnDevice (ℕ × Stored)
spare_flow from s = answer (spare_from s.mem from, s)

pub label-told : (o : Option (List ℕ)) (m : Mem) → cond (stored o m).known (Some (stored o m).label) None ≡ o
label-told (Some l) m = refl
label-told None m = refl

when-label : (a b : Bool) → a ≡ true → (not a || b) ≡ b
when-label true b e = refl
when-label false b e = absurd (false≢true e)

pub unchanged-is : (o : Option (List ℕ)) (m : Mem) (label l : List ℕ) (d : Bool) → (eqb (length label) 248 && all_bytes label) ≡ true → o ≡ Some l → d ≡ m.dirty 0 → unchanged label (stored o m) ≡ (not d && same_bytes label l)
unchanged-is o m label l d q e f = ap (λ (o : Option (List ℕ)). unchanged label (stored o m)) e ∙ when-label _ _ q ∙ ap (λ (d : Bool). not d && same_bytes label l) (sym f)

spare-shut : (from : ℕ) → 0 ≡ spare_from (bare 0) from
unfolding find_blank
spare-shut from = let e : min (max 1 from) 0 ≡ 0 = omega arith in rw e

-- what holds of each store that is up holds of this one
up : (P : (Mem → Stored) → Type 0) (o : Option (List ℕ)) → is_some o ≡ true → ((l : List ℕ) → P (whole l)) → P (stored o)
up P (Some l) y p = p l
up P None y p = absurd (false≢true y)

down : (P : (Mem → Stored) → Type 0) (o : Option (List ℕ)) → is_some o ≡ false → P (λ m. shut) → P (stored o)
down P (Some l) y p = absurd (false≢true (sym y))
down P None y p = p

-- a page has a place only where the store is up
none : (b : Bool) → ◌≡◌ {A = ℕ} (cond b 0 0) 0
none true = refl
none false = refl

pub up-placed : (o : Option (List ℕ)) (m : Mem) (n v : ℕ) → v ≡ place_of (stored o m).mem n → (v ≡ 0 → ⊥) → is_some o ≡ true
up-placed (Some l) m n v e z = refl
up-placed None m n v e z = absurd (z (e ∙ none (ltb n (numbers 0))))

-- a place is none, or one
is-none : (v : Option ℕ) → is_some v ≡ false → as_place v ≡ 0
is-none (Some p) e = absurd (false≢true (sym e))
is-none None e = refl

not-none : (v : Option ℕ) → is_some v ≡ true → as_place v ≡ 0 → ⊥
not-none (Some p) e z = omega arith
not-none None e z = false≢true e

-- two tests in one
pub had : {a : Bool} {m n : ℕ} → (a && ltb m n) ≡ true → (a ≡ true) × (m < n)
had {a} {m} {n} e = (let p = and_parts a (ltb m n) e in (p.0, ltb-true m n p.1))

not-had : (o : Option (List ℕ)) (m : Mem) (n : ℕ) → (is_some o && ltb n (numbers m.size)) ≡ false → ((stored o m).known && ltb n (numbers (stored o m).mem.size)) ≡ false
not-had (Some l) m n e = e
not-had None m n e = refl

module _ {S : Type 0} (steps : S → (c : Asked) → Told c → S → Type 0) where
  up-runs : {A : Type 0} (F : Stored → OnDevice (A × Stored)) (o : Option (List ℕ)) (m t : Mem) (d e : S) (r : A) → is_some o ≡ true → ((l : List ℕ) → Runs steps (F (whole l m)) d e (r, whole l t)) → Runs steps (F (stored o m)) d e (r, stored o t)
  up-runs F o m t d e r y p = up (λ s. Runs steps (F (s m)) d e (r, s t)) o y p

  down-runs : {A : Type 0} (F : Stored → OnDevice (A × Stored)) (o : Option (List ℕ)) (m : Mem) (d e : S) (r : A) → is_some o ≡ false → Runs steps (F shut) d e (r, shut) → Runs steps (F (stored o m)) d e (r, stored o m)
  down-runs F o m d e r y p = down (λ s. Runs steps (F (s m)) d e (r, s m)) o y p

  module _ (o : Option (List ℕ)) (m : Mem) (d : S) where
    -- GET
    pub get-blank : (n : ℕ) (page : List ℕ) → place_of (stored o m).mem n ≡ 0 → page ≡ blank_page → Runs steps (get n (stored o m)) d d (page, stored o m)
    get-blank n page e f = taken (eq _ _) e (refl, λ j. (sym f j, stored o m))

    pub get-read : (n p h : ℕ) (page : List ℕ) (t : S) → suc p ≡ place_of (stored o m).mem n → h ≡ home m.size p → Runs steps (read_page h) d t page → Runs steps (get n (stored o m)) d t (page, stored o m)
    get-read n p h page t e eh r =
        up (λ s. suc p ≡ place_of (s m).mem n → Runs steps (get n (s m)) d t (page, s m)) o (up-placed o m n (suc p) e (λ i. omega arith))
        (λ l f. let q : p ≡ place_of m n - 1 = omega arith in
        left (eq _ _) (λ i. omega arith) (page, t, subst (λ (h : ℕ). Runs steps (read_page h) d t page) (eh ∙ ap (home m.size) q) r, (refl, refl)))
        e

    -- LEFT and SPARE
    pub left_up : is_some o ≡ true → Runs steps (left_flow (stored o m)) d d (m.left, stored o m)
    left_up y = up-runs left_flow o m m d d m.left y (λ l. (refl, refl))

    pub left_down : is_some o ≡ false → Runs steps (left_flow (stored o m)) d d (0, stored o m)
    left_down y = down-runs left_flow o m d d 0 y (refl, refl)

    pub spare-up : (from r : ℕ) → is_some o ≡ true → r ≡ spare_from m from → Runs steps (spare_flow from (stored o m)) d d (r, stored o m)
    spare-up from r y e = up-runs (spare_flow from) o m m d d r y (λ l. (refl, λ j. (sym e j, whole l m)))

    pub spare-down : (from : ℕ) → is_some o ≡ false → Runs steps (spare_flow from (stored o m)) d d (0, stored o m)
    spare-down from y = down-runs (spare_flow from) o m d d 0 y (refl, λ j. (sym (spare-shut from) j, shut))

    -- VOLATILE
    pub volatile-none : (n : ℕ) → (is_some o && ltb n (numbers m.size)) ≡ false → Runs steps (volatile n (stored o m)) d d (false, stored o m)
    volatile-none n y = left (is _) (not-had o m n y) (refl, refl)

    pub volatile-blank : (n : ℕ) (v : Option ℕ) → (is_some o && ltb n (numbers m.size)) ≡ true → as_place v ≡ m.now n → is_some v ≡ false → Runs steps (volatile n (stored o m)) d d (true, stored o m)
    volatile-blank n v y e z = up-runs (volatile n) o m m d d true (and_parts _ _ y).0 (λ l. taken (is _) (and_parts _ _ y).1 (taken (eq _ _) (sym e ∙ is-none v z) (refl, refl)))

    pub volatile-moved : (n : ℕ) (v : Option ℕ) (t : Mem) → (is_some o && ltb n (numbers m.size)) ≡ true → as_place v ≡ m.now n → is_some v ≡ true → t ≡ moved n (as_place v) true m → Runs steps (volatile n (stored o m)) d d (true, stored o t)
    volatile-moved n v t y e z f =
        let g : t ≡ moved n (m.now n) true m = f ∙ ap (λ (v : ℕ). moved n v true m) e in
        up-runs (volatile n) o m t d d true (and_parts _ _ y).0 (λ l. taken (is _) (and_parts _ _ y).1 (left (eq _ _) (λ i. not-none v z (e ∙ i)) (refl, λ j. (true, whole l (sym g j)))))

    -- PUT, into a place
    -- PUT
    module _ (n : ℕ) (b : List ℕ) (w : Bool) (y : (is_some o && ltb n (numbers m.size)) ≡ true) (q : (eqb (length b) 4096 && all_bytes b) ≡ true) where
      able : (ltb n (numbers m.size) && (eqb (length b) 4096 && all_bytes b)) ≡ true
      able = and_from _ _ (and_parts _ _ y).1 q

      pub put-blank : (t : Mem) (c : Bool) → c ≡ same_bytes b blank_page → c ≡ true → t ≡ moved n 0 false m → Runs steps (put n b w (stored o m)) d d (true, stored o t)
      put-blank t c z x f = up-runs (put n b w) o m t d d true (and_parts _ _ y).0 (λ l. taken (is _) able (taken (is _) (sym z ∙ x) (refl, λ j. (true, whole l (sym f j)))))

      module _ (c : Bool) (z : c ≡ same_bytes b blank_page) (k : c ≡ false) (v : Option ℕ) (f : as_place v ≡ target m (m.now n)) where
        pub put-near : (e : S) (x : Bool × Stored) → is_some v ≡ true → Runs steps (put_into n b w (stored o m) m (as_place v)) d e x → Runs steps (put n b w (stored o m)) d e x
        put-near e x i r =
            up (λ s. Runs steps (put_into n b w (s m) m (as_place v)) d e x → Runs steps (put n b w (s m)) d e x) o (and_parts _ _ y).0
            (λ l r. taken (is _) able (left (is _) (sym z ∙ k) (left (eq _ _) (λ j. not-none v i (f ∙ j)) (subst (λ (v : ℕ). Runs steps (put_into n b w (whole l m) m v) d e x) f r))))
            r

        pub put-far : (o' : Option (List ℕ)) (p : Option ℕ) (e g : S) (t : Mem) (x : Bool × Stored) → is_some v ≡ false → o' ≡ o → Runs steps (reclaim m) d e t → as_place p ≡ target t (t.now n) →
            Runs steps (put_into n b w (stored o' t) t (as_place p)) e g x → Runs steps (put n b w (stored o m)) d g x
        put-far o' p e g t x i eo r h q =
            up (λ s. Runs steps (put_into n b w (s t) t (as_place p)) e g x → Runs steps (put n b w (s m)) d g x) o (and_parts _ _ y).0
            (λ l q. taken (is _) able (left (is _) (sym z ∙ k) (taken (eq _ _) (sym f ∙ is-none v i) (t, e, r, subst (λ (i : ℕ). Runs steps (put_into n b w (whole l t) t i) e g x) h q))))
            (subst (λ (o : Option (List ℕ)). Runs steps (put_into n b w (stored o t) t (as_place p)) e g x) eo q)

    -- SYNC
    pub sync-same : (label : List ℕ) → unchanged label (stored o m) ≡ true → Runs steps (sync label (stored o m)) d d (tt, stored o m)
    sync-same label z = taken (is _) z (refl, refl)

    pub sync-done : (label root : List ℕ) (t : Mem) (d1 d2 : S) → unchanged label (stored o m) ≡ false → Runs steps (nodes_written m) d d1 tt → root ≡ root_sector label (λ b. selected m (child 0 b)) →
        Runs steps (root_written root) d1 d2 tt → t ≡ tidied m → Runs steps (sync label (stored o m)) d d2 (tt, stored (Some label) t)
    sync-done label root t d1 d2 z (_, e1, r, (_, e2, s1, (f1, _))) er (_, e3, w, (_, e4, s2, (f2, _))) f =
        up (λ s. unchanged label (s m) ≡ false → Runs steps (sync label (s m)) d d2 (tt, whole label t)) o (kept-up o z)
        (λ l z. left (is _) z
        (tt, e1, r, (tt, d1, subst (λ (x : S). steps e1 device.Sync tt x) f1 s1, (tt, e3, subst (λ (bs : List ℕ). steps d1 (Write 0 bs) tt e3) er w, (tt, d2, subst (λ (x : S). steps e3 device.Sync tt x) f2 s2, (refl, λ j. (tt, whole label (sym f j))))))))
        z
      where
        kept-up : (o : Option (List ℕ)) → unchanged label (stored o m) ≡ false → is_some o ≡ true
        kept-up (Some l) z = refl
        kept-up None z = absurd (false≢true (sym z))

-- A PAGE IS RECLAIMED
module _ {S : Type 0} (steps : S → (c : Asked) → Told c → S → Type 0) (m : Mem) (d : S) (n : ℕ) where
  module _ (p q a b : ℕ) (e : S) (y : Twice m n (Some (p, q))) (ea : a ≡ home m.size p) (eb : b ≡ home m.size q) (r : Bool) (s : Runs steps (same_pages a b) d e r) where
    compared : Runs steps (same_pages (home m.size (m.now n - 1)) (home m.size (m.old n - 1))) d e r
    compared =
        let i : p ≡ m.now n - 1 = omega (arith, y.1) in
        let j : q ≡ m.old n - 1 = omega (arith, y.2) in
        subst (λ (a : ℕ). Runs steps (same_pages a (home m.size (m.old n - 1))) d e r) (ea ∙ ap (home m.size) i) (subst (λ (b : ℕ). Runs steps (same_pages a b) d e r) (eb ∙ ap (home m.size) j) s)

    pub reclaim-same : r ≡ true → (t : Mem) (w : Bool) → w ≡ m.vol n → t ≡ moved n (suc q) w m → Runs steps (reclaim_turn n m) d e t
    reclaim-same h t w ew et = taken (is _) y.0 (r, e, compared, taken (is _) h (refl, sym (et ∙ (λ j. moved n (sym y.2 j) (ew j) m))))

    pub reclaim-apart : r ≡ false → Runs steps (reclaim_turn n m) d e m
    reclaim-apart h = taken (is _) y.0 (r, e, compared, left (is _) h (refl, refl))
