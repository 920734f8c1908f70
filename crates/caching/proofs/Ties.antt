-- How the tie is kept when one frame changes.
-- Assumes nothing.
use Rattle.std.proofs.Common.{◌≡◌, ℕ, ◌+◌, ◌<◌, ◌≤◌, true, false, ◌⊎◌, List, length, sym, refl, ap, ◌∙◌, inl, inr, arith, length-set}
use mathlib.Core.Path.{fun_ext}
use Rattle.std.proofs.lemmas.Bool.{cases_eq, cases_Bool, both_ways, eq-eqb, ne_eqb}
use Rattle.paging.specs.Layout.{one}
use Rattle.paging.specs.Judge.{State, set_at}
use Rattle.caching.specs.declared.Tag.{Tag}
use Rattle.caching.specs.Frames.{Cache, count, unwritten, tag_at, with_tag, filled, holds, marks}
use Rattle.caching.specs.Tie.{Only, Shows, Still, CacheOn}
use Rattle.caching.proofs.Frames.{Beside, tag-beside, fill-beside, tag-there, marks-set, unmarked}

pub set_there : {A : Type 0} (n : ℕ) (x : A) (f : ℕ → A) → set_at n x f n ≡ x
set_there n x f = rw (eq-eqb n n refl)

pub set_else : {A : Type 0} (n k : ℕ) (x : A) (f : ℕ → A) → (k ≡ n → ⊥) → set_at n x f k ≡ f k
set_else n k x f h = rw (ne_eqb k n h)

-- of two states: page n is the same
pub record Agree (n : ℕ) (s t : State) : Type 0 where
  pub now : t.now n ≡ s.now n
  pub volatile : t.volatile n ≡ s.volatile n

pub agree : (n : ℕ) (s : State) → Agree n s s
agree n s = record { now = refl; volatile = refl }

-- no frame but i has page n
abbrev pub Lone : Cache → ℕ → ℕ → Type 0
Lone m i n = (k : ℕ) → k < count m → (k ≡ i → ⊥) → holds (tag_at m k) n ≡ false

pub lone-found : {z : ℕ} {m : Cache} {s v : State} (i n : ℕ) → i < count m → holds (tag_at m i) n ≡ true → Shows z m s v n → Lone m i n
lone-found {z} {m} i n l h w k j o = elim (cases_Bool (holds (tag_at m k) n)) [ inl e ↦ absurd (go w e) | inr e ↦ e ]
  where
    go : {s v : State} → Shows z m s v n → holds (tag_at m k) n ≡ true → ⊥
    go (Shows.away f a b) e = both_ways _ (f i l) h
    go (Shows.same q y a b c d f) e = o (y.alone k j e ∙ sym (y.alone i l h))
    go (Shows.newer q x y a b c d f) e = o (y.alone k j e ∙ sym (y.alone i l h))

pub only-there : {m t : Cache} (i n : ℕ) → Beside i m t → i < count m → holds (tag_at t i) n ≡ true → Lone m i n → Only t i n
only-there {m} {t} i n d l h f =
    record {
      within = let e = d.size in omega arith;
      has = h;
      alone = λ k j e. elim (cases_eq k i) [ inl x ↦ x | inr x ↦ absurd (both_ways _ (f k (let c = d.size in omega arith) x) (ap (λ g. holds g n) (sym (d.tags k x)) ∙ e)) ];
    }

-- a page that the frame does not have, or that it gives up as it is below
pub beside : {z : ℕ} {m t : Cache} {s v s' v' : State} (i n : ℕ) → Beside i m t → holds (tag_at t i) n ≡ false → (holds (tag_at m i) n ≡ false) ⊎ (unwritten (tag_at m i) ≡ false) → Agree n s s' → Agree n v v' → Shows z m s v n → Shows z t s' v' n
beside {z} {m} {t} {s} {v} {s'} {v'} i n d new old p q (Shows.away f a b) =
    Shows.away (λ k l. elim (cases_eq k i) [ inl x ↦ ap (λ k. holds (tag_at t k) n) x ∙ new | inr x ↦ ap (λ g. holds g n) (d.tags k x) ∙ f k (let c = d.size in omega arith) ]) (q.now ∙ (a ∙ sym p.now))
    (q.volatile ∙ (b ∙ sym p.volatile))
beside {z} {m} {t} {s} {v} {s'} {v'} i n d new old p q (Shows.same j o l u a b c) = elim (cases_eq j i) [ inl x ↦ gone x | inr x ↦ stays x ]
  where
    gone : j ≡ i → Shows z t s' v' n
    gone x =
        Shows.away (λ k l. elim (cases_eq k i) [
          | inl y ↦ ap (λ k. holds (tag_at t k) n) y ∙ new
          | inr y ↦ ap (λ g. holds g n) (d.tags k y) ∙ elim (cases_Bool (holds (tag_at m k) n)) [ inl e ↦ absurd (y (o.alone k (let c = d.size in omega arith) e ∙ x)) | inr e ↦ e ]
        ]) (q.now ∙ (a ∙ (b ∙ sym p.now))) (q.volatile ∙ (c ∙ sym p.volatile))

    stays : (j ≡ i → ⊥) → Shows z t s' v' n
    stays x =
        Shows.same j (record {
          within = let e = d.size in let w = o.within in omega arith;
          has = ap (λ g. holds g n) (d.tags j x) ∙ o.has;
          alone = λ k l e. elim (cases_eq k i) [
            | inl y ↦ absurd (both_ways _ new (ap (λ k. holds (tag_at t k) n) (sym y) ∙ e))
            | inr y ↦ o.alone k (let c = d.size in omega arith) (ap (λ g. holds g n) (sym (d.tags k y)) ∙ e)
          ];
        }) l (d.tags j x ∙ u) (q.now ∙ (a ∙ sym (d.frames j x))) (d.frames j x ∙ (b ∙ sym p.now)) (q.volatile ∙ (c ∙ sym p.volatile))
beside {z} {m} {t} {s} {v} {s'} {v'} i n d new old p q (Shows.newer j w o u y nb a b) = elim (cases_eq j i) [ inl x ↦ absurd (gone x old) | inr x ↦ stays x ]
  where
    gone : j ≡ i → (holds (tag_at m i) n ≡ false) ⊎ (unwritten (tag_at m i) ≡ false) → ⊥
    gone x (inl e) = both_ways _ e (ap (λ k. holds (tag_at m k) n) (sym x) ∙ o.has)
    gone x (inr e) = both_ways _ e (ap (λ k. unwritten (tag_at m k)) (sym x) ∙ ap unwritten u)

    stays : (j ≡ i → ⊥) → Shows z t s' v' n
    stays x =
        Shows.newer j w (record {
          within = let e = d.size in let w = o.within in omega arith;
          has = ap (λ g. holds g n) (d.tags j x) ∙ o.has;
          alone = λ k l e. elim (cases_eq k i) [
            | inl y ↦ absurd (both_ways _ new (ap (λ k. holds (tag_at t k) n) (sym y) ∙ e))
            | inr y ↦ o.alone k (let c = d.size in omega arith) (ap (λ g. holds g n) (sym (d.tags k y)) ∙ e)
          ];
        }) (d.tags j x ∙ u) (rw (d.frames j x) y) (rw (d.frames j x) nb) (q.now ∙ (a ∙ sym (d.frames j x))) (q.volatile ∙ b)

-- the frame i of m has the tag g in t, and all else is as it was but perhaps that frame's bytes
pub record Tagged (i : ℕ) (g : Tag) (m t : Cache) : Type 0 where
  pub beside : Beside i m t
  pub tag : tag_at t i ≡ g
  pub numbers : t.numbers ≡ m.numbers
  pub hand : t.hand ≡ m.hand
  pub tags : length t.tags ≡ length m.tags
  pub marks : marks t + one (unwritten (tag_at m i)) ≡ marks m + one (unwritten g)

pub tagged-tag : (i : ℕ) (g : Tag) (m : Cache) → i < count m → count m ≤ length m.tags → Tagged i g m (with_tag i g m)
tagged-tag i g m l k = record { beside = tag-beside i g m; tag = tag-there i g m l k; numbers = refl; hand = refl; tags = length-set m.tags i g; marks = marks-set (count m) m.tags i g l k }

pub tagged-fill : (i : ℕ) (g : Tag) (b : List ℕ) (m : Cache) → i < count m → count m ≤ length m.tags → Tagged i g m (filled i g b m)
tagged-fill i g b m l k =
    record { beside = fill-beside i g b m; tag = tag-there i g m l k; numbers = refl; hand = refl; tags = length-set m.tags i g; marks = rw (length-set m.frames i b) (marks-set (count m) m.tags i g l k) }

pub tie-tagged : {z : ℕ} {m t : Cache} {s v s' v' : State} (i : ℕ) (g : Tag) → CacheOn z m s v → Tagged i g m t → ((n : ℕ) → Shows z t s' v' n) → Still s' v' → v'.left + marks t ≤ s'.left → CacheOn z t s' v'
tie-tagged {z} {m} {t} i g r d w o l =
    record {
      numbered = d.numbers ∙ r.numbered;
      tagged = let a = d.beside.size in let b = d.tags in let c = r.tagged in omega arith;
      handed = λ h. let a = d.beside.size in let b = d.hand in let c = r.handed (omega arith) in omega arith;
      shows = w;
      still = o;
      left = l;
    }

-- where nothing is marked, all is as below
pub all-now : {z : ℕ} {m : Cache} {s v : State} → CacheOn z m s v → marks m ≡ 0 → v.now ≡ s.now
all-now {z} {m} {s} {v} r e = fun_ext (λ n. go n (r.shows n))
  where
    go : (n : ℕ) → Shows z m s v n → v.now n ≡ s.now n
    go n (Shows.away f a b) = a
    go n (Shows.same i o l u a b c) = a ∙ b
    go n (Shows.newer i w o u y nb a b) = absurd (both_ways _ (unmarked m e i o.within) (ap unwritten u))

pub all-volatile : {z : ℕ} {m : Cache} {s v : State} → CacheOn z m s v → marks m ≡ 0 → v.volatile ≡ s.volatile
all-volatile {z} {m} {s} {v} r e = fun_ext (λ n. go n (r.shows n))
  where
    go : (n : ℕ) → Shows z m s v n → v.volatile n ≡ s.volatile n
    go n (Shows.away f a b) = b
    go n (Shows.same i o l u a b c) = c
    go n (Shows.newer i w o u y nb a b) = absurd (both_ways _ (unmarked m e i o.within) (ap unwritten u))

-- no frame changes
pub agrees : {z : ℕ} {m : Cache} {s v s' v' : State} (n : ℕ) → Agree n s s' → Agree n v v' → Shows z m s v n → Shows z m s' v' n
agrees n p q (Shows.away f a b) = Shows.away f (q.now ∙ (a ∙ sym p.now)) (q.volatile ∙ (b ∙ sym p.volatile))
agrees n p q (Shows.same i o l u a b c) = Shows.same i o l u (q.now ∙ a) (b ∙ sym p.now) (q.volatile ∙ (c ∙ sym p.volatile))
agrees n p q (Shows.newer i w o u y nb a b) = Shows.newer i w o u y nb (q.now ∙ a) (q.volatile ∙ b)

pub tie-states : {z : ℕ} {m : Cache} {s v s' v' : State} → CacheOn z m s v → ((n : ℕ) → Shows z m s' v' n) → Still s' v' → v'.left + marks m ≤ s'.left → CacheOn z m s' v'
tie-states r w o l = record { numbered = r.numbered; tagged = r.tagged; handed = r.handed; shows = w; still = o; left = l }
