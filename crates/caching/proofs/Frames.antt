-- Frames: which has a page, how many are marked, and one that changes.
-- Assumes nothing.
use Rattle.std.proofs.Common.{◌≡◌, ℕ, zero, suc, ◌+◌, ◌<◌, ◌≤◌, Bool, true, false, cond, eqb, List, length, get_or, min, take, take_all, count_by, set, Some, None, Option, sym, refl, ap, ◌∙◌, inl, inr, ◌⊎◌, arith, length-set, get_or-set_other, get_or-set_same}
use Rattle.std.proofs.lemmas.Bool.{cases_eq, cases_lt, cases_Bool, both_ways, eqb-true, eq-eqb, ne_eqb}
use Rattle.std.proofs.lemmas.List.{get_or_past, get_or-take, length-take, length-take-le}
use Rattle.std.proofs.Math.Seq.{take-set-lt}
use Rattle.std.proofs.lemmas.List.Sums.{count_by_more_no, sum_by-set}
use Rattle.device.specs.Plays.{if_some}
use Rattle.paging.specs.Layout.{one}
use Rattle.caching.specs.declared.Tag.{Tag}
use Rattle.caching.specs.declared.Tag.TheVariants.{Free, Clean, Marked}
use Rattle.caching.specs.Frames.{Cache, count, frame_at, tag_at, with_tag, filled, holds, waiting, unwritten, find_tag, find, marks, is_marked}

-- options
some_is : {A : Type 0} {x y : A} → ◌≡◌ {A = Option A} (Some x) (Some y) → x ≡ y
some_is e = cc

some-none : {A : Type 0} {x : A} → ◌≡◌ {A = Option A} (Some x) None → ⊥
some-none e = cc

none-some : {A : Type 0} {x : A} → ◌≡◌ {A = Option A} None (Some x) → ⊥
none-some e = cc

-- FINDING
pub find-some : (c : ℕ) (ts : List Tag) (n i : ℕ) → find_tag c ts n ≡ Some i → (i < c) × (holds (get_or ts i Free) n ≡ true)
unfolding find_tag
find-some zero ts n i e = absurd (none-some e)
find-some (suc c) ts n i e = go (holds (get_or ts c Free) n) refl e (find-some c ts n i)
  where
    go : (b : Bool) → holds (get_or ts c Free) n ≡ b → cond b (Some c) (find_tag c ts n) ≡ Some i → (find_tag c ts n ≡ Some i → (i < c) × (holds (get_or ts i Free) n ≡ true)) → (i < suc c) × (holds (get_or ts i Free) n ≡ true)
    go true h q f = let j : c ≡ i = some_is q in (omega arith, ap (λ k. holds (get_or ts k Free) n) (sym j) ∙ h)
    go false h q f = let (a, b) = f q in (omega arith, b)

pub find_none : (c : ℕ) (ts : List Tag) (n : ℕ) → find_tag c ts n ≡ None → (i : ℕ) → i < c → holds (get_or ts i Free) n ≡ false
unfolding find_tag
find_none zero ts n e i l = absurd (omega arith)
find_none (suc c) ts n e i l = go (holds (get_or ts c Free) n) refl e (find_none c ts n)
  where
    go : (b : Bool) → holds (get_or ts c Free) n ≡ b → cond b (Some c) (find_tag c ts n) ≡ None → (find_tag c ts n ≡ None → (i : ℕ) → i < c → holds (get_or ts i Free) n ≡ false) → holds (get_or ts i Free) n ≡ false
    go true h q f = absurd (some-none q)
    go false h q f = elim (cases_eq i c) [ inl j ↦ ap (λ k. holds (get_or ts k Free) n) j ∙ h | inr j ↦ f q i (omega arith) ]

-- COUNTING
pub one-yes : {b : Bool} → b ≡ true → one b ≡ 1
unfolding one
one-yes e = rw e

pub one-no : {b : Bool} → b ≡ false → one b ≡ 0
unfolding one
one-no e = rw e

one-is : (b : Bool) → cond b 1 0 ≡ one b
unfolding one
one-is true = refl
one-is false = refl

abbrev weigh : Tag → ℕ
weigh t = cond (unwritten t) 1 0

pub marks-set : (c : ℕ) (ts : List Tag) (i : ℕ) (t : Tag) → i < c → c ≤ length ts → count_by unwritten (take c (set ts i t)) + one (unwritten (get_or ts i Free)) ≡ count_by unwritten (take c ts) + one (unwritten t)
marks-set c ts i t l k =
    let a : count_by unwritten (set (take c ts) i t) + weigh (get_or (take c ts) i Free) ≡ count_by unwritten (take c ts) + weigh t = sum_by-set weigh (take c ts) i t Free (omega (arith, length-take-le c ts k)) in
    let b : count_by unwritten (take c (set ts i t)) ≡ count_by unwritten (set (take c ts) i t) = ap (λ xs. count_by unwritten xs) (take-set-lt c ts i t l) in
    let d : weigh (get_or (take c ts) i Free) ≡ weigh (get_or ts i Free) = ap weigh (get_or-take c ts i Free l) in
    let e = one-is (unwritten (get_or ts i Free)) in
    let f = one-is (unwritten t) in
    omega arith

pub some-marked : (c : ℕ) (ts : List Tag) (i : ℕ) → i < c → unwritten (get_or ts i Free) ≡ true → 1 ≤ count_by unwritten (take c ts)
some-marked c ts i l e = elim (cases_lt i (length ts)) [ inl h ↦ within h | inr h ↦ absurd (both_ways _ (ap unwritten (get_or_past ts i Free h)) e) ]
  where
    within : i < length ts → 1 ≤ count_by unwritten (take c ts)
    within h =
        let a : count_by unwritten (set (take c ts) i Free) + weigh (get_or (take c ts) i Free) ≡ count_by unwritten (take c ts) + weigh Free = sum_by-set weigh (take c ts) i Free Free (omega (arith, length-take c ts)) in
        let b : weigh (get_or (take c ts) i Free) ≡ 1 = ap (λ b. cond b 1 0) (ap unwritten (get_or-take c ts i Free l) ∙ e) in
        omega arith

pub no-marked : (c : ℕ) (ts : List Tag) → ((i : ℕ) → i < c → unwritten (get_or ts i Free) ≡ false) → count_by unwritten (take c ts) ≡ 0
no-marked zero ts h = refl
no-marked (suc c) ts h = more (no-marked c ts (λ i l. h i (omega arith))) (cases_lt c (length ts))
  where
    more : count_by unwritten (take c ts) ≡ 0 → (c < length ts) ⊎ (length ts ≤ c) → count_by unwritten (take (suc c) ts) ≡ 0
    more e (inl l) = ap (λ k. count_by unwritten (take k ts)) (let f : suc c ≡ c + 1 = omega arith in f) ∙ (count_by_more_no unwritten ts c Free l (h c (omega arith)) ∙ e)
    more e (inr l) = ap (λ xs. count_by unwritten xs) (take_all (suc c) ts (omega arith) ∙ sym (take_all c ts l)) ∙ e

-- where none is marked, none is
pub unmarked : (m : Cache) → marks m ≡ 0 → (i : ℕ) → i < count m → unwritten (tag_at m i) ≡ false
unmarked m e i l = elim (cases_Bool (unwritten (tag_at m i))) [ inl h ↦ absurd (let a = some-marked (count m) m.tags i l h in omega arith) | inr h ↦ h ]

pub not-marked : (m : Cache) (n : ℕ) → marks m ≡ 0 → is_marked m n ≡ false
not-marked m n e = go (find m n) refl
  where
    go : (o : Option ℕ) → find m n ≡ o → if_some o (λ i. unwritten (tag_at m i)) false ≡ false
    go (Some i) h = unmarked m e i (find-some (count m) m.tags n i h).0
    go None h = refl

-- A FRAME'S PAGE
pub holds-one : (t : Tag) (n k : ℕ) → holds t n ≡ true → (k ≡ n → ⊥) → holds t k ≡ false
holds-one Free n k e h = refl
holds-one (Clean p) n k e h = ne_eqb p k (λ x. h (sym x ∙ eqb-true p n e))
holds-one (Marked p w) n k e h = ne_eqb p k (λ x. h (sym x ∙ eqb-true p n e))

pub itself : (n : ℕ) → eqb n n ≡ true
itself n = eq-eqb n n refl

pub marked-is : (t : Tag) (n : ℕ) → unwritten t ≡ true → holds t n ≡ true → (w : Bool) × (t ≡ Marked n w)
marked-is Free n e h = absurd (both_ways _ refl e)
marked-is (Clean p) n e h = absurd (both_ways _ refl e)
marked-is (Marked p w) n e h = (w, ap (λ k. Marked k w) (eqb-true p n h))

pub waits : (t : Tag) (x : ℕ × Bool) → waiting t ≡ Some x → t ≡ Marked x.0 x.1
waits Free x e = absurd (none-some e)
waits (Clean p) x e = absurd (none-some e)
waits (Marked p w) x e = ap (λ (x : ℕ × Bool). Marked x.0 x.1) (some_is e)

pub waits-not : (t : Tag) → waiting t ≡ None → unwritten t ≡ false
waits-not Free e = refl
waits-not (Clean p) e = refl
waits-not (Marked p w) e = absurd (some-none e)

pub nothing-waits : (t : Tag) → unwritten t ≡ false → waiting t ≡ None
nothing-waits Free e = refl
nothing-waits (Clean p) e = refl
nothing-waits (Marked p w) e = absurd (both_ways _ e refl)

-- ONE FRAME CHANGES
pub record Beside (i : ℕ) (m t : Cache) : Type 0 where
  pub size : count t ≡ count m
  pub tags : (k : ℕ) → (k ≡ i → ⊥) → tag_at t k ≡ tag_at m k
  pub frames : (k : ℕ) → (k ≡ i → ⊥) → frame_at t k ≡ frame_at m k

pub tag-beside : (i : ℕ) (g : Tag) (m : Cache) → Beside i m (with_tag i g m)
tag-beside i g m = record { size = refl; tags = λ k h. get_or-set_other m.tags i k g Free h; frames = λ k h. refl }

pub fill-beside : (i : ℕ) (g : Tag) (b : List ℕ) (m : Cache) → Beside i m (filled i g b m)
fill-beside i g b m = record { size = ap (λ n. min n 128) (length-set m.frames i b); tags = λ k h. get_or-set_other m.tags i k g Free h; frames = λ k h. get_or-set_other m.frames i k b _ h }

pub tag-there : (i : ℕ) (g : Tag) (m : Cache) → i < count m → count m ≤ length m.tags → tag_at (with_tag i g m) i ≡ g
tag-there i g m l k = get_or-set_same m.tags i g Free (omega arith)

pub frame-there : (i : ℕ) (g : Tag) (b : List ℕ) (m : Cache) → i < count m → frame_at (filled i g b m) i ≡ b
frame-there i g b m l = get_or-set_same m.frames i b _ (omega arith)
