-- A sound tree by what stands under each number, and back.
-- Assumes nothing.
use Rattle.std.proofs.Common.{◌≡◌, ℕ, zero, suc, ◌<◌, ◌≤◌, Bool, true, false, not, ◌&&◌, ◌||◌, T, eqb, ltb, ◌⊎◌, List, [], ◌∷◌, length, sym, refl, ap, ◌∙◌, subst, inl, inr, arith, ltb→lt, lt→ltb}
use Rattle.std.proofs.lemmas.Bool.{eq-eqb, ne_eqb, eqb-true}
use Rattle.model.specs.Tree.{Entry, Body, File, Folder, Link, Node, Fs, some, every, body_at, entries_of, is_folder, is_file, bytes_of, parent_of, count_entries, name_count, is_above}
use Rattle.model.specs.Walk.{path_ok}
use Rattle.model.specs.Sound.{rising_nums, rising_names, name_ok, is_there, node_ok, Sound}
use Rattle.model.proofs.Facts.{and-fst, and-snd, and_both, or-either, or_fst, or_snd, is_true, is_false, holds, fails, not-holds, same_or, In, in-every, every_in}
use Rattle.model.proofs.Nodes.{node, has-or, has_in, in-has, in_body, folder-has}
use Rattle.model.proofs.Entries.{Sorted, rising-sorted, sorted-rising, count-some, some-count, count_none}

abbrev pub ents : Fs → ℕ → List Entry
ents f k = entries_of (body_at f k)

abbrev pub Dir : Fs → ℕ → Type 0
Dir f k = T (is_folder (body_at f k))

-- the topmost is come to from it
abbrev pub Reach : Fs → ℕ → Type 0
Reach f k = (n : ℕ) × T (is_above n f 0 k)

-- a folder under its one name; or without one, and empty
abbrev pub Hung : Fs → ℕ → Type 0
Hung f k = ((name_count f k ≡ 1) × (1 ≤ count_entries k (ents f (parent_of (body_at f k)))) × Reach f k) ⊎ ((name_count f k ≡ 0) × (ents f k ≡ []))

abbrev pub body_ok : Body → Bool
body_ok b = is_folder b || is_file b || path_ok (bytes_of b)

-- sound, but that the folder q may hang anyhow; q is 0: sound
pub record Good (f : Fs) (q : ℕ) : Type 0 where
  pub rising : T (rising_nums 0 f.nodes)
  pub small : (k : ℕ) → T (is_there f k) → k < f.next
  pub body : (k : ℕ) → T (is_there f k) → T (body_ok (body_at f k))
  pub sorted : (k : ℕ) → Sorted (ents f k)
  pub each : (k : ℕ) (e : Entry) → In e (ents f k) → T (name_ok e.name) × T (is_there f e.node)
  pub hung : (k : ℕ) → Dir f k → (k ≡ 0 → ⊥) → (k ≡ q → ⊥) → Hung f k
  pub top : Dir f 0
  pub top_up : parent_of (body_at f 0) ≡ 0
  pub top_names : name_count f 0 ≡ 0

pub loosen : {f : Fs} (q : ℕ) → Good f 0 → Good f q
loosen q g = record { rising = g.rising; small = g.small; body = g.body; sorted = g.sorted; each = g.each; hung = λ k d z _. g.hung k d z z; top = g.top; top_up = g.top_up; top_names = g.top_names }

pub hang : {f : Fs} (q : ℕ) → Good f q → (Dir f q → (q ≡ 0 → ⊥) → Hung f q) → Good f 0
hang {f} q g h =
    record {
      rising = g.rising;
      small = g.small;
      body = g.body;
      sorted = g.sorted;
      each = g.each;
      hung = λ k d z _. elim (same_or k q) [ inl e ↦ subst (λ j. Dir f j → (j ≡ 0 → ⊥) → Hung f j) (sym e) h d z | inr n ↦ g.hung k d z n ];
      top = g.top;
      top_up = g.top_up;
      top_names = g.top_names;
    }

-- bodies
pub dir-or : (b : Body) → (is_folder b ≡ true) ⊎ ((is_folder b ≡ false) × (entries_of b ≡ []))
unfolding is_folder entries_of
dir-or (File bs) = inr (refl, refl)
dir-or (Folder u es) = inl refl
dir-or (Link p) = inr (refl, refl)

pub count-dir : (k : ℕ) (b : Body) → 1 ≤ count_entries k (entries_of b) → T (is_folder b)
count-dir k b h = elim (dir-or b) [ inl e ↦ holds e | inr e ↦ absurd (let z : count_entries k (entries_of b) ≡ 0 = ap (count_entries k) e.1 ∙ count_none k in omega arith) ]

pub no_length : (es : List Entry) → length es ≡ 0 → es ≡ []
no_length [] h = refl
no_length (e ∷ es) h = absurd (omega arith)

-- live folders
abbrev pub Live : Fs → ℕ → Type 0
Live f b = Dir f b × ((b ≡ 0) ⊎ (1 ≤ name_count f b))

pub live-top : {f : Fs} → Good f 0 → Live f 0
live-top g = (g.top, inl refl)

pub live-hung : {f : Fs} (b : ℕ) → Good f 0 → Live f b → (b ≡ 0 → ⊥) → (name_count f b ≡ 1) × (1 ≤ count_entries b (ents f (parent_of (body_at f b)))) × Reach f b
live-hung {f} b g l z = go (g.hung b l.0 z z) l.1
  where
    go : Hung f b → (b ≡ 0) ⊎ (1 ≤ name_count f b) → (name_count f b ≡ 1) × (1 ≤ count_entries b (ents f (parent_of (body_at f b)))) × Reach f b
    go (inl h) i = h
    go (inr h) (inl e) = absurd (z e)
    go (inr h) (inr i) = absurd (let e = h.0 in omega arith)

pub live-holds : {f : Fs} (k u : ℕ) → Good f 0 → 1 ≤ count_entries k (ents f u) → Live f u
live-holds {f} k u g c =
    let d = count-dir k (body_at f u) c in
    elim (same_or u 0) [ inl e ↦ (d, inl e) | inr n ↦ (d, inr (go (g.hung u d n n))) ]
  where
    go : Hung f u → 1 ≤ name_count f u
    go (inl h) = let e = h.0 in omega arith
    go (inr h) = absurd (let e : count_entries k (ents f u) ≡ 0 = ap (count_entries k) h.1 ∙ count_none k in omega arith)

pub live-up : {f : Fs} (b : ℕ) → Good f 0 → Live f b → Live f (parent_of (body_at f b))
live-up {f} b g l =
    elim (same_or b 0) [
      | inl e ↦ subst (λ z. Live f z) (sym (ap (λ z. parent_of (body_at f z)) e ∙ g.top_up)) (live-top g)
      | inr n ↦ live-holds b (parent_of (body_at f b)) g (live-hung b g l n).1
    ]

pub live-reach : {f : Fs} (b : ℕ) → Good f 0 → Live f b → Reach f b
unfolding is_above
live-reach {f} b g l = elim (same_or b 0) [ inl e ↦ (0, holds (eq-eqb 0 b (sym e))) | inr n ↦ (live-hung b g l n).2 ]

-- going up
pub above_same : (n : ℕ) (f g : Fs) (a b : ℕ) → ((k : ℕ) → parent_of (body_at g k) ≡ parent_of (body_at f k)) → is_above n g a b ≡ is_above n f a b
unfolding is_above
above_same zero f g a b h = refl
above_same (suc n) f g a b h = ap (λ z. eqb a b || (not (eqb b 0) && is_above n g a z)) (h b) ∙ ap (λ z. eqb a b || (not (eqb b 0) && z)) (above_same n f g a (parent_of (body_at f b)) h)

pub above_zero : (n : ℕ) (f : Fs) (b : ℕ) → T (is_above (suc n) f 0 b) → (b ≡ 0) ⊎ ((b ≡ 0 → ⊥) × T (is_above n f 0 (parent_of (body_at f b))))
unfolding is_above
above_zero n f b h =
    elim (same_or b 0) [
      | inl e ↦ inl e
      | inr z ↦ inr (z, go (or-either (eqb 0 b) (not (eqb b 0) && is_above n f 0 (parent_of (body_at f b))) h) z)
    ]
  where
    go : T (eqb 0 b) ⊎ T (not (eqb b 0) && is_above n f 0 (parent_of (body_at f b))) → (b ≡ 0 → ⊥) → T (is_above n f 0 (parent_of (body_at f b)))
    go (inl t) z = absurd (z (sym (eqb-true 0 b (is_true (eqb 0 b) t))))
    go (inr t) z = and-snd (not (eqb b 0)) (is_above n f 0 (parent_of (body_at f b))) t

pub above-start : (n : ℕ) (f : Fs) (b : ℕ) → b ≡ 0 → T (is_above n f 0 b)
unfolding is_above
above-start zero f b e = holds (eq-eqb 0 b (sym e))
above-start (suc n) f b e = or_fst (eqb 0 b) (not (eqb b 0) && is_above n f 0 (parent_of (body_at f b))) (holds (eq-eqb 0 b (sym e)))

pub above_step : (n : ℕ) (f : Fs) (b : ℕ) → T (is_above n f 0 (parent_of (body_at f b))) → T (is_above (suc n) f 0 b)
unfolding is_above
above_step n f b h =
    elim (same_or b 0) [
      | inl e ↦ or_fst (eqb 0 b) (not (eqb b 0) && is_above n f 0 (parent_of (body_at f b))) (holds (eq-eqb 0 b (sym e)))
      | inr z ↦ or_snd (eqb 0 b) (not (eqb b 0) && is_above n f 0 (parent_of (body_at f b))) (and_both (not (eqb b 0)) (is_above n f 0 (parent_of (body_at f b))) (subst (λ t. T (not t)) (sym (ne_eqb b 0 z)) tt) h)
    ]

pub above-self : (n : ℕ) (f : Fs) (a b : ℕ) → a ≡ b → T (is_above n f a b)
unfolding is_above
above-self zero f a b e = holds (eq-eqb a b e)
above-self (suc n) f a b e = or_fst (eqb a b) (not (eqb b 0) && is_above n f a (parent_of (body_at f b))) (holds (eq-eqb a b e))

-- a tree in which the live folders are in the folders that they were in
pub reach_live : {f : Fs} (g : Fs) → Good f 0 → ((k : ℕ) → Live f k → parent_of (body_at g k) ≡ parent_of (body_at f k)) → (n b : ℕ) → Live f b → T (is_above n f 0 b) → T (is_above n g 0 b)
unfolding is_above
reach_live {f} g good h zero b l t = t
reach_live {f} g good h (suc n) b l t =
    elim (above_zero n f b t) [
      | inl e ↦ above-start (suc n) g b e
      | inr q ↦ above_step n g b (subst (λ z. T (is_above n g 0 z)) (sym (h b l)) (reach_live g good h n (parent_of (body_at f b)) (live-up b good l) q.1))
    ]

-- only one node is in another folder, and from that the topmost is come to
pub reach-but : (f g : Fs) (k : ℕ) → ((j : ℕ) → (j ≡ k → ⊥) → parent_of (body_at g j) ≡ parent_of (body_at f j)) → Reach g k → (n b : ℕ) → T (is_above n f 0 b) → Reach g b
unfolding is_above
reach-but f g k h r zero b t = (0, t)
reach-but f g k h r (suc n) b t = go (same_or b k) (above_zero n f b t) (λ s. reach-but f g k h r n (parent_of (body_at f b)) s)
  where
    go : (b ≡ k) ⊎ (b ≡ k → ⊥) → (b ≡ 0) ⊎ ((b ≡ 0 → ⊥) × T (is_above n f 0 (parent_of (body_at f b)))) → (T (is_above n f 0 (parent_of (body_at f b))) → Reach g (parent_of (body_at f b))) → Reach g b
    go (inl e) i m = subst (λ z. Reach g z) (sym e) r
    go (inr e) (inl z) m = (0, above-start 0 g b z)
    go (inr e) (inr z) m = let q = m z.1 in (suc q.0, above_step q.0 g b (subst (λ j. T (is_above q.0 g 0 j)) (sym (h b e)) q.1))

-- only one node is in another folder, and it isn't on the way
pub reach-past : (f g : Fs) (k : ℕ) → ((j : ℕ) → (j ≡ k → ⊥) → parent_of (body_at g j) ≡ parent_of (body_at f j)) → (n b : ℕ) → T (is_above n f 0 b) → is_above n f k b ≡ false → T (is_above n g 0 b)
unfolding is_above
reach-past f g k h zero b t a = t
reach-past f g k h (suc n) b t a =
    elim (above_zero n f b t) [
      | inl e ↦ above-start (suc n) g b e
      | inr q ↦
          let s = is_false (is_above n f k (parent_of (body_at f b))) (λ w. fails a (or_snd (eqb k b) (not (eqb b 0) && is_above n f k (parent_of (body_at f b))) (and_both (not (eqb b 0)) (is_above n f k (parent_of (body_at f b))) (subst (λ z. T (not z)) (sym (ne_eqb b 0 q.0)) tt) w))) in
          let o : b ≡ k → ⊥ = λ e. fails a (or_fst (eqb k b) (not (eqb b 0) && is_above n f k (parent_of (body_at f b))) (holds (eq-eqb k b (sym e)))) in
          above_step n g b (subst (λ z. T (is_above n g 0 z)) (sym (h b o)) (reach-past f g k h n (parent_of (body_at f b)) q.1 s))
    ]

-- as many nodes as folders on the way
abbrev Level : ℕ → Fs → ℕ → Type 0
Level zero f b = b ≡ 0
Level (suc n) f b = (b ≡ 0 → ⊥) × Level n f (parent_of (body_at f b))

level-once : (n m : ℕ) (f : Fs) (b : ℕ) → Level n f b → Level m f b → n ≡ m
level-once zero zero f b p q = refl
level-once zero (suc m) f b p q = absurd (q.0 p)
level-once (suc n) zero f b p q = absurd (p.0 q)
level-once (suc n) (suc m) f b p q = ap suc (level-once n m f (parent_of (body_at f b)) p.1 q.1)

level-of : (n : ℕ) (f : Fs) (b : ℕ) → T (is_above n f 0 b) → (m : ℕ) × Level m f b
unfolding is_above
level-of zero f b t = (0, sym (eqb-true 0 b (is_true (eqb 0 b) t)))
level-of (suc n) f b t = elim (above_zero n f b t) [ inl e ↦ (0, e) | inr q ↦ let r = level-of n f (parent_of (body_at f b)) q.1 in (suc r.0, (q.0, r.1)) ]

level-above : (m n : ℕ) (f : Fs) (b : ℕ) → Level m f b → m ≤ n → T (is_above n f 0 b)
level-above zero n f b h l = above-start n f b h
level-above (suc m) zero f b h l = absurd (omega arith)
level-above (suc m) (suc n) f b h l = above_step n f b (level-above m n f (parent_of (body_at f b)) h.1 (omega arith))

taken : {A : Type 0} (xs : List A) (x : A) → In x xs → (ys : List A) × (length xs ≡ suc (length ys)) × ((y : A) → In y xs → (x ≡ y) ⊎ In y ys)
taken [] x i = absurd i
taken (z ∷ xs) x (inl e) = (xs, refl, λ y. elim [ inl q ↦ inl (sym e ∙ q) | inr j ↦ inr j ])
taken (z ∷ xs) x (inr i) =
    let r = taken xs x i in
    (z ∷ r.0, ap suc r.1, λ y. elim [ inl q ↦ inr (inl q) | inr j ↦ elim (r.2 y j) [ inl q ↦ inl q | inr w ↦ inr (inr w) ] ])

pigeons : {A : Type 0} (P : ℕ → A → Type 0) → ((i j : ℕ) (x : A) → P i x → P j x → i ≡ j) → (m : ℕ) (xs : List A) → ((j : ℕ) → j < m → (x : A) × In x xs × P j x) → m ≤ length xs
pigeons P once zero xs h = omega arith
pigeons P once (suc m) xs h =
    let w = h m (omega arith) in
    let r = taken xs w.0 w.1 in
    let q = pigeons P once m r.0 (λ j l. let v = h j (omega arith) in elim (r.2 v.0 v.1) [ inl e ↦ absurd (let c = once m j v.0 (subst (P m) e w.2) v.2 in omega arith) | inr i ↦ (v.0, i, v.2) ]) in
    let e = r.1 in
    omega arith

level-here : (f : Fs) (n b : ℕ) → Live f b → Level n f b → (j : ℕ) → j ≡ n → (x : Node) × In x f.nodes × Level j f x.num
level-here f n b l h j e =
    let q = has_in b f.nodes (folder-has b f.nodes l.0) in
    (q.0, q.1, subst (λ z. Level z f q.0.num) (sym e) (subst (λ z. Level n f z) (sym q.2) h))

levels : {f : Fs} (g : Good f 0) (n b : ℕ) → Live f b → Level n f b → (j : ℕ) → j < suc n → (x : Node) × In x f.nodes × Level j f x.num
levels {f} g zero b l h j s = level-here f zero b l h j (omega arith)
levels {f} g (suc n) b l h j s =
    elim (same_or j (suc n)) [ inl e ↦ level-here f (suc n) b l h j e | inr e ↦ levels g n (parent_of (body_at f b)) (live-up b g l) h.1 j (omega arith) ]

pub enough : {f : Fs} (b : ℕ) → Good f 0 → Live f b → T (is_above (length f.nodes) f 0 b)
enough {f} b g l =
    let r = live-reach b g l in
    let v = level-of r.0 f b r.1 in
    let p = pigeons (λ j (x : Node). Level j f x.num) (λ i j x. level-once i j f x.num) (suc v.0) f.nodes (levels g v.0 b l v.1) in
    level-above v.0 (length f.nodes) f b v.1 (omega arith)

-- what node_ok says, part by part
abbrev each_ok : Fs → List Entry → Bool
each_ok f es = every (λ (e : Entry). name_ok e.name && is_there f e.node) es

abbrev named : Fs → ℕ → Body → Bool
named f k b = eqb (name_count f k) 1 && some (λ (e : Entry). eqb e.node k) (entries_of (body_at f (parent_of b))) && is_above (length f.nodes) f 0 k

abbrev nameless : Fs → ℕ → Body → Bool
nameless f k b = eqb (name_count f k) 0 && eqb (length (entries_of b)) 0

abbrev hung_ok : Fs → ℕ → Body → Bool
hung_ok f k b = not (is_folder b) || eqb k 0 || named f k b || nameless f k b

pub record Parts (f : Fs) (k : ℕ) (b : Body) : Type 0 where
  pub small : k < f.next
  pub body : T (body_ok b)
  pub sorted : Sorted (entries_of b)
  pub each : (e : Entry) → In e (entries_of b) → T (name_ok e.name) × T (is_there f e.node)
  pub hung : T (hung_ok f k b)

parts : (f : Fs) (k : ℕ) (b : Body) → T (node_ok f (node k b)) → Parts f k b
parts f k b h =
    let A = ltb k f.next in
    let B = body_ok b in
    let C = rising_names (entries_of b) in
    let D = each_ok f (entries_of b) in
    let E = hung_ok f k b in
    let h4 = and-fst (A && B && C && D) E h in
    let h3 = and-fst (A && B && C) D h4 in
    let h2 = and-fst (A && B) C h3 in
    record {
      small = ltb→lt k f.next (and-fst A B h2);
      body = and-snd A B h2;
      sorted = rising-sorted (entries_of b) (and-snd (A && B) C h3);
      each = λ e i. let t = every_in (λ (e : Entry). name_ok e.name && is_there f e.node) (entries_of b) (and-snd (A && B && C) D h4) e i in (and-fst (name_ok e.name) (is_there f e.node) t, and-snd (name_ok e.name) (is_there f e.node) t);
      hung = and-snd (A && B && C && D) E h;
    }

unparts : (f : Fs) (k : ℕ) (b : Body) → Parts f k b → T (node_ok f (node k b))
unparts f k b p =
    let A = ltb k f.next in
    let B = body_ok b in
    let C = rising_names (entries_of b) in
    let D = each_ok f (entries_of b) in
    let E = hung_ok f k b in
    and_both (A && B && C && D) E
    (and_both (A && B && C) D (and_both (A && B) C (and_both A B (lt→ltb k f.next p.small) p.body) (sorted-rising (entries_of b) p.sorted))
    (in-every (λ (e : Entry). name_ok e.name && is_there f e.node) (entries_of b) (λ e i. and_both (name_ok e.name) (is_there f e.node) (p.each e i).0 (p.each e i).1)))
    p.hung

part_of : (f : Fs) → Sound f → (k : ℕ) → T (is_there f k) → Parts f k (body_at f k)
part_of f s k t =
    let q = has_in k f.nodes t in
    let x = q.0 in
    subst (λ z. Parts f z (body_at f k)) q.2 (subst (λ z. Parts f x.num z) (sym q.3) (parts f x.num x.body (every_in (node_ok f) f.nodes s.1 x q.1)))

sorted-nil : (es : List Entry) → es ≡ [] → Sorted es
sorted-nil [] e = tt
sorted-nil (x ∷ es) e = let z : ◌≡◌ {A = ℕ} 0 1 = cc in absurd (omega arith)

in-nil : (es : List Entry) → es ≡ [] → (e : Entry) → In e es → ⊥
in-nil [] q e i = i
in-nil (x ∷ es) q e i = let z : ◌≡◌ {A = ℕ} 0 1 = cc in absurd (omega arith)

none-ents : (b : Body) → b ≡ Link [] → entries_of b ≡ []
unfolding entries_of
none-ents b e = ap entries_of e

hung-of : (f : Fs) (k : ℕ) → Dir f k → (k ≡ 0 → ⊥) → T (hung_ok f k (body_at f k)) → Hung f k
hung-of f k d z h =
    let b = body_at f k in
    elim (or-either (not (is_folder b) || eqb k 0 || named f k b) (nameless f k b) h) [
      | inl t ↦ elim (or-either (not (is_folder b) || eqb k 0) (named f k b) t) [
        | inl u ↦ elim (or-either (not (is_folder b)) (eqb k 0) u) [ inl v ↦ absurd (fails (not-holds (is_folder b) v) d) | inr v ↦ absurd (z (eqb-true k 0 (is_true (eqb k 0) v))) ]
        | inr u ↦
            let S = some (λ (e : Entry). eqb e.node k) (entries_of (body_at f (parent_of b))) in
            let u2 = and-fst (eqb (name_count f k) 1 && S) (is_above (length f.nodes) f 0 k) u in
            inl (eqb-true (name_count f k) 1 (is_true (eqb (name_count f k) 1) (and-fst (eqb (name_count f k) 1) S u2)), some-count k (entries_of (body_at f (parent_of b))) (and-snd (eqb (name_count f k) 1) S u2), (length f.nodes, and-snd (eqb (name_count f k) 1 && S) (is_above (length f.nodes) f 0 k) u))
      ]
      | inr t ↦
          inr (eqb-true (name_count f k) 0 (is_true (eqb (name_count f k) 0) (and-fst (eqb (name_count f k) 0) (eqb (length (entries_of b)) 0) t)), no_length (entries_of b) (eqb-true (length (entries_of b)) 0 (is_true (eqb (length (entries_of b)) 0) (and-snd (eqb (name_count f k) 0) (eqb (length (entries_of b)) 0) t))))
    ]

pub sound-good : (f : Fs) → Sound f → Good f 0
sound-good f s =
    record {
      rising = s.0;
      small = λ k t. (part_of f s k t).small;
      body = λ k t. (part_of f s k t).body;
      sorted = λ k. elim (has-or k f.nodes) [ inl t ↦ (part_of f s k t).sorted | inr e ↦ sorted-nil (ents f k) (none-ents (body_at f k) e) ];
      each = λ k e i. elim (has-or k f.nodes) [ inl t ↦ (part_of f s k t).each e i | inr q ↦ absurd (in-nil (ents f k) (none-ents (body_at f k) q) e i) ];
      hung = λ k d z _. hung-of f k d z (part_of f s k (folder-has k f.nodes d)).hung;
      top = s.2;
      top_up = s.3;
      top_names = s.4;
    }

of-hung : (f : Fs) (k : ℕ) → Good f 0 → T (is_there f k) → T (hung_ok f k (body_at f k))
of-hung f k g t =
    let b = body_at f k in
    let N = not (is_folder b) || eqb k 0 in
    elim (dir-or b) [
      | inr e ↦ or_fst (N || named f k b) (nameless f k b) (or_fst N (named f k b) (or_fst (not (is_folder b)) (eqb k 0) (subst (λ z. T (not z)) (sym e.0) tt)))
      | inl d ↦ elim (same_or k 0) [
        | inl e ↦ or_fst (N || named f k b) (nameless f k b) (or_fst N (named f k b) (or_snd (not (is_folder b)) (eqb k 0) (holds (eq-eqb k 0 e))))
        | inr z ↦ elim (g.hung k (holds d) z z) [
          | inl h ↦
              let one = h.0 in
              let S = some (λ (e : Entry). eqb e.node k) (entries_of (body_at f (parent_of b))) in
              or_fst (N || named f k b) (nameless f k b) (or_snd N (named f k b)
              (and_both (eqb (name_count f k) 1 && S) (is_above (length f.nodes) f 0 k) (and_both (eqb (name_count f k) 1) S (holds (eq-eqb (name_count f k) 1 h.0)) (count-some k (entries_of (body_at f (parent_of b))) h.1))
              (enough k g (holds d, inr (omega arith)))))
          | inr h ↦ or_snd (N || named f k b) (nameless f k b) (and_both (eqb (name_count f k) 0) (eqb (length (entries_of b)) 0) (holds (eq-eqb (name_count f k) 0 h.0)) (holds (eq-eqb (length (entries_of b)) 0 (ap length h.1))))
        ]
      ]
    ]

pub good-sound : (f : Fs) → Good f 0 → Sound f
good-sound f g = (g.rising, in-every (node_ok f) f.nodes ok, g.top, g.top_up, g.top_names)
  where
    ok : (x : Node) → In x f.nodes → T (node_ok f x)
    ok x i =
        let t = in-has f.nodes x i in
        let k = x.num in
        subst (λ b. T (node_ok f (node k b))) (in_body 0 f.nodes x g.rising i)
        (unparts f k (body_at f k) (record { small = g.small k t; body = g.body k t; sorted = g.sorted k; each = g.each k; hung = of-hung f k g t }))
