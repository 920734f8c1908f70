-- How edits change what a tree weighs.
-- Assumes nothing.
use Rattle.std.proofs.Common.{◌≡◌, ℕ, ◌+◌, ◌*◌, ◌≤◌, Bool, true, false, cond, not, ◌||◌, T, eqb, ltb, ◌⊎◌, List, [], ◌∷◌, ◌++◌, length, sym, refl, ap, ◌∙◌, subst, inl, inr, arith, ltb→lt}
use Rattle.std.proofs.lemmas.Bool.{cases_lt}
use Rattle.model.specs.Tree.{Name, Entry, Body, File, Folder, Link, Node, Fs, some, keep, same_name, less_name, body_at, body_in, put_body, with_body, with_node, entries_of, is_folder, is_file, bytes_of, parent_of, lookup, insert_entry, remove_entry, with_entry, without_entry, reparented, name_count, swept, is_above, blocks, entries_weight, data_weight, name_weight}
use Rattle.model.specs.Calls.{Handle, State, is_open, renamed, becomes}
use Rattle.model.specs.Sound.{is_there, SoundState}
use Rattle.model.specs.Room.{Tidy, NoHeavier, WeighsOneWay, NoPartHeavier, SweepsLighter}
use Rattle.model.proofs.Facts.{or-either, or_fst, or_snd, is_true, holds, by-test, cond_yes, cond_no, In}
use Rattle.model.proofs.Nodes.{has, node, in-has, folder-has, file-has, more-has}
use Rattle.model.proofs.Entries.{Sorted, After, entry, one, same-is, after-found, found_none, leave_none}
use Rattle.model.proofs.Good.{ents, Dir, Good, sound-good}
use Rattle.model.proofs.Changes.{refold, put-there, grown-names, grown-ents, grown-live, entered-names, filed-names, moved-names}
use Rattle.model.proofs.Sweeps.{stays, stays-named}
use Rattle.model.proofs.Renames.{live_e1, fm1, names1, g1, fm2, live2, gone2, over}
use Rattle.model.proofs.Edits.{Free, Found, Edit, nothing, makes, fills, takes, shares, moves, replaces, found_ok, Change, same, synced, edited, opened, closed, changes}

-- sums over the nodes
unfoldable sum_of : (Body → ℕ) → List Node → ℕ
sum_of w [] = 0
sum_of w (x ∷ xs) = w x.body + sum_of w xs

module _ (w : Body → ℕ) where
  sum-put : (n : ℕ) (b : Body) (xs : List Node) → T (has n xs) → sum_of w (put_body n b xs) + w (body_in n xs) ≡ sum_of w xs + w b
  unfolding some put_body body_in sum_of
  sum-put n b [] h = absurd h
  sum-put n b (x ∷ xs) h = go (eqb n x.num) (or-either (eqb n x.num) (has n xs) h) (λ i. sum-put n b xs i)
    where
      go : (t : Bool) → T t ⊎ T (has n xs) → (T (has n xs) → sum_of w (put_body n b xs) + w (body_in n xs) ≡ sum_of w xs + w b) → sum_of w (cond t (node n b ∷ xs) (x ∷ put_body n b xs)) + w (cond t x.body (body_in n xs)) ≡ (w x.body + sum_of w xs) + w b
      go true i f = omega arith
      go false (inl i) f = absurd i
      go false (inr i) f = omega (arith, f i)

  sum_more : (xs : List Node) (x : Node) → sum_of w (xs ++ (x ∷ [])) ≡ sum_of w xs + w x.body
  unfolding sum_of
  sum_more [] x = omega arith
  sum_more (y ∷ xs) x = omega (arith, sum_more xs x)

  sum-keep : (p : Node → Bool) (xs : List Node) → sum_of w (keep p xs) ≤ sum_of w xs
  unfolding sum_of keep
  sum-keep p [] = omega arith
  sum-keep p (x ∷ xs) = by-test (p x) {x = x ∷ keep p xs} {y = keep p xs} (λ z. sum_of w z ≤ w x.body + sum_of w xs) (λ _. omega (arith, sum-keep p xs)) (λ _. omega (arith, sum-keep p xs))

keep_all : {A : Type 0} (p : A → Bool) (xs : List A) → ((x : A) → In x xs → T (p x)) → keep p xs ≡ xs
unfolding keep
keep_all p [] h = refl
keep_all p (x ∷ xs) h = cond_yes (x ∷ keep p xs) (keep p xs) (is_true (p x) (h x (inl refl))) ∙ ap (λ z. x ∷ z) (keep_all p xs (λ y i. h y (inr i)))

-- blocks, and nodes with their names
abbrev data_of : Body → ℕ
data_of b = 4096 * blocks (length (bytes_of b))

abbrev name_of : Body → ℕ
name_of b = 512 + entries_weight (entries_of b)

data-sum : (xs : List Node) → data_weight xs ≡ sum_of data_of xs
unfolding data_weight sum_of
data-sum [] = refl
data-sum (x ∷ xs) = ap (λ z. data_of x.body + z) (data-sum xs)

name-sum : (xs : List Node) → name_weight xs ≡ sum_of name_of xs
unfolding name_weight sum_of
name-sum [] = refl
name-sum (x ∷ xs) = ap (λ z. name_of x.body + z) (name-sum xs)

no-data : (b : Body) → T (is_folder b) → data_of b ≡ 0
unfolding bytes_of is_folder
no-data (File bs) h = absurd h
no-data (Folder u es) h = refl
no-data (Link p) h = absurd h

no_names : (b : Body) → T (is_file b) → name_of b ≡ 512
unfolding entries_of is_file entries_weight
no_names (File bs) h = refl
no_names (Folder u es) h = absurd h
no_names (Link p) h = absurd h

pub sweeps_lighter_lem : SweepsLighter
sweeps_lighter_lem o f =
    (omega (arith, data-sum f.nodes, data-sum (swept o f).nodes, sum-keep data_of (λ (x : Node). stays o f x.num) f.nodes), omega (arith, name-sum f.nodes, name-sum (swept o f).nodes, sum-keep name_of (λ (x : Node). stays o f x.num) f.nodes))

-- the names of a folder
entries-more : (n : Name) (k : ℕ) (es : List Entry) → lookup n es ≡ [] → entries_weight (insert_entry n k es) ≡ (64 + length n) + entries_weight es
unfolding insert_entry entries_weight
entries-more n k [] h = refl
entries-more n k (e ∷ es) h =
    let f = found_none n e es h in
    ap entries_weight (cond_no (entry n k ∷ es) (cond (less_name n e.name) (entry n k ∷ e ∷ es) (e ∷ insert_entry n k es)) f.0) ∙
    by-test (less_name n e.name) {x = entry n k ∷ e ∷ es} {y = e ∷ insert_entry n k es} (λ z. entries_weight z ≡ (64 + length n) + (64 + length e.name + entries_weight es)) (λ _. refl) (λ _. omega (arith, entries-more n k es f.1))

entries-less : (n : Name) (k : ℕ) (more : List ℕ) (es : List Entry) → Sorted es → lookup n es ≡ k ∷ more → entries_weight es ≡ (64 + length n) + entries_weight (remove_entry n es)
unfolding keep lookup entries_weight
entries-less n k more [] s h = let z : ◌≡◌ {A = ℕ} 0 1 = cc in absurd (omega arith)
entries-less n k more (e ∷ es) s h = go (same_name n e.name) refl h (λ q. entries-less n k more es s.1 q)
  where
    go : (t : Bool) → same_name n e.name ≡ t → cond t (e.node ∷ []) (lookup n es) ≡ k ∷ more → (lookup n es ≡ k ∷ more → entries_weight es ≡ (64 + length n) + entries_weight (remove_entry n es)) →
        64 + length e.name + entries_weight es ≡ (64 + length n) + entries_weight (cond (not t) (e ∷ remove_entry n es) (remove_entry n es))
    go true q r f =
        let l = leave_none n es (after-found n es (subst (λ z. After z es) (sym (same-is n e.name (holds q))) s.0)) in
        let a : length e.name ≡ length n = ap length (sym (same-is n e.name (holds q))) in
        let b : entries_weight (remove_entry n es) ≡ entries_weight es = ap entries_weight l in
        omega arith
    go false q r f = omega (arith, f r)

le-or : (a b : ℕ) → (a ≤ b) ⊎ (b ≤ a)
le-or a b = elim (cases_lt a b) [ inl h ↦ inl (omega arith) | inr h ↦ inr h ]

-- what each edit adds or takes away
module _ (f : Fs) (d : ℕ) (es : List Entry) (dir : Dir f d) where
  re-data : data_weight (refold f d es).nodes ≡ data_weight f.nodes
  unfolding bytes_of is_folder
  re-data =
      let b = Folder (parent_of (body_at f d)) es in
      let z = no-data (body_at f d) dir in
      let y = no-data b tt in
      omega (arith, data-sum f.nodes, data-sum (refold f d es).nodes, sum-put data_of d b f.nodes (folder-has d f.nodes dir))

  re-name : name_weight (refold f d es).nodes + entries_weight (ents f d) ≡ name_weight f.nodes + entries_weight es
  unfolding entries_of
  re-name =
      omega (arith, name-sum f.nodes, name-sum (refold f d es).nodes, sum-put name_of d (Folder (parent_of (body_at f d)) es) f.nodes (folder-has d f.nodes dir))

abbrev Weighs : Fs → Fs → (more less : ℕ) → Type 0
Weighs f f' more less = (data_weight f'.nodes ≡ data_weight f.nodes) × (name_weight f'.nodes + less ≡ name_weight f.nodes + more)

entered-weighs : (f : Fs) (d : ℕ) (n : Name) (k : ℕ) → Dir f d → lookup n (ents f d) ≡ [] → Weighs f (with_entry d n k f) (64 + length n) 0
entered-weighs f d n k dir fo =
    let es = insert_entry n k (ents f d) in
    (re-data f d es dir, omega (arith, re-name f d es dir, entries-more n k (ents f d) fo))

left-weighs : (f : Fs) (d : ℕ) (n : Name) (k : ℕ) (more : List ℕ) → Dir f d → Sorted (ents f d) → lookup n (ents f d) ≡ k ∷ more → Weighs f (without_entry d n f) 0 (64 + length n)
left-weighs f d n k more dir so fo =
    let es = remove_entry n (ents f d) in
    (re-data f d es dir, omega (arith, re-name f d es dir, entries-less n k more (ents f d) so fo))

parted-weighs : (f : Fs) (k e : ℕ) → Dir f k → Weighs f (with_body k (Folder e (ents f k)) f) 0 0
unfolding bytes_of is_folder entries_of
parted-weighs f k e dir =
    let b = Folder e (ents f k) in
    let x = with_body k b f in
    let z = no-data (body_at f k) dir in
    let y = no-data b tt in
    (omega (arith, data-sum f.nodes, data-sum x.nodes, sum-put data_of k b f.nodes (folder-has k f.nodes dir)), omega (arith, name-sum f.nodes, name-sum x.nodes, sum-put name_of k b f.nodes (folder-has k f.nodes dir)))

moved-weighs : (f : Fs) (k e : ℕ) → Weighs f (reparented k e f) 0 0
moved-weighs f k e = by-test (is_folder (body_at f k)) {x = with_body k (Folder e (ents f k)) f} {y = f} (λ z. Weighs f z 0 0) (λ t. parted-weighs f k e (holds t)) (λ _. (refl, refl))

filed-names-weigh : (f : Fs) (k : ℕ) (bs : List ℕ) → T (is_file (body_at f k)) → name_weight (with_body k (File bs) f).nodes ≡ name_weight f.nodes
unfolding is_file
filed-names-weigh f k bs t =
    let z = no_names (body_at f k) t in
    let y = no_names (File bs) tt in
    omega (arith, name-sum f.nodes, name-sum (with_body k (File bs) f).nodes, sum-put name_of k (File bs) f.nodes (file-has k f.nodes t))

grown-weighs : (f : Fs) (b : Body) → (data_weight f.nodes ≤ data_weight (with_node b f).nodes) × (name_weight f.nodes ≤ name_weight (with_node b f).nodes)
grown-weighs f b = (
  omega (arith, data-sum f.nodes, data-sum (with_node b f).nodes, sum_more data_of f.nodes (node f.next b)),
  omega (arith, name-sum f.nodes, name-sum (with_node b f).nodes, sum_more name_of f.nodes (node f.next b)),
)

-- Heavier, and nothing can be swept away: what is there was there, or has a name, and what had one has. Or no heavier.
abbrev Kept : Fs → Fs → Type 0
Kept f f' = (k : ℕ) → T (is_there f' k) → (1 ≤ name_count f' k) ⊎ (T (is_there f k) × (name_count f k ≤ name_count f' k))

abbrev OneWay : Fs → Fs → Type 0
OneWay f f' = (NoHeavier f f' × Kept f f') ⊎ NoHeavier f' f

module _ {f : Fs} (g : Good f 0) where
  there : (f' : Fs) → ((k : ℕ) → is_there f' k ≡ is_there f k) → ((k : ℕ) → name_count f k ≤ name_count f' k) → Kept f f'
  there f' h n k t = inr (subst (λ z. T z) (h k) t, n k)

  entered-there : (f' : Fs) (d : ℕ) (n : Name) (k x : ℕ) → is_there (with_entry d n k f') x ≡ is_there f' x
  entered-there f' d n k x = put-there f' d (Folder (parent_of (body_at f' d)) (insert_entry n k (ents f' d))) x

  moved-there : (f' : Fs) (k e x : ℕ) → is_there (reparented k e f') x ≡ is_there f' x
  moved-there f' k e x = by-test (is_folder (body_at f' k)) {x = with_body k (Folder e (ents f' k)) f'} {y = f'} (λ z. is_there z x ≡ is_there f' x) (λ _. put-there f' k (Folder e (ents f' k)) x) (λ _. refl)

  moved-count : (f' : Fs) (k e x : ℕ) → name_count (reparented k e f') x ≡ name_count f' x
  moved-count f' k e x = by-test (is_folder (body_at f' k)) {x = with_body k (Folder e (ents f' k)) f'} {y = f'} (λ z. name_count z x ≡ name_count f' x) (λ t. moved-names f' k e (holds t) x) (λ _. refl)

  made-way : (b : Body) (d : ℕ) (n : Name) → entries_of b ≡ [] → Free f d n → NoHeavier f (with_entry d n f.next (with_node b f)) × Kept f (with_entry d n f.next (with_node b f))
  made-way b d n ne h =
      let f1 = with_node b f in
      let live = grown-live f b g ne d h.0 in
      let fo : lookup n (ents f1 d) ≡ [] = ap (lookup n) (grown-ents f b g ne d) ∙ h.2 in
      let e = entered-weighs f1 d n f.next live.0 fo in
      let w = grown-weighs f b in (
        (omega (arith, e.0, w.0), omega (arith, e.1, w.1)),
        λ k t.
            let nm = entered-names f1 d n f.next live fo k in
            let gn = grown-names f b g ne k in
            elim (or-either (has k f.nodes) (eqb k f.next) (subst (λ z. T z) (entered-there f1 d n f.next k ∙ more-has k f.nodes (node f.next b)) t)) [
              | inl i ↦ inr (i, omega arith)
              | inr i ↦ let o : one (eqb k f.next) ≡ 1 = ap one (is_true (eqb k f.next) i) in inl (omega arith)
            ],
      )

  moved-way : (d : ℕ) (n : Name) (k e : ℕ) (m : Name) → Found f d n k → (Dir f k → is_above (length f.nodes) f k e ≡ false) → Free f e m → OneWay f (renamed d n k e m f)
  moved-way d n k e m h past q =
      let f1 = without_entry d n f in
      let f2 = with_entry e m k f1 in
      let live = live_e1 f g d n k h.1 h.0 h.2 e m q.0 q.1 past in
      let fo = fm1 f g d n k h.1 h.0 h.2 e m q.0 q.1 past q.2 in
      let a = left-weighs f d n k h.1 h.0.0 (g.sorted d) h.2 in
      let b = entered-weighs f1 e m k live.0 fo in
      let c = moved-weighs f2 k e in
      elim (le-or (length n) (length m)) [
        | inl l ↦
            inl (
              (omega (arith, a.0, b.0, c.0), omega (arith, a.1, b.1, c.1)),
              there (renamed d n k e m f) (λ x. moved-there f2 k e x ∙ (entered-there f1 e m k x ∙ put-there f d (Folder (parent_of (body_at f d)) (remove_entry n (ents f d))) x))
                  (λ x. omega (arith, names1 f g d n k h.1 h.0 h.2 e m q.0 q.1 past x, entered-names f1 e m k live fo x, moved-count f2 k e x)),
            )
        | inr l ↦ inr (omega (arith, a.0, b.0, c.0), omega (arith, a.1, b.1, c.1))
      ]

  replaced-way : (d : ℕ) (n : Name) (k e : ℕ) (m : Name) (j : ℕ) → Found f d n k → (Dir f k → is_above (length f.nodes) f k e ≡ false) → Found f e m j → (k ≡ j → ⊥) → ents f j ≡ [] → NoHeavier (renamed d n k e m f) f
  replaced-way d n k e m j h past q kj nj =
      let ok = (found_ok e m j g q).0 in
      let f1 = without_entry d n f in
      let f2 = without_entry e m f1 in
      let f3 = with_entry e m k f2 in
      let a = left-weighs f d n k h.1 h.0.0 (g.sorted d) h.2 in
      let b = left-weighs f1 e m j q.1 (live_e1 f g d n k h.1 h.0 h.2 e m q.0 ok past).0 ((g1 f g d n k h.1 h.0 h.2 e m q.0 ok past).sorted e) (fm2 f g d n k h.1 h.0 h.2 e m q.0 ok past j q.1 q.2 kj nj) in
      let c = entered-weighs f2 e m k (live2 f g d n k h.1 h.0 h.2 e m q.0 ok past j q.1 q.2 kj nj).0 (gone2 f g d n k h.1 h.0 h.2 e m q.0 ok past j q.1 q.2 kj nj) in
      let w = moved-weighs f3 k e in
      let r : NoHeavier (reparented k e f3) f = (omega (arith, a.0, b.0, c.0, w.0), omega (arith, a.1, b.1, c.1, w.1)) in
      subst (λ z. NoHeavier (reparented k e z) f) (over f g d n k h.1 h.0 h.2 e m q.0 ok past j q.1 q.2 kj nj) r

  edit-way : {f' : Fs} → Edit f f' → OneWay f f'
  edit-way nothing = inr (omega arith, omega arith)
  edit-way (makes b d n ne ok up h) = inl (made-way b d n ne h)
  edit-way (fills k bs t) =
      let f' = with_body k (File bs) f in
      let e = filed-names-weigh f k bs t in
      elim (le-or (data_weight f.nodes) (data_weight f'.nodes)) [
        | inl l ↦ inl ((l, omega arith), there f' (λ x. put-there f k (File bs) x) (λ x. omega (arith, filed-names f k bs t x)))
        | inr l ↦ inr (l, omega arith)
      ]
  edit-way (takes d n k h e) = let w = left-weighs f d n k h.1 h.0.0 (g.sorted d) h.2 in inr (omega (arith, w.0), omega (arith, w.1))
  edit-way (shares d n k h th nd) =
      let w = entered-weighs f d n k h.0.0 h.2 in
      inl ((omega (arith, w.0), omega (arith, w.1)), there (with_entry d n k f) (entered-there f d n k) (λ x. omega (arith, entered-names f d n k h.0 h.2 x)))
  edit-way (moves d n k e m h past q) = moved-way d n k e m h past q
  edit-way (replaces d n k e m j h past q kj nj) = inr (replaced-way d n k e m j h past q kj nj)

-- so with sweeping
module _ (s : State) (sound : SoundState s) (tidy : Tidy s) where
  abbrev Way : State → Type 0
  Way t = NoHeavier s.now t.now ⊎ NoHeavier t.now s.now

  becomes-way : (f' : Fs) (hs : List Handle) → ((k : ℕ) → T (is_open s.handles k) → T (is_open hs k)) → OneWay s.now f' → Way (becomes f' hs s)
  becomes-way f' hs kept (inr h) = let w = sweeps_lighter_lem (is_open hs) f' in inr (omega (arith, h.0, w.0), omega (arith, h.1, w.1))
  becomes-way f' hs kept (inl h) = inl (subst (λ xs. (data_weight s.now.nodes ≤ data_weight xs) × (name_weight s.now.nodes ≤ name_weight xs)) (sym (keep_all (λ (x : Node). stays (is_open hs) f' x.num) f'.nodes (λ x i. stay x.num (in-has f'.nodes x i)))) h.0)
    where
      had : (k : ℕ) → name_count s.now k ≤ name_count f' k → T (eqb k 0 || ltb 0 (name_count s.now k)) ⊎ T (is_open s.handles k) → T (stays (is_open hs) f' k)
      had k l (inr o) = or_snd (eqb k 0 || ltb 0 (name_count f' k)) (is_open hs k) (kept k o)
      had k l (inl o) = elim (or-either (eqb k 0) (ltb 0 (name_count s.now k)) o) [
        | inl z ↦ or_fst (eqb k 0 || ltb 0 (name_count f' k)) (is_open hs k) (or_fst (eqb k 0) (ltb 0 (name_count f' k)) z)
        | inr z ↦ let p = ltb→lt 0 (name_count s.now k) z in holds (stays-named (is_open hs) f' k (omega arith))
      ]

      stay : (k : ℕ) → T (is_there f' k) → T (stays (is_open hs) f' k)
      stay k t = elim (h.1 k t) [ inl n ↦ holds (stays-named (is_open hs) f' k n) | inr q ↦ had k q.1 (or-either (eqb k 0 || ltb 0 (name_count s.now k)) (is_open s.handles k) (tidy k q.0)) ]

  change-way : {t : State} → Change s t → Way t
  unfolding some
  change-way same = inl (omega arith, omega arith)
  change-way synced = inl (omega arith, omega arith)
  change-way (edited {f' = f'} e) = becomes-way f' s.handles (λ k t. t) (edit-way (sound-good s.now sound.0) e)
  change-way (opened {f' = f'} h e ok) = becomes-way f' (h ∷ s.handles) (λ k t. or_snd (eqb h.node k) (is_open s.handles k) t) (edit-way (sound-good s.now sound.0) e)
  change-way (closed p) = inr (sweeps_lighter_lem (is_open (keep p s.handles)) s.now)

pub weighs_one_way_lem : WeighsOneWay
weighs_one_way_lem c s sound tidy = change-way s sound tidy (changes s sound c)

pub no_part_heavier_lem : NoPartHeavier
no_part_heavier_lem c s sound tidy l = elim (weighs_one_way_lem c s sound tidy) [ inl h ↦ (omega (arith, h.0, h.1), omega (arith, h.0, h.1)) | inr h ↦ h ]
