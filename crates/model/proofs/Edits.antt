-- The seven edits that calls make of a tree, and which call makes which: every law about all calls goes by these cases.
-- Assumes nothing.
use Rattle.std.proofs.Common.{◌≡◌, ℕ, ◌+◌, Bool, true, false, not, ◌&&◌, ◌||◌, T, eqb, ltb, leb, List, [], ◌∷◌, length, sym, refl, ap, subst, inl, inr}
use Rattle.std.proofs.lemmas.Bool.{eqb-false}
use Rattle.model.specs.Tree.{Name, Body, File, Folder, Link, Fs, keep, body_at, with_body, with_node, entries_of, is_folder, is_link, is_file, bytes_of, parent_of, lookup, remove_entry, insert_entry, with_entry, without_entry, is_above}
use Rattle.model.specs.Walk.{Place, Wrong, There, Missing, place, path_ok}
use Rattle.model.specs.Calls.{Handle, Way, Old, May, New, Call, Open, Close, Read, Write, Resize, Stat, StatOpen, MakeFolder, Remove, RemoveFolder, NextName, Rename, Join, MakeLink, ReadLink, Sync, State, Out, becomes, give_handle, done_with, handle_of, lowest_free, written, resized, bytes_ok, max_file_size, opens, closes, reads, writes, resizes, stats, stats_open, makes_folder, is_empty, removes, removes_folder, next_names, renamed, renames, joins, makes_link, reads_link, names_entry, if_numbers_left, if_names_entry, follows, does}
use Rattle.model.specs.Sound.{name_ok, is_there, SoundState}
use Rattle.model.proofs.Facts.{and_both, or_fst, or_snd, is_false, holds, fails, by-test, unless, when, In}
use Rattle.model.proofs.Nodes.{folder-has}
use Rattle.model.proofs.Entries.{entry, found_in}
use Rattle.model.proofs.Good.{ents, Dir, Live, body_ok, Good, sound-good}
use Rattle.model.proofs.Changes.{left-good, entered-good, filed-good, filed-file, put-there}
use Rattle.model.proofs.Sweeps.{HandleOk, Handles, handles-of}
use Rattle.model.proofs.Walks.{PlaceOk, place_ok}
use Rattle.model.proofs.Renames.{Stays, re-stays, made-stays, made-there, made-file, made-good, to-missing, to-there}
use Rattle.model.proofs.Writes.{handle-in}

-- a name that is free in a live folder; a name there that stands for k
abbrev pub Free : Fs → ℕ → Name → Type 0
Free f d n = Live f d × T (name_ok n) × (lookup n (ents f d) ≡ [])

abbrev pub Found : Fs → ℕ → Name → ℕ → Type 0
Found f d n k = Live f d × (more : List ℕ) × (lookup n (ents f d) ≡ k ∷ more)

pub data Edit (f : Fs) : Fs → Type 0 where
  -- nothing; a new node; other bytes of a file
  nothing : Edit f f
  makes : (b : Body) (d : ℕ) (n : Name) → entries_of b ≡ [] → T (body_ok b) → (T (is_folder b) → parent_of b ≡ d) → Free f d n → Edit f (with_entry d n f.next (with_node b f))
  fills : (k : ℕ) (bs : List ℕ) → T (is_file (body_at f k)) → Edit f (with_body k (File bs) f)
  -- a name goes, of what is no folder or an empty one; a further name
  takes : (d : ℕ) (n : Name) (k : ℕ) → Found f d n k → (Dir f k → ents f k ≡ []) → Edit f (without_entry d n f)
  shares : (d : ℕ) (n : Name) (k : ℕ) → Free f d n → T (is_there f k) → is_folder (body_at f k) ≡ false → Edit f (with_entry d n k f)
  -- another name, where there is none, and where it stands for what is no folder or an empty one
  moves : (d : ℕ) (n : Name) (k e : ℕ) (m : Name) → Found f d n k → (Dir f k → is_above (length f.nodes) f k e ≡ false) → Free f e m → Edit f (renamed d n k e m f)
  replaces : (d : ℕ) (n : Name) (k e : ℕ) (m : Name) (j : ℕ) → Found f d n k → (Dir f k → is_above (length f.nodes) f k e ≡ false) → Found f e m j → (k ≡ j → ⊥) → ents f j ≡ [] → Edit f (renamed d n k e m f)

pub found_ok : {f : Fs} (d : ℕ) (n : Name) (k : ℕ) → Good f 0 → Found f d n k → T (name_ok n) × T (is_there f k)
found_ok {f} d n k g h = g.each d (entry n k) (found_in n k h.1 (ents f d) h.2)

-- each leaves a sound tree, in which what was there is there
pub edit-good : {f f' : Fs} → Good f 0 → Edit f f' → Good f' 0 × Stays f f'
edit-good g nothing = (g, (λ k t. t, λ k t. t))
edit-good {f} g (makes b d n ne ok up h) = (made-good f b g ne ok d n h.0 h.1 h.2 up, made-stays f b g ne ok d n h.0 h.1 h.2)
edit-good {f} g (fills k bs t) = (filed-good f k bs t g, (λ x h. subst (λ z. T z) (sym (put-there f k (File bs) x)) h, filed-file f k bs t))
edit-good {f} g (takes d n k h e) = (left-good f d n k h.1 h.0.0 h.2 0 g (λ dir _. e dir), re-stays f d (remove_entry n (ents f d)) h.0.0)
edit-good {f} g (shares d n k h th nd) =
    (entered-good f d n k h.0 h.2 0 g h.1 th (λ z. fails nd (subst (λ y. Dir f y) (sym z) g.top)) (λ dir. absurd (fails nd dir)), re-stays f d (insert_entry n k (ents f d)) h.0.0)
edit-good {f} g (moves d n k e m h past q) = to-missing f g d n k h.1 h.0 h.2 e m q.0 q.1 past q.2
edit-good {f} g (replaces d n k e m j h past q kj nj) = to-there f g d n k h.1 h.0 h.2 e m q.0 (found_ok e m j g q).0 past j q.1 q.2 kj nj

-- what a call makes of a state
pub data Change (s : State) : State → Type 0 where
  same : Change s s
  synced : Change s (record { now = s.now; handles = s.handles; could = s.now ∷ [] })
  edited : {f' : Fs} → Edit s.now f' → Change s (becomes f' s.handles s)
  opened : {f' : Fs} (h : Handle) → Edit s.now f' → HandleOk f' h → Change s (becomes f' (h ∷ s.handles) s)
  closed : (p : Handle → Bool) → Change s (becomes s.now (keep p s.handles) s)

file-else : (b : Body) → is_folder b ≡ false → is_link b ≡ false → T (is_file b)
unfolding is_folder is_file is_link
file-else (File bs) p q = tt
file-else (Folder u es) p q = absurd (fails p tt)
file-else (Link l) p q = absurd (fails q tt)

none-nil : {A : Type 0} (xs : List A) → is_empty xs ≡ true → xs ≡ []
unfolding is_empty
none-nil [] e = refl
none-nil (x ∷ xs) e = absurd (holds e)

nil-none : {A : Type 0} (xs : List A) → xs ≡ [] → is_empty xs ≡ true
unfolding is_empty
nil-none xs e = ap is_empty e

module _ (s : State) (sound : SoundState s) where
  abbrev f : Fs
  f = s.now

  g : Good f 0
  g = sound-good f sound.0

  hs : Handles f s.handles
  hs = handles-of s sound

  abbrev Ok : Out → Type 0
  Ok o = Change s o.state

  new-file : (d : ℕ) (n : Name) (w : Bool) → Free f d n → Ok (give_handle f.next w (with_entry d n f.next (with_node (File []) f)) s)
  unfolding entries_of is_folder is_file
  new-file d n w h =
      let b = File [] in
      opened (record { num = lowest_free 64 0 s.handles; node = f.next; writes = w }) (makes b d n refl tt (λ t. absurd t) h) (made-there f b g refl tt d n h.0 h.1 h.2, λ _. made-file f b g refl tt d n h.0 h.1 h.2 tt)

  old-node : (d : ℕ) (n : Name) (k : ℕ) (w : Bool) → PlaceOk f true (There d n k) → (T w → is_folder (body_at f k) ≡ false) → Ok (give_handle k w f s)
  old-node d n k w h nf = opened (record { num = lowest_free 64 0 s.handles; node = k; writes = w }) nothing (ok h)
    where
      ok : PlaceOk f true (There d n k) → HandleOk f (record { num = lowest_free 64 0 s.handles; node = k; writes = w })
      ok (inl h) = (folder-has k f.nodes h.1.0, λ t. absurd (fails (nf t) h.1.0))
      ok (inr h) = ((found_ok d n k g (h.0, h.1, h.2)).1, λ t. file-else (body_at f k) (nf t) (h.3 refl))

  opens-ok : (way : Way) (w : Bool) (p : Place) → PlaceOk f (follows way) p → Ok (opens way w p s)
  unfolding opens follows
  opens-ok Old w (Wrong k) h = same
  opens-ok May w (Wrong k) h = same
  opens-ok New w (Wrong k) h = same
  opens-ok Old w (Missing d n) h = same
  opens-ok May w (Missing d n) h = new-file d n w h
  opens-ok New w (Missing d n) h = new-file d n w h
  opens-ok Old w (There d n k) h = unless Ok (is_folder (body_at f k) && w) same (λ e. old-node d n k w h (λ t. is_false (is_folder (body_at f k)) (λ d'. fails e (and_both (is_folder (body_at f k)) w d' t))))
  opens-ok May w (There d n k) h = unless Ok (is_folder (body_at f k)) same (λ e. old-node d n k w h (λ t. e))
  opens-ok New w (There d n k) h = same

  closes-ok : (xs : List Handle) → Ok (closes xs s)
  unfolding closes
  closes-ok [] = same
  closes-ok (h ∷ more) = closed (λ (x : Handle). not (eqb x.num h.num))

  reads_ok : (from most : ℕ) (xs : List Handle) → Ok (reads from most xs s)
  unfolding reads
  reads_ok from most [] = same
  reads_ok from most (h ∷ more) = when Ok (is_file (body_at f h.node)) (λ _. same) same

  abbrev Ours : List Handle → Type 0
  Ours xs = (x : Handle) → In x xs → In x s.handles

  ours : (h : ℕ) → Ours (handle_of h s.handles)
  ours h x i = (handle-in h s.handles x i).0

  writes_ok : (from : ℕ) (bs : List ℕ) (xs : List Handle) → Ours xs → Ok (writes from bs xs s)
  unfolding writes
  writes_ok from bs [] h = same
  writes_ok from bs (x ∷ more) h = when Ok x.writes (λ w. when Ok (leb (from + length bs) max_file_size) (λ _. edited (fills x.node (written from bs (bytes_of (body_at f x.node))) ((hs x (h x (inl refl))).1 (holds w)))) same) same

  resizes-ok : (n : ℕ) (xs : List Handle) → Ours xs → Ok (resizes n xs s)
  unfolding resizes
  resizes-ok n [] h = same
  resizes-ok n (x ∷ more) h = when Ok x.writes (λ w. when Ok (leb n max_file_size) (λ _. edited (fills x.node (resized n (bytes_of (body_at f x.node))) ((hs x (h x (inl refl))).1 (holds w)))) same) same

  stats-ok : (p : Place) → Ok (stats p s)
  unfolding stats
  stats-ok (Wrong k) = same
  stats-ok (Missing d n) = same
  stats-ok (There d n k) = same

  stats_open-ok : (xs : List Handle) → Ok (stats_open xs s)
  unfolding stats_open
  stats_open-ok [] = same
  stats_open-ok (h ∷ more) = same

  makes_folder-ok : (p : Place) → PlaceOk f false p → Ok (makes_folder p s)
  unfolding makes_folder entries_of is_folder parent_of
  makes_folder-ok (Wrong k) h = same
  makes_folder-ok (Missing d n) h = edited (makes (Folder d []) d n refl tt (λ _. refl) h)
  makes_folder-ok (There d n k) h = same

  makes_link-ok : (to : List ℕ) (p : Place) → PlaceOk f false p → Ok (makes_link to p s)
  unfolding makes_link entries_of is_folder is_file bytes_of
  makes_link-ok to (Wrong k) h = same
  makes_link-ok to (There d n k) h = same
  makes_link-ok to (Missing d n) h = when Ok (path_ok to) (λ e. edited (makes (Link to) d n refl (holds e) (λ t. absurd t) h)) same

  removes-ok : (p : Place) → PlaceOk f false p → Ok (removes p s)
  unfolding removes
  removes-ok (Wrong k) h = same
  removes-ok (Missing d n) h = same
  removes-ok (There d n k) h = unless Ok (is_folder (body_at f k)) same (λ e. elim h [ inl q ↦ absurd (fails e q.1.0) | inr q ↦ edited (takes d n k (q.0, q.1, q.2) (λ dir. absurd (fails e dir))) ])

  removes_folder-ok : (p : Place) → PlaceOk f false p → Ok (removes_folder p s)
  unfolding removes_folder
  removes_folder-ok (Wrong k) h = same
  removes_folder-ok (Missing d n) h = same
  removes_folder-ok (There d n k) h =
      unless Ok (is_empty n) same (λ nn. unless Ok (not (is_folder (body_at f k))) same (λ _. when Ok (is_empty (ents f k))
      (λ e. elim h [ inl q ↦ absurd (fails nn (holds (nil-none n q.0))) | inr q ↦ edited (takes d n k (q.0, q.1, q.2) (λ _. none-nil (ents f k) e)) ]) same))

  next_names-ok : (n : Name) (xs : List Handle) → Ok (next_names n xs s)
  unfolding next_names
  next_names-ok n [] = same
  next_names-ok n (h ∷ more) = when Ok (is_folder (body_at f h.node)) (λ _. same) same

  joins-ok : (p q : Place) → PlaceOk f false p → PlaceOk f false q → Ok (joins p q s)
  unfolding joins
  joins-ok (Wrong k) q h j = same
  joins-ok (Missing d n) q h j = same
  joins-ok (There d n k) (Wrong i) h j = same
  joins-ok (There d n k) (There e m i) h j = same
  joins-ok (There d n k) (Missing e m) h j = unless Ok (is_folder (body_at f k)) same (λ nd. elim h [ inl q ↦ absurd (fails nd q.1.0) | inr q ↦ edited (shares e m k j (found_ok d n k g (q.0, q.1, q.2)).1 nd) ])

  reads_link-ok : (p : Place) → Ok (reads_link p s)
  unfolding reads_link
  reads_link-ok (Wrong k) = same
  reads_link-ok (Missing d n) = same
  reads_link-ok (There d n k) = when Ok (is_link (body_at f k)) (λ _. same) same

  renames-ok : (p q : Place) → PlaceOk f false p → PlaceOk f false q → Ok (renames p q s)
  unfolding renames
  renames-ok (Wrong k) q h j = same
  renames-ok (Missing d n) q h j = same
  renames-ok (There d n k) (Wrong i) h j = same
  renames-ok (There d n k) (Missing e m) h j =
      unless Ok (is_empty n) same (λ nn. unless Ok (is_folder (body_at f k) && is_above (length f.nodes) f k e) same
      (λ na. elim h [
        | inl q ↦ absurd (fails nn (holds (nil-none n q.0)))
        | inr q ↦ edited (moves d n k e m (q.0, q.1, q.2) (λ dir. is_false (is_above (length f.nodes) f k e) (λ t. fails na (and_both (is_folder (body_at f k)) (is_above (length f.nodes) f k e) dir t))) j)
      ]))
  renames-ok (There d n k) (There e m i) h j =
      unless Ok (is_empty n || is_empty m) same (λ nn. by-test (eqb k i) Ok (λ _. edited nothing)
      (λ ki. unless Ok (is_folder (body_at f k) && is_above (length f.nodes) f k e) same
      (λ na. unless Ok (is_folder (body_at f k) && not (is_folder (body_at f i))) same
      (λ _. unless Ok (not (is_folder (body_at f k)) && is_folder (body_at f i)) same
      (λ _. when Ok (is_empty (ents f i)) (λ ei. go nn ki na ei h j) same)))))
    where
      go : (is_empty n || is_empty m) ≡ false → eqb k i ≡ false → (is_folder (body_at f k) && is_above (length f.nodes) f k e) ≡ false → is_empty (ents f i) ≡ true → PlaceOk f false (There d n k) → PlaceOk f false (There e m i) → Ok (done_with (renamed d n k e m f) s)
      go nn ki na ei (inl q) y = absurd (fails nn (or_fst (is_empty n) (is_empty m) (holds (nil-none n q.0))))
      go nn ki na ei (inr q) (inl y) = absurd (fails nn (or_snd (is_empty n) (is_empty m) (holds (nil-none m y.0))))
      go nn ki na ei (inr q) (inr y) =
          edited (replaces d n k e m i (q.0, q.1, q.2) (λ dir. is_false (is_above (length f.nodes) f k e) (λ t. fails na (and_both (is_folder (body_at f k)) (is_above (length f.nodes) f k e) dir t))) (y.0, y.1, y.2) (eqb-false k i ki) (none-nil (ents f i) ei))

  if-numbers : (o : Out) → Ok o → Ok (if_numbers_left s o)
  if-numbers o h = unless Ok (leb 9223372036854775807 f.next) same (λ _. h)

  if-entry : (p : List ℕ) (o : Out) → Ok o → Ok (if_names_entry p s o)
  if-entry p o h = when Ok (names_entry p) (λ _. h) same

  at-place : (p : List ℕ) → PlaceOk f false (place false f p)
  at-place p = place_ok f false g p

  pub changes : (c : Call) → Change s (does c s).state
  unfolding does
  changes (Open way w p) = unless Ok (leb 64 (length s.handles)) same (λ _. if-numbers (opens way w (place (follows way) f p) s) (opens-ok way w (place (follows way) f p) (place_ok f (follows way) g p)))
  changes (Close h) = closes-ok (handle_of h s.handles)
  changes (Read h from most) = unless Ok (ltb 65536 most) same (λ _. reads_ok from most (handle_of h s.handles))
  changes (Write h from bs) = unless Ok (ltb 65536 (length bs) || not (bytes_ok bs)) same (λ _. writes_ok from bs (handle_of h s.handles) (ours h))
  changes (Resize h n) = resizes-ok n (handle_of h s.handles) (ours h)
  changes (Stat p) = stats-ok (place false f p)
  changes (StatOpen h) = stats_open-ok (handle_of h s.handles)
  changes (MakeFolder p) = if-entry p (if_numbers_left s (makes_folder (place false f p) s)) (if-numbers (makes_folder (place false f p) s) (makes_folder-ok (place false f p) (at-place p)))
  changes (Remove p) = if-entry p (removes (place false f p) s) (removes-ok (place false f p) (at-place p))
  changes (RemoveFolder p) = if-entry p (removes_folder (place false f p) s) (removes_folder-ok (place false f p) (at-place p))
  changes (NextName h n) = unless Ok (ltb 255 (length n)) same (λ _. next_names-ok n (handle_of h s.handles))
  changes (Rename p q) = if-entry p (if_names_entry q s (renames (place false f p) (place false f q) s)) (if-entry q (renames (place false f p) (place false f q) s) (renames-ok (place false f p) (place false f q) (at-place p) (at-place q)))
  changes (Join p q) = if-entry q (joins (place false f p) (place false f q) s) (joins-ok (place false f p) (place false f q) (at-place p) (at-place q))
  changes (MakeLink to p) = if-entry p (if_numbers_left s (makes_link to (place false f p) s)) (if-numbers (makes_link to (place false f p) s) (makes_link-ok to (place false f p) (at-place p)))
  changes (ReadLink p) = reads_link-ok (place false f p)
  changes Sync = synced
