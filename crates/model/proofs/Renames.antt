-- A node under a new name, and one that changes its name.
-- Assumes nothing.
use Rattle.std.proofs.Common.{◌≡◌, ℕ, suc, ◌+◌, ◌≤◌, false, not, T, eqb, List, [], ◌∷◌, length, sym, refl, ap, ◌∙◌, subst, inl, inr, arith}
use Rattle.model.specs.Tree.{Name, Entry, Body, Folder, Fs, same_name, body_at, with_body, with_node, entries_of, is_folder, is_file, parent_of, lookup, insert_entry, remove_entry, with_entry, without_entry, reparented, count_entries, name_count, is_above}
use Rattle.model.specs.Calls.{renamed}
use Rattle.model.specs.Sound.{name_ok, is_there}
use Rattle.model.proofs.Facts.{holds, fails, by-test, same_or}
use Rattle.model.proofs.Nodes.{put-put, folder-has, file-has}
use Rattle.model.proofs.Entries.{Sorted, entry, one, enter-leave, found_in, found-leave, found-keep, found-other, in_count, count_none}
use Rattle.model.proofs.Good.{ents, Dir, Live, body_ok, Good, loosen, hang, live-reach, above_same, above_step, above-self, reach-past, enough}
use Rattle.model.proofs.Changes.{put-there, put-else, refold, re-up, re-dir, re-ents, re-file, left-names, left-nil, left-good, entered-names, entered-count, entered-good, new-there, new-names, grown-there, grown-new, grown-at, grown-same, grown-names, grown-ents, grown-live, grown-good, moved, moved-else, moved-file, moved-good, one-other, one_same}

-- what is there stays there, and files stay files
abbrev pub Stays : Fs → Fs → Type 0
Stays f g = ((k : ℕ) → T (is_there f k) → T (is_there g k)) × ((k : ℕ) → T (is_file (body_at f k)) → T (is_file (body_at g k)))

pub stays_then : (f g h : Fs) → Stays f g → Stays g h → Stays f h
stays_then f g h a b = (λ k t. b.0 k (a.0 k t), λ k t. b.1 k (a.1 k t))

pub re-stays : (f : Fs) (d : ℕ) (es : List Entry) → Dir f d → Stays f (refold f d es)
re-stays f d es dir = (λ k t. subst (λ z. T z) (sym (put-there f d (Folder (parent_of (body_at f d)) es) k)) t, re-file f d es dir)

-- a new node, in a live folder
module _ (f : Fs) (b : Body) (g : Good f 0) (ne : entries_of b ≡ []) (ok : T (body_ok b)) (d : ℕ) (n : Name) (live : Live f d) (nok : T (name_ok n)) (fo : lookup n (ents f d) ≡ []) where
  fo1 : lookup n (ents (with_node b f) d) ≡ []
  fo1 = ap (lookup n) (grown-ents f b g ne d) ∙ fo

  live1 : Live (with_node b f) d
  live1 = grown-live f b g ne d live

  abbrev pub made : Fs
  made = with_entry d n f.next (with_node b f)

  pub made-stays : Stays f made
  made-stays =
      stays_then f (with_node b f) made (grown-there f b g ne, λ k t. subst (λ z. T (is_file z)) (sym (grown-same f b g ne k (file-has k f.nodes t))) t)
      (re-stays (with_node b f) d (insert_entry n f.next (ents (with_node b f) d)) live1.0)

  pub made-there : T (is_there made f.next)
  made-there = (re-stays (with_node b f) d (insert_entry n f.next (ents (with_node b f) d)) live1.0).0 f.next (grown-new f b g ne)

  pub made-file : T (is_file b) → T (is_file (body_at made f.next))
  made-file t = (re-stays (with_node b f) d (insert_entry n f.next (ents (with_node b f) d)) live1.0).1 f.next (subst (λ z. T (is_file z)) (sym (grown-at f b g ne)) t)

  pub made-good : (T (is_folder b) → parent_of b ≡ d) → Good made 0
  made-good parent =
      let g1 = grown-good f b g ne ok in
      let z : f.next ≡ 0 → ⊥ = λ e. new-there f b g ne (subst (λ k. T (is_there f k)) (sym e) (folder-has 0 f.nodes g.top)) in
      hang f.next (entered-good (with_node b f) d n f.next live1 fo1 f.next (loosen f.next g1) nok (grown-new f b g ne) z (λ _. refl)) (λ dir _.
      let es = insert_entry n f.next (ents (with_node b f) d) in
      let o = one_same f.next f.next refl in
      let u : parent_of (body_at made f.next) ≡ d = re-up (with_node b f) d es live1.0 f.next ∙ (ap parent_of (grown-at f b g ne) ∙ parent (subst (λ z. T (is_folder z)) (grown-at f b g ne) (subst (λ z. T z) (re-dir (with_node b f) d es live1.0 f.next) dir))) in
      let r = live-reach d g1 live1 in
      inl (
        omega (arith, entered-names (with_node b f) d n f.next live1 fo1 f.next, grown-names f b g ne f.next, new-names f b g ne),
        subst (λ v. 1 ≤ count_entries f.next (ents made v)) (sym u) (entered-count (with_node b f) d n f.next live1 fo1),
        (suc r.0, above_step r.0 made f.next (subst (λ v. T (is_above r.0 made 0 v)) (sym u) (subst (λ t. T t) (sym (above_same r.0 (with_node b f) made 0 d (re-up (with_node b f) d es live1.0))) r.1))),
      ))

-- a node without a name, but for its own entries, gets one
module _ (f : Fs) (k e : ℕ) (m : Name) (g : Good f k) (live : Live f e) (fo : lookup m (ents f e) ≡ []) where
  pub hangs-good :
      T (name_ok m) → T (is_there f k) → (k ≡ 0 → ⊥) → (Dir f k → name_count f k ≡ 0) → (N : ℕ) → T (is_above N f 0 e) → (Dir f k → is_above N f k e ≡ false) →
      Good (reparented k e (with_entry e m k f)) 0
  hangs-good ok th kz nk N parent past =
      let es = insert_entry m k (ents f e) in
      let f1 = with_entry e m k f in
      let g1 = entered-good f e m k live fo k g ok th kz (λ _. refl) in
      let ups = re-up f e es live.0 in
      by-test (is_folder (body_at f1 k)) {x = with_body k (Folder e (ents f1 k)) f1} {y = f1} (λ z. Good z 0)
      (λ t.
      let dir1 : Dir f1 k = holds t in
      let dir : Dir f k = subst (λ z. T z) (re-dir f e es live.0 k) dir1 in
      let a = nk dir in
      let o = one_same k k refl in
      moved-good f1 k e dir1 g1 kz (omega (arith, entered-names f e m k live fo k)) (entered-count f e m k live fo)
      (N, reach-past f1 (moved f1 k e dir1) k (moved-else f1 k e dir1) N e (subst (λ z. T z) (sym (above_same N f f1 0 e ups)) parent) (above_same N f f1 k e ups ∙ past dir)))
      (λ t. hang k g1 (λ d _. absurd (fails t d)))

  pub hangs-stays : Stays f (reparented k e (with_entry e m k f))
  hangs-stays =
      let f1 = with_entry e m k f in
      stays_then f f1 (reparented k e f1) (re-stays f e (insert_entry m k (ents f e)) live.0)
      (by-test (is_folder (body_at f1 k)) {x = with_body k (Folder e (ents f1 k)) f1} {y = f1} (λ z. Stays f1 z)
      (λ t. (λ x h. subst (λ z. T z) (sym (put-there f1 k (Folder e (ents f1 k)) x)) h, moved-file f1 k e (holds t)))
      (λ t. (λ x h. h, λ x h. h)))

-- to enter a name over another is to leave that first
pub enter-over : (f : Fs) (e : ℕ) (m : Name) (k : ℕ) → Dir f e → Sorted (ents f e) → with_entry e m k (without_entry e m f) ≡ with_entry e m k f
enter-over f e m k dir so =
    let es = ents f e in
    let f1 = without_entry e m f in
    let same : Folder (parent_of (body_at f1 e)) (insert_entry m k (ents f1 e)) ≡ Folder (parent_of (body_at f e)) (insert_entry m k es) =
    ap (λ u. Folder u (insert_entry m k (ents f1 e))) (re-up f e (remove_entry m es) dir e) ∙ ap (λ z. Folder (parent_of (body_at f e)) z) (ap (insert_entry m k) (re-ents f e (remove_entry m es) dir) ∙ enter-leave m k es so) in
    ap (λ b. with_body e b f1) same ∙ ap (λ z. record { next = f.next; nodes = z }) (put-put e (Folder (parent_of (body_at f e)) (remove_entry m es)) (Folder (parent_of (body_at f e)) (insert_entry m k es)) f.nodes)

-- a node by one name gets another
module _
    (f : Fs) (g : Good f 0) (d : ℕ) (n : Name) (k : ℕ) (more : List ℕ) (live_d : Live f d) (fn : lookup n (ents f d) ≡ k ∷ more) (e : ℕ) (m : Name) (live_e : Live f e) (ok : T (name_ok m))
    (past : Dir f k → is_above (length f.nodes) f k e ≡ false) where
  abbrev f1 : Fs
  f1 = without_entry d n f

  abbrev es1 : List Entry
  es1 = remove_entry n (ents f d)

  pub g1 : Good f1 k
  g1 = left-good f d n k more live_d.0 fn k (loosen k g) (λ _ h. absurd (h refl))

  pub names1 : (x : ℕ) → name_count f x ≡ one (eqb x k) + name_count f1 x
  names1 = left-names f d n k more live_d.0 fn 0 g

  pub kz : k ≡ 0 → ⊥
  kz q = let o = one_same 0 k (sym q) in let z = g.top_names in omega (arith, names1 0)

  pub th : T (is_there f k)
  th = (g.each d (entry n k) (found_in n k more (ents f d) fn)).1

  nk : Dir f k → name_count f1 k ≡ 0
  nk dir = let o = one_same k k refl in elim (g.hung k dir kz kz) [ inl h ↦ let a = h.0 in omega (arith, names1 k) | inr h ↦ let a = h.0 in omega (arith, names1 k) ]

  pub ek : e ≡ k → ⊥
  ek q = fails (past (subst (λ z. Dir f z) q live_e.0)) (self (length f.nodes))
    where
      self : (N : ℕ) → T (is_above N f k e)
      self N = above-self N f k e (sym q)

  pub live_e1 : Live f1 e
  live_e1 = (subst (λ z. T z) (sym (re-dir f d es1 live_d.0 e)) live_e.0, elim live_e.1 [ inl z ↦ inl z | inr h ↦ inr (let o = one-other e k ek in omega (arith, names1 e)) ])

  up1 : T (is_above (length f.nodes) f1 0 e)
  up1 = subst (λ z. T z) (sym (above_same (length f.nodes) f f1 0 e (re-up f d es1 live_d.0))) (enough e g live_e)

  past1 : Dir f1 k → is_above (length f.nodes) f1 k e ≡ false
  past1 dir = above_same (length f.nodes) f f1 k e (re-up f d es1 live_d.0) ∙ past (subst (λ z. T z) (re-dir f d es1 live_d.0 k) dir)

  there1 : Stays f f1
  there1 = re-stays f d es1 live_d.0

  -- where there was nothing of that name
  pub fm1 : lookup m (ents f e) ≡ [] → lookup m (ents f1 e) ≡ []
  fm1 fm =
      elim (same_or e d) [
        | inl q ↦ ap (λ z. lookup m (ents f1 z)) q ∙ (ap (lookup m) (re-ents f d es1 live_d.0) ∙ found-keep m (λ (x : Entry). not (same_name n x.name)) (ents f d) (ap (λ z. lookup m (ents f z)) (sym q) ∙ fm))
        | inr z ↦ ap (λ b. lookup m (entries_of b)) (put-else f d (Folder (parent_of (body_at f d)) es1) e z) ∙ fm
      ]

  pub to-missing : lookup m (ents f e) ≡ [] → Good (renamed d n k e m f) 0 × Stays f (renamed d n k e m f)
  to-missing fm = (
    hangs-good f1 k e m g1 live_e1 (fm1 fm) ok (there1.0 k th) kz (λ dir. nk (subst (λ z. T z) (re-dir f d es1 live_d.0 k) dir)) (length f.nodes) up1 past1,
    stays_then f f1 (renamed d n k e m f) there1 (hangs-stays f1 k e m g1 live_e1 (fm1 fm)),
  )

  -- where there was another, without entries
  module _ (j : ℕ) (rest : List ℕ) (fm : lookup m (ents f e) ≡ j ∷ rest) (kj : k ≡ j → ⊥) (nj : ents f j ≡ []) where
    pub fm2 : lookup m (ents f1 e) ≡ j ∷ rest
    fm2 =
        elim (same_or e d) [
          | inl q ↦
              let at-d : lookup m (ents f d) ≡ j ∷ rest = ap (λ z. lookup m (ents f z)) (sym q) ∙ fm in
              ap (λ z. lookup m (ents f1 z)) q ∙ (ap (lookup m) (re-ents f d es1 live_d.0) ∙ (found-other m n (ents f d) (λ r. let two : lookup n (ents f d) ≡ j ∷ rest = ap (λ z. lookup z (ents f d)) (sym r) ∙ at-d in kj (cc)) ∙ at-d))
          | inr z ↦ ap (λ b. lookup m (entries_of b)) (put-else f d (Folder (parent_of (body_at f d)) es1) e z) ∙ fm
        ]

    abbrev f2 : Fs
    f2 = without_entry e m f1

    abbrev es2 : List Entry
    es2 = remove_entry m (ents f1 e)

    pub g2 : Good f2 k
    g2 = left-good f1 e m j rest live_e1.0 fm2 k g1 (λ _ _. left-nil f d n k more live_d.0 fn j nj)

    pub names2 : (x : ℕ) → name_count f1 x ≡ one (eqb x j) + name_count f2 x
    names2 = left-names f1 e m j rest live_e1.0 fm2 k g1

    ej : e ≡ j → ⊥
    ej q =
        let c = in_count (ents f e) (entry m j) (found_in m j rest (ents f e) fm) in
        let z : count_entries j (ents f e) ≡ 0 = ap (λ y. count_entries j (ents f y)) q ∙ (ap (count_entries j) nj ∙ count_none j) in
        omega arith

    pub live2 : Live f2 e
    live2 = (subst (λ z. T z) (sym (re-dir f1 e es2 live_e1.0 e)) live_e1.0, elim live_e1.1 [ inl z ↦ inl z | inr h ↦ inr (let o = one-other e j ej in omega (arith, names2 e)) ])

    pub gone2 : lookup m (ents f2 e) ≡ []
    gone2 = ap (lookup m) (re-ents f1 e es2 live_e1.0) ∙ found-leave m (ents f1 e)

    dir2 : Dir f2 k → Dir f1 k
    dir2 h = subst (λ z. T z) (re-dir f1 e es2 live_e1.0 k) h

    pub over : with_entry e m k f2 ≡ with_entry e m k f1
    over = enter-over f1 e m k live_e1.0 (g1.sorted e)

    there2 : Stays f f2
    there2 = stays_then f f1 f2 there1 (re-stays f1 e es2 live_e1.0)

    pub to-there : Good (renamed d n k e m f) 0 × Stays f (renamed d n k e m f)
    to-there =
        subst (λ z. Good (reparented k e z) 0 × Stays f (reparented k e z)) over (
          hangs-good f2 k e m g2 live2 gone2 ok (there2.0 k th) kz
              (λ dir. let a = nk (subst (λ z. T z) (re-dir f d es1 live_d.0 k) (dir2 dir)) in omega (arith, names2 k)) (length f.nodes)
              (subst (λ z. T z) (sym (above_same (length f.nodes) f1 f2 0 e (re-up f1 e es2 live_e1.0))) up1)
              (λ dir. above_same (length f.nodes) f1 f2 k e (re-up f1 e es2 live_e1.0) ∙ past1 (dir2 dir)),
          stays_then f f2 (reparented k e (with_entry e m k f2)) there2 (hangs-stays f2 k e m g2 live2 gone2),
        )
