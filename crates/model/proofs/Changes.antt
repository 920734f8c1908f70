-- What each change of a tree leaves sound.
-- Assumes nothing.
use Rattle.std.proofs.Common.{◌≡◌, ℕ, suc, ◌+◌, ◌≤◌, false, not, T, eqb, ◌⊎◌, List, [], ◌∷◌, sym, refl, ap, ◌∙◌, subst, inl, inr, arith}
use Rattle.std.proofs.lemmas.Bool.{eq-eqb, ne_eqb, eqb-true}
use Rattle.model.specs.Tree.{Name, Entry, Body, File, Folder, Link, Fs, keep, same_name, body_at, with_body, with_node, entries_of, is_folder, is_file, parent_of, lookup, insert_entry, remove_entry, with_entry, without_entry, count_entries, name_count, is_above}
use Rattle.model.specs.Sound.{name_ok, is_there}
use Rattle.model.proofs.Facts.{or-either, or_fst, or_snd, is_true, holds, fails, same_or, In, in-keep, some_in}
use Rattle.model.proofs.Nodes.{has, node, put_same, put_other, put_has, put-rising, put-names, names-some, has-or, in-has, in_body, folder-has, file-has, more-has, more-old, more-new, more-none, more-rising, more-names}
use Rattle.model.proofs.Entries.{Sorted, one, sorted-keep, sorted-enter, in-enter, count-enter, count-leave, count_none, count-some}
use Rattle.model.proofs.Good.{ents, Dir, Reach, Hung, Live, body_ok, Good, above_same, above_step, reach_live, reach-but}

pub not-both : (b : Body) → T (is_folder b) → T (is_file b) → ⊥
unfolding is_folder is_file
not-both (File bs) p q = p
not-both (Folder u es) p q = q
not-both (Link l) p q = p

-- a body is put under a number
module _ (f : Fs) (n : ℕ) (b : Body) where
  pub put-at : T (is_there f n) → body_at (with_body n b f) n ≡ b
  put-at t = put_same n b f.nodes t

  pub put-else : (k : ℕ) → (k ≡ n → ⊥) → body_at (with_body n b f) k ≡ body_at f k
  put-else k h = put_other k n b f.nodes h

  pub put-there : (k : ℕ) → is_there (with_body n b f) k ≡ is_there f k
  put-there k = put_has k n b f.nodes

  -- all but how folders hang
  pub put-good :
      (p q : ℕ) → Good f p → T (is_there f n) → T (body_ok b) → Sorted (entries_of b) → ((e : Entry) → In e (entries_of b) → T (name_ok e.name) × T (is_there f e.node)) → (n ≡ 0 → T (is_folder b) × (parent_of b ≡ 0)) → name_count (with_body n b f) 0 ≡ 0 →
      ((k : ℕ) → Dir (with_body n b f) k → (k ≡ 0 → ⊥) → (k ≡ q → ⊥) → Hung (with_body n b f) k) → Good (with_body n b f) q
  put-good p q g t ok so ea z0 nz hu =
      record {
        rising = subst (λ z. T z) (sym (put-rising 0 n b f.nodes)) g.rising;
        small = λ k h. g.small k (subst (λ z. T z) (put-there k) h);
        body = λ k h. at-either k (λ z. T (body_ok z)) (λ _. ok) (g.body k (subst (λ z. T z) (put-there k) h));
        sorted = λ k. at-either k (λ z. Sorted (entries_of z)) (λ _. so) (g.sorted k);
        each = λ k e. at-either k (λ z. In e (entries_of z) → T (name_ok e.name) × T (is_there (with_body n b f) e.node)) (λ _ i. still e (ea e i)) (λ i. still e (g.each k e i));
        hung = hu;
        top = at-either 0 (λ z. T (is_folder z)) (λ e. (z0 (sym e)).0) g.top;
        top_up = at-either 0 (λ z. parent_of z ≡ 0) (λ e. (z0 (sym e)).1) g.top_up;
        top_names = nz;
      }
    where
      at-either : (k : ℕ) (P : Body → Type 0) → (k ≡ n → P b) → P (body_at f k) → P (body_at (with_body n b f) k)
      at-either k P new old = elim (same_or k n) [ inl e ↦ subst P (sym (put-at t) ∙ ap (body_at (with_body n b f)) (sym e)) (new e) | inr h ↦ subst P (sym (put-else k h)) old ]

      still : (e : Entry) → T (name_ok e.name) × T (is_there f e.node) → T (name_ok e.name) × T (is_there (with_body n b f) e.node)
      still e h = (h.0, subst (λ z. T z) (sym (put-there e.node)) h.1)

-- a folder gets other entries
abbrev pub refold : Fs → ℕ → List Entry → Fs
refold f d es = with_body d (Folder (parent_of (body_at f d)) es) f

module _ (f : Fs) (d : ℕ) (es : List Entry) (dir : Dir f d) where
  pub re-at : body_at (refold f d es) d ≡ Folder (parent_of (body_at f d)) es
  re-at = put-at f d (Folder (parent_of (body_at f d)) es) (folder-has d f.nodes dir)

  pub re-ents : ents (refold f d es) d ≡ es
  unfolding entries_of
  re-ents = ap entries_of re-at

  pub re-up : (k : ℕ) → parent_of (body_at (refold f d es) k) ≡ parent_of (body_at f k)
  unfolding parent_of
  re-up k =
      elim (same_or k d) [
        | inl e ↦ ap (λ z. parent_of (body_at (refold f d es) z)) e ∙ (ap parent_of re-at ∙ ap (λ z. parent_of (body_at f z)) (sym e))
        | inr h ↦ ap parent_of (put-else f d (Folder (parent_of (body_at f d)) es) k h)
      ]

  pub re-dir : (k : ℕ) → is_folder (body_at (refold f d es) k) ≡ is_folder (body_at f k)
  unfolding is_folder
  re-dir k =
      elim (same_or k d) [
        | inl e ↦ ap (λ z. is_folder (body_at (refold f d es) z)) e ∙ (ap is_folder re-at ∙ (sym (is_true (is_folder (body_at f d)) dir) ∙ ap (λ z. is_folder (body_at f z)) (sym e)))
        | inr h ↦ ap is_folder (put-else f d (Folder (parent_of (body_at f d)) es) k h)
      ]

  pub re-names : (k : ℕ) → name_count (refold f d es) k + count_entries k (ents f d) ≡ name_count f k + count_entries k es
  unfolding entries_of
  re-names k = put-names k d (Folder (parent_of (body_at f d)) es) f.nodes (folder-has d f.nodes dir)

  pub re-file : (k : ℕ) → T (is_file (body_at f k)) → T (is_file (body_at (refold f d es) k))
  re-file k h = subst (λ z. T (is_file z)) (sym (put-else f d (Folder (parent_of (body_at f d)) es) k (λ e. not-both (body_at f d) dir (subst (λ z. T (is_file (body_at f z))) e h)))) h

  pub re-count : (x u : ℕ) → count_entries x es ≡ count_entries x (ents f d) → count_entries x (ents (refold f d es) u) ≡ count_entries x (ents f u)
  re-count x u h =
      elim (same_or u d) [
        | inl e ↦ ap (λ z. count_entries x (ents (refold f d es) z)) e ∙ (ap (count_entries x) re-ents ∙ (h ∙ ap (λ z. count_entries x (ents f z)) (sym e)))
        | inr n ↦ ap (λ z. count_entries x (entries_of z)) (put-else f d (Folder (parent_of (body_at f d)) es) u n)
      ]

  pub re-hung : (x : ℕ) → count_entries x es ≡ count_entries x (ents f d) → (name_count f x ≡ 0 → ents f x ≡ [] → ents (refold f d es) x ≡ []) → Hung f x → Hung (refold f d es) x
  re-hung x c o (inl h) =
      let a = h.0 in
      let nm = re-names x in
      inl (omega arith, subst (λ z. 1 ≤ count_entries x (ents (refold f d es) z)) (sym (re-up x)) (subst (λ z. 1 ≤ z) (sym (re-count x (parent_of (body_at f x)) c)) h.1), (h.2.0, subst (λ z. T z) (sym (above_same h.2.0 f (refold f d es) 0 x re-up)) h.2.1))
  re-hung x c o (inr h) = let a = h.0 in let nm = re-names x in inr (omega arith, o a h.1)

  pub re-good :
      (q : ℕ) → Good f q → Sorted es → ((e : Entry) → In e es → T (name_ok e.name) × T (is_there f e.node)) → name_count (refold f d es) 0 ≡ 0 →
      ((k : ℕ) → Dir f k → (k ≡ 0 → ⊥) → (k ≡ q → ⊥) → Hung (refold f d es) k) → Good (refold f d es) q
  unfolding is_folder parent_of entries_of is_file
  re-good q g so ea nz hu =
      put-good f d (Folder (parent_of (body_at f d)) es) q q g (folder-has d f.nodes dir) tt so ea (λ e. (tt, ap (λ z. parent_of (body_at f z)) e ∙ g.top_up)) nz (λ k h. hu k (subst (λ z. T z) (re-dir k) h))

pub one-other : (x k : ℕ) → (x ≡ k → ⊥) → one (eqb x k) ≡ 0
one-other x k h = ap one (ne_eqb x k h)

pub one_same : (x k : ℕ) → x ≡ k → one (eqb x k) ≡ 1
one_same x k h = ap one (eq-eqb x k h)

-- a name is left
module _ (f : Fs) (d : ℕ) (n : Name) (k : ℕ) (more : List ℕ) (dir : Dir f d) (fo : lookup n (ents f d) ≡ k ∷ more) where
  pub left-names : (q : ℕ) → Good f q → (x : ℕ) → name_count f x ≡ one (eqb x k) + name_count (without_entry d n f) x
  left-names q g x = omega (arith, re-names f d (remove_entry n (ents f d)) dir x, count-leave x n k more (ents f d) (g.sorted d) fo)

  pub left-nil : (x : ℕ) → ents f x ≡ [] → ents (without_entry d n f) x ≡ []
  unfolding keep
  left-nil x h =
      elim (same_or x d) [
        | inl e ↦ ap (ents (without_entry d n f)) e ∙ (re-ents f d (remove_entry n (ents f d)) dir ∙ ap (remove_entry n) (ap (ents f) (sym e) ∙ h))
        | inr z ↦ ap entries_of (put-else f d (Folder (parent_of (body_at f d)) (remove_entry n (ents f d))) x z) ∙ h
      ]

  pub left-good : (q : ℕ) → Good f q → (Dir f k → (k ≡ q → ⊥) → ents f k ≡ []) → Good (without_entry d n f) q
  left-good q g ok =
      re-good f d (remove_entry n (ents f d)) dir q g (sorted-keep (λ (e : Entry). not (same_name n e.name)) (ents f d) (g.sorted d)) (λ e i. g.each d e (in-keep (λ (x : Entry). not (same_name n x.name)) (ents f d) e i).0)
      (let a = g.top_names in omega (arith, left-names q g 0)) hu
    where
      hu : (x : ℕ) → Dir f x → (x ≡ 0 → ⊥) → (x ≡ q → ⊥) → Hung (without_entry d n f) x
      hu x dx z w =
          let c = count-leave x n k more (ents f d) (g.sorted d) fo in
          let nm = left-names q g x in
          elim (same_or x k) [
            | inr h ↦ let o = one-other x k h in re-hung f d (remove_entry n (ents f d)) dir x (omega arith) (λ _. left-nil x) (g.hung x dx z w)
            | inl e ↦
                let o = one_same x k e in
                elim (g.hung x dx z w) [
                  | inl h ↦ let a = h.0 in inr (omega arith, left-nil x (ap (ents f) e ∙ ok (subst (λ j. Dir f j) e dx) (λ y. w (e ∙ y))))
                  | inr h ↦ let a = h.0 in absurd (omega arith)
                ]
          ]

-- a name is entered where it wasn't
module _ (f : Fs) (d : ℕ) (n : Name) (k : ℕ) (live : Live f d) (fo : lookup n (ents f d) ≡ []) where
  pub entered-names : (x : ℕ) → name_count (with_entry d n k f) x ≡ one (eqb x k) + name_count f x
  entered-names x = omega (arith, re-names f d (insert_entry n k (ents f d)) live.0 x, count-enter x n k (ents f d) fo)

  pub entered-count : 1 ≤ count_entries k (ents (with_entry d n k f) d)
  entered-count =
      let o = one_same k k refl in
      let c : count_entries k (ents (with_entry d n k f) d) ≡ count_entries k (insert_entry n k (ents f d)) = ap (count_entries k) (re-ents f d (insert_entry n k (ents f d)) live.0) in
      omega (arith, count-enter k n k (ents f d) fo)

  pub entered-good : (q : ℕ) → Good f q → T (name_ok n) → T (is_there f k) → (k ≡ 0 → ⊥) → (Dir f k → k ≡ q) → Good (with_entry d n k f) q
  entered-good q g ok th kz kq =
      re-good f d (insert_entry n k (ents f d)) live.0 q g (sorted-enter n k (ents f d) (g.sorted d))
      (λ e i. elim (in-enter n k (ents f d) e i) [ inl h ↦ subst (λ (z : Entry). T (name_ok z.name) × T (is_there f z.node)) h (ok, th) | inr j ↦ g.each d e j ])
      (let a = g.top_names in let o = one-other 0 k (λ e. kz (sym e)) in omega (arith, entered-names 0)) hu
    where
      hu : (x : ℕ) → Dir f x → (x ≡ 0 → ⊥) → (x ≡ q → ⊥) → Hung (with_entry d n k f) x
      hu x dx z w =
          let xk : x ≡ k → ⊥ = λ e. w (e ∙ kq (subst (λ j. Dir f j) e dx)) in
          let o = one-other x k xk in
          let c = count-enter x n k (ents f d) fo in
          re-hung f d (insert_entry n k (ents f d)) live.0 x (omega arith) (λ nz e. ap entries_of (put-else f d (Folder (parent_of (body_at f d)) (insert_entry n k (ents f d))) x (apart nz live.1)) ∙ e) (g.hung x dx z w)
        where
          apart : name_count f x ≡ 0 → (d ≡ 0) ⊎ (1 ≤ name_count f d) → x ≡ d → ⊥
          apart nz (inl e) y = z (y ∙ e)
          apart nz (inr e) y = let m : name_count f x ≡ name_count f d = ap (name_count f) y in omega arith

-- what has a name is there
pub named-there : {f : Fs} (q k : ℕ) → Good f q → 1 ≤ name_count f k → T (is_there f k)
named-there {f} q k g h =
    let x = names-some k f.nodes h in
    let e = some_in (λ (e : Entry). eqb e.node k) (entries_of x.0.body) (count-some k (entries_of x.0.body) x.2) in
    let i = subst (λ b. In e.0 (entries_of b)) (sym (in_body 0 f.nodes x.0 g.rising x.1)) e.1 in
    subst (λ z. T (is_there f z)) (eqb-true e.0.node k (is_true (eqb e.0.node k) e.2)) (g.each x.0.num e.0 i).1

-- a node is added
module _ (f : Fs) (b : Body) (g : Good f 0) (ne : entries_of b ≡ []) where
  pub new-there : T (is_there f f.next) → ⊥
  new-there t = let h = g.small f.next t in omega arith

  pub grown-there : (k : ℕ) → T (is_there f k) → T (is_there (with_node b f) k)
  grown-there k t = subst (λ z. T z) (sym (more-has k f.nodes (node f.next b))) (or_fst (has k f.nodes) (eqb k f.next) t)

  pub grown-new : T (is_there (with_node b f) f.next)
  grown-new = subst (λ z. T z) (sym (more-has f.next f.nodes (node f.next b))) (or_snd (has f.next f.nodes) (eqb f.next f.next) (holds (eq-eqb f.next f.next refl)))

  pub grown-at : body_at (with_node b f) f.next ≡ b
  grown-at = more-new f.nodes (node f.next b) new-there

  pub grown-else : (k : ℕ) → (k ≡ f.next → ⊥) → body_at (with_node b f) k ≡ body_at f k
  grown-else k h = more-none k f.nodes (node f.next b) h

  pub grown-same : (k : ℕ) → T (is_there f k) → body_at (with_node b f) k ≡ body_at f k
  grown-same k t = more-old k f.nodes (node f.next b) t

  pub grown-names : (k : ℕ) → name_count (with_node b f) k ≡ name_count f k
  grown-names k = let c : count_entries k (entries_of b) ≡ 0 = ap (count_entries k) ne ∙ count_none k in omega (arith, more-names k f.nodes (node f.next b))

  new_none : body_at f f.next ≡ Link []
  new_none = elim (has-or f.next f.nodes) [ inl t ↦ absurd (new-there t) | inr e ↦ e ]

  new-ents : ents f f.next ≡ []
  unfolding entries_of
  new-ents = ap entries_of new_none

  pub grown-ents : (k : ℕ) → ents (with_node b f) k ≡ ents f k
  unfolding entries_of
  grown-ents k =
      elim (same_or k f.next) [
        | inl e ↦ ap (ents (with_node b f)) e ∙ (ap entries_of grown-at ∙ (ne ∙ (ap entries_of (sym new_none) ∙ ap (ents f) (sym e))))
        | inr h ↦ ap entries_of (grown-else k h)
      ]

  pub new-names : name_count f f.next ≡ 0
  new-names = elim (same_or (name_count f f.next) 0) [ inl e ↦ e | inr h ↦ absurd (new-there (named-there 0 f.next g (omega arith))) ]

  pub grown-live : (k : ℕ) → Live f k → Live (with_node b f) k
  grown-live k l = (subst (λ z. T (is_folder z)) (sym (grown-same k (folder-has k f.nodes l.0))) l.0, elim l.1 [ inl e ↦ inl e | inr h ↦ inr (subst (λ z. 1 ≤ z) (sym (grown-names k)) h) ])

  pub grown-good : T (body_ok b) → Good (with_node b f) 0
  grown-good ok =
      record {
        rising = more-rising 0 f.nodes (node f.next b) g.rising (λ x i. g.small x.num (in-has f.nodes x i)) (omega arith);
        small = λ k t. elim (which k t) [ inl h ↦ let s = g.small k h in omega arith | inr e ↦ omega arith ];
        body = λ k t. elim (which k t) [ inl h ↦ subst (λ z. T (body_ok z)) (sym (grown-same k h)) (g.body k h) | inr e ↦ subst (λ z. T (body_ok z)) (sym (ap (body_at (with_node b f)) e ∙ grown-at)) ok ];
        sorted = λ k. subst (λ z. Sorted z) (sym (grown-ents k)) (g.sorted k);
        each = λ k e i. let h = g.each k e (subst (λ z. In e z) (grown-ents k) i) in (h.0, grown-there e.node h.1);
        hung = λ k d z _. elim (same_or k f.next) [
          | inl e ↦ inr (grown-names k ∙ (ap (name_count f) e ∙ new-names), grown-ents k ∙ (ap (ents f) e ∙ new-ents))
          | inr h ↦ old k h (subst (λ z. T (is_folder z)) (grown-else k h) d) z
        ];
        top = subst (λ z. T (is_folder z)) (sym (grown-same 0 top-there)) g.top;
        top_up = ap parent_of (grown-same 0 top-there) ∙ g.top_up;
        top_names = grown-names 0 ∙ g.top_names;
      }
    where
      top-there : T (is_there f 0)
      top-there = folder-has 0 f.nodes g.top

      which : (k : ℕ) → T (is_there (with_node b f) k) → T (is_there f k) ⊎ (k ≡ f.next)
      which k t = elim (or-either (has k f.nodes) (eqb k f.next) (subst (λ z. T z) (more-has k f.nodes (node f.next b)) t)) [ inl h ↦ inl h | inr h ↦ inr (eqb-true k f.next (is_true (eqb k f.next) h)) ]

      old : (k : ℕ) → (k ≡ f.next → ⊥) → Dir f k → (k ≡ 0 → ⊥) → Hung (with_node b f) k
      old k h d z =
          elim (g.hung k d z z) [
            | inl q ↦
                let a = q.0 in
                inl (
                  grown-names k ∙ q.0,
                  subst (λ u. 1 ≤ count_entries k (ents (with_node b f) u)) (sym (ap parent_of (grown-else k h))) (subst (λ es. 1 ≤ count_entries k es) (sym (grown-ents (parent_of (body_at f k)))) q.1),
                  (q.2.0, reach_live (with_node b f) g (λ j l. ap parent_of (grown-same j (folder-has j f.nodes l.0))) q.2.0 k (d, inr (omega arith)) q.2.1),
                )
            | inr q ↦ inr (grown-names k ∙ q.0, grown-ents k ∙ q.1)
          ]

-- the bytes of a file are others
module _ (f : Fs) (n : ℕ) (bs : List ℕ) (file : T (is_file (body_at f n))) where
  there-file : T (is_there f n)
  there-file = file-has n f.nodes file

  file-parts : (b : Body) → T (is_file b) → (parent_of b ≡ 0) × (entries_of b ≡ []) × (is_folder b ≡ false)
  unfolding is_file parent_of entries_of is_folder
  file-parts (File bs) h = (refl, refl, refl)
  file-parts (Folder u es) h = absurd h
  file-parts (Link p) h = absurd h

  pub filed-file : (k : ℕ) → T (is_file (body_at f k)) → T (is_file (body_at (with_body n (File bs) f) k))
  unfolding is_file
  filed-file k h = elim (same_or k n) [ inl e ↦ subst (λ z. T (is_file (body_at (with_body n (File bs) f) z))) (sym e) (subst (λ z. T (is_file z)) (sym (put-at f n (File bs) there-file)) tt) | inr z ↦ subst (λ z. T (is_file z)) (sym (put-else f n (File bs) k z)) h ]

  filed : (P : Body → ℕ) → ((b : Body) → T (is_file b) → P b ≡ P (File bs)) → (k : ℕ) → P (body_at (with_body n (File bs) f) k) ≡ P (body_at f k)
  filed P h k =
      elim (same_or k n) [
        | inl e ↦ ap (λ z. P (body_at (with_body n (File bs) f) z)) e ∙ (ap P (put-at f n (File bs) there-file) ∙ (sym (h (body_at f n) file) ∙ ap (λ z. P (body_at f z)) (sym e)))
        | inr z ↦ ap P (put-else f n (File bs) k z)
      ]

  pub filed-up : (k : ℕ) → parent_of (body_at (with_body n (File bs) f) k) ≡ parent_of (body_at f k)
  unfolding parent_of
  filed-up k = filed parent_of (λ b h. (file-parts b h).0) k

  pub filed-ents : (k : ℕ) → ents (with_body n (File bs) f) k ≡ ents f k
  unfolding entries_of
  filed-ents k =
      elim (same_or k n) [
        | inl e ↦ ap (ents (with_body n (File bs) f)) e ∙ (ap entries_of (put-at f n (File bs) there-file) ∙ (sym (file-parts (body_at f n) file).1 ∙ ap (ents f) (sym e)))
        | inr z ↦ ap entries_of (put-else f n (File bs) k z)
      ]

  pub filed-names : (k : ℕ) → name_count (with_body n (File bs) f) k ≡ name_count f k
  unfolding entries_of
  filed-names k =
      let a : count_entries k (ents f n) ≡ 0 = ap (count_entries k) (file-parts (body_at f n) file).1 ∙ count_none k in
      omega (arith, put-names k n (File bs) f.nodes there-file, count_none k)

  pub filed-good : Good f 0 → Good (with_body n (File bs) f) 0
  unfolding is_folder is_file entries_of parent_of
  filed-good g =
      put-good f n (File bs) 0 0 g there-file tt tt (λ e i. absurd i) (λ e. absurd (fails (file-parts (body_at f n) file).2 (subst (λ z. Dir f z) (sym e) g.top))) (filed-names 0 ∙ g.top_names) hu
    where
      hu : (k : ℕ) → Dir (with_body n (File bs) f) k → (k ≡ 0 → ⊥) → (k ≡ 0 → ⊥) → Hung (with_body n (File bs) f) k
      hu k d z w =
          let o : k ≡ n → ⊥ = λ e. subst (λ b. T (is_folder b)) (put-at f n (File bs) there-file) (subst (λ z. Dir (with_body n (File bs) f) z) e d) in
          elim (g.hung k (subst (λ b. T (is_folder b)) (put-else f n (File bs) k o) d) z z) [
            | inl q ↦
                inl (
                  filed-names k ∙ q.0,
                  subst (λ u. 1 ≤ count_entries k (ents (with_body n (File bs) f) u)) (sym (filed-up k)) (subst (λ es. 1 ≤ count_entries k es) (sym (filed-ents (parent_of (body_at f k)))) q.1),
                  (q.2.0, subst (λ z. T z) (sym (above_same q.2.0 f (with_body n (File bs) f) 0 k filed-up)) q.2.1),
                )
            | inr q ↦ inr (filed-names k ∙ q.0, filed-ents k ∙ q.1)
          ]

-- a folder is in another
module _ (f : Fs) (k e : ℕ) (dir : Dir f k) where
  abbrev pub moved : Fs
  moved = with_body k (Folder e (ents f k)) f

  pub moved_at : body_at moved k ≡ Folder e (ents f k)
  moved_at = put-at f k (Folder e (ents f k)) (folder-has k f.nodes dir)

  pub moved-ents : (x : ℕ) → ents moved x ≡ ents f x
  unfolding entries_of
  moved-ents x = elim (same_or x k) [ inl q ↦ ap (ents moved) q ∙ (ap entries_of moved_at ∙ ap (ents f) (sym q)) | inr z ↦ ap entries_of (put-else f k (Folder e (ents f k)) x z) ]

  pub moved-dir : (x : ℕ) → is_folder (body_at moved x) ≡ is_folder (body_at f x)
  unfolding is_folder
  moved-dir x =
      elim (same_or x k) [
        | inl q ↦ ap (λ z. is_folder (body_at moved z)) q ∙ (ap is_folder moved_at ∙ (sym (is_true (is_folder (body_at f k)) dir) ∙ ap (λ z. is_folder (body_at f z)) (sym q)))
        | inr z ↦ ap is_folder (put-else f k (Folder e (ents f k)) x z)
      ]

  pub moved-names : (x : ℕ) → name_count moved x ≡ name_count f x
  unfolding entries_of
  moved-names x = omega (arith, put-names x k (Folder e (ents f k)) f.nodes (folder-has k f.nodes dir))

  pub moved_up : parent_of (body_at moved k) ≡ e
  unfolding parent_of
  moved_up = ap parent_of moved_at

  pub moved-else : (x : ℕ) → (x ≡ k → ⊥) → parent_of (body_at moved x) ≡ parent_of (body_at f x)
  moved-else x z = ap parent_of (put-else f k (Folder e (ents f k)) x z)

  pub moved-file : (x : ℕ) → T (is_file (body_at f x)) → T (is_file (body_at moved x))
  moved-file x h = subst (λ z. T (is_file z)) (sym (put-else f k (Folder e (ents f k)) x (λ q. not-both (body_at f k) dir (subst (λ z. T (is_file (body_at f z))) q h)))) h

  pub moved-good : Good f k → (k ≡ 0 → ⊥) → name_count f k ≡ 1 → 1 ≤ count_entries k (ents f e) → Reach moved e → Good moved 0
  unfolding is_folder entries_of
  moved-good g kz nm c r =
      put-good f k (Folder e (ents f k)) k 0 g (folder-has k f.nodes dir) tt (g.sorted k) (g.each k) (λ q. absurd (kz q)) (moved-names 0 ∙ g.top_names) hu
    where
      reach : Reach moved k
      reach = (suc r.0, above_step r.0 moved k (subst (λ z. T (is_above r.0 moved 0 z)) (sym moved_up) r.1))

      hu : (x : ℕ) → Dir moved x → (x ≡ 0 → ⊥) → (x ≡ 0 → ⊥) → Hung moved x
      hu x d z w =
          elim (same_or x k) [
            | inl q ↦
                subst (λ y. Hung moved y) (sym q)
                (inl (moved-names k ∙ nm, subst (λ u. 1 ≤ count_entries k (ents moved u)) (sym moved_up) (subst (λ es. 1 ≤ count_entries k es) (sym (moved-ents e)) c), reach))
            | inr o ↦ elim (g.hung x (subst (λ t. T t) (moved-dir x) d) z o) [
              | inl q ↦
                  inl (
                    moved-names x ∙ q.0,
                    subst (λ u. 1 ≤ count_entries x (ents moved u)) (sym (moved-else x o)) (subst (λ es. 1 ≤ count_entries x es) (sym (moved-ents (parent_of (body_at f x)))) q.1),
                    reach-but f moved k moved-else reach q.2.0 x q.2.1,
                  )
              | inr q ↦ inr (moved-names x ∙ q.0, moved-ents x ∙ q.1)
            ]
          ]
