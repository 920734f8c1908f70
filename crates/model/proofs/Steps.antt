-- Every path comes somewhere.
-- Assumes nothing.
use Rattle.std.proofs.Common.{◌≡◌, ℕ, zero, suc, ◌+◌, ◌*◌, ◌<◌, ◌≤◌, Bool, not, ◌&&◌, ◌||◌, T, eqb, ltb, leb, List, [], ◌∷◌, ◌++◌, length, sym, refl, ap, ◌∙◌, inl, inr, arith, leb→le, length-append}
use Rattle.model.specs.Tree.{Name, Body, File, Folder, Link, Fs, every, same_name, body_at, is_folder, is_link, is_file, bytes_of, entries_of, lookup}
use Rattle.model.specs.Walk.{Place, Wrong, Going, On, Came, components, path_ok, components_fit, dot, dot_dot, target_of, at_end, by_link, by_entry, step, steps, came}
use Rattle.model.specs.Laws.{Comes}
use Rattle.model.proofs.Facts.{and-fst, and-snd, by-test, is_true, cond_yes}
use Rattle.model.proofs.Nodes.{has-or}
use Rattle.model.proofs.Good.{body_ok, Good, sound-good}

-- every other byte at least is a stroke
pub few : (bs : List ℕ) → (2 * length (components bs []) ≤ length bs + 1) × ((x : ℕ) (xs : List ℕ) → 2 * length (components bs (x ∷ xs)) ≤ length bs + 2)
unfolding components
few [] = (omega arith, λ x xs. omega arith)
few (b ∷ bs) =
    let h = few bs in (
      by-test (eqb b 47) {x = components bs []} {y = components bs (b ∷ [])} (λ z. 2 * length z ≤ length (b ∷ bs) + 1) (λ e. omega (arith, h.0)) (λ e. omega (arith, h.1 b [])),
      λ x xs. by-test (eqb b 47) {x = (x ∷ xs) ∷ components bs []} {y = components bs (x ∷ (xs ++ (b ∷ [])))} (λ z. 2 * length z ≤ length (b ∷ bs) + 2) (λ e. omega (arith, h.0)) (λ e. omega (arith, h.1 x (xs ++ (b ∷ [])))),
    )

pub ok-short : (p : List ℕ) → T (path_ok p) → length p ≤ 1024
ok-short p h =
    leb→le (length p) 1024
    (and-snd (ltb 0 (length p)) (leb (length p) 1024)
    (and-fst (ltb 0 (length p) && leb (length p) 1024) (every (λ (b : ℕ). ltb 0 b && ltb b 256) p) (and-fst (ltb 0 (length p) && leb (length p) 1024 && every (λ (b : ℕ). ltb 0 b && ltb b 256) p) (components_fit (components p [])) h)))

body-short : (b : Body) → T (body_ok b) → length (target_of b) ≤ 1024
unfolding is_folder is_file bytes_of target_of
body-short (File bs) h = omega arith
body-short (Folder u es) h = omega arith
body-short (Link p) h = ok-short p h

-- the path of a link of a sound tree
pub link-short : {f : Fs} → Good f 0 → (k : ℕ) → length (target_of (body_at f k)) ≤ 1024
unfolding target_of
link-short {f} g k = elim (has-or k f.nodes) [ inl t ↦ body-short (body_at f k) (g.body k t) | inr e ↦ let z : length (target_of (body_at f k)) ≡ 0 = ap (λ b. length (target_of b)) e in omega arith ]

-- how much is left to walk
abbrev Less : Going → ℕ → Type 0
Less (Came w) m = Unit
Less (On links d ps) m = length ps + 512 * links < m

module _ (follow : Bool) (f : Fs) (room : (k : ℕ) → length (target_of (body_at f k)) ≤ 1024) where
  link-less : (links : ℕ) (p : List ℕ) (d : ℕ) (ps : List Name) → length p ≤ 1024 → Less (by_link links p d ps) (suc (length ps) + 512 * links)
  unfolding by_link
  link-less zero p d ps h = tt
  link-less (suc k) p d ps h = omega (arith, length-append (components p []) ps, (few p).0)

  entry-less : (links d : ℕ) (p : Name) (ns : List ℕ) (ps : List Name) → Less (by_entry links follow f d p ns ps) (suc (length ps) + 512 * links)
  unfolding by_entry
  entry-less links d p [] ps = by-test (at_end ps) (λ z. Less z (suc (length ps) + 512 * links)) (λ e. tt) (λ e. tt)
  entry-less links d p (n ∷ more) ps =
      let m = suc (length ps) + 512 * links in
      by-test (is_link (body_at f n) && (follow || not (at_end ps))) (λ z. Less z m) (λ e. link-less links (target_of (body_at f n)) d ps (room n))
      (λ e. by-test (at_end ps) (λ z. Less z m) (λ _. tt) (λ _. by-test (is_folder (body_at f n)) (λ z. Less z m) (λ _. omega arith) (λ _. tt)))

  step_less : (links d : ℕ) (ps : List Name) → Less (step follow f (On links d ps)) (length ps + 512 * links)
  unfolding step
  step_less links d [] = tt
  step_less links d (p ∷ ps) =
      let m = suc (length ps) + 512 * links in
      by-test (same_name p dot) (λ z. Less z m) (λ _. omega arith) (λ _. by-test (same_name p dot_dot) (λ z. Less z m) (λ _. omega arith) (λ _. entry-less links d p (lookup p (entries_of (body_at f d))) ps))

  stays : (n : ℕ) (w : Place) → steps n follow f (Came w) ≡ Came w
  unfolding steps step
  stays zero w = refl
  stays (suc n) w = stays n w

  walks : (n : ℕ) (g : Going) → Less g n → (w : Place) × (steps n follow f g ≡ Came w)
  unfolding steps
  walks n (Came w) h = (w, stays n w)
  walks zero (On links d ps) h = absurd (omega arith)
  walks (suc n) (On links d ps) h = walks n (step follow f (On links d ps)) (down (step follow f (On links d ps)) (step_less links d ps))
    where
      down : (g : Going) → Less g (length ps + 512 * links) → Less g n
      down (Came w) l = tt
      down (On links' d' qs) l = omega arith

  more : (m n : ℕ) (g : Going) (w : Place) → steps m follow f g ≡ Came w → m ≤ n → steps n follow f g ≡ Came w
  unfolding steps
  more zero n g w e l = ap (λ z. steps n follow f z) e ∙ stays n w
  more (suc m) zero g w e l = absurd (omega arith)
  more (suc m) (suc n) g w e l = more m n (step follow f g) w e (omega arith)

  pub walked : (m : ℕ) (g : Going) → Less g m → (w : Place) × ((n : ℕ) → m ≤ n → steps n follow f g ≡ Came w)
  walked m g h = let r = walks m g h in (r.0, λ n l. more m n g r.0 r.1 l)

pub comes : Comes
unfolding came
comes f follow p n sound ok l =
    let r = walked follow f (link-short (sound-good f sound)) 4609 (On 8 0 (components p [])) (omega (arith, (few p).0, ok-short p ok)) in
    r.1 n l ∙ ap Came (sym (cond_yes (came (steps 8192 follow f (On 8 0 (components p [])))) (Wrong 1) (is_true (path_ok p) ok) ∙ ap came (r.1 8192 (omega arith))))
