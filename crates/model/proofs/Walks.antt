-- Where a path comes to, in a sound tree.
-- Assumes nothing.
use Rattle.std.proofs.Common.{◌≡◌, ℕ, zero, suc, ◌≤◌, Bool, true, false, not, ◌&&◌, ◌||◌, T, eqb, ltb, leb, ◌⊎◌, List, [], ◌∷◌, ◌++◌, length, sym, refl, subst, inl, inr, arith, lt→ltb}
use Rattle.model.specs.Tree.{Name, Body, File, Folder, Link, Fs, every, same_name, body_at, is_folder, is_link, is_file, bytes_of, lookup}
use Rattle.model.specs.Walk.{Place, Wrong, There, Missing, Going, On, Came, components, path_ok, components_fit, dot, dot_dot, target_of, start_of, at_end, by_link, by_entry, step, steps, came, place}
use Rattle.model.specs.Sound.{name_ok}
use Rattle.model.proofs.Facts.{and-fst, and-snd, and_both, or_fst, is_false, holds, fails, by-test, In, every_in, in_either}
use Rattle.model.proofs.Nodes.{names-least}
use Rattle.model.proofs.Entries.{entry, found_in, in_count}
use Rattle.model.proofs.Good.{ents, Live, body_ok, Good, live-top, live-up}

-- the pieces of a path can be names, but for . and ..
abbrev pub byte_ok : ℕ → Bool
byte_ok b = ltb 0 b && ltb b 256 && not (eqb b 47)

abbrev pub piece_ok : Name → Bool
piece_ok n = ltb 0 (length n) && leb (length n) 255 && every byte_ok n

every-push : {A : Type 0} (p : A → Bool) (xs : List A) (x : A) → T (every p xs) → T (p x) → T (every p (xs ++ (x ∷ [])))
unfolding every
every-push p [] x h t = and_both (p x) true t tt
every-push p (y ∷ xs) x h t = and_both (p y) (every p (xs ++ (x ∷ []))) (and-fst (p y) (every p xs) h) (every-push p xs x (and-snd (p y) (every p xs) h) t)

not-stroke : (b : ℕ) → T (ltb 0 b && ltb b 256) → eqb b 47 ≡ false → T (byte_ok b)
not-stroke b t e = and_both (ltb 0 b && ltb b 256) (not (eqb b 47)) t (subst (λ z. T (not z)) (sym e) tt)

cut_ok : (bs : List ℕ) (acc : Name) → T (every (λ (b : ℕ). ltb 0 b && ltb b 256) bs) → T (every byte_ok acc) → (q : Name) → In q (components bs acc) → (1 ≤ length q) × T (every byte_ok q)
unfolding components every
cut_ok [] [] h t q i = absurd i
cut_ok [] (x ∷ xs) h t q (inl e) = subst (λ z. (1 ≤ length z) × T (every byte_ok z)) e (omega arith, t)
cut_ok [] (x ∷ xs) h t q (inr i) = absurd i
cut_ok (b ∷ bs) [] h t q i =
    let ok = and-fst (ltb 0 b && ltb b 256) (every (λ (b : ℕ). ltb 0 b && ltb b 256) bs) h in
    let more = and-snd (ltb 0 b && ltb b 256) (every (λ (b : ℕ). ltb 0 b && ltb b 256) bs) h in
    by-test (eqb b 47) {x = components bs []} {y = components bs (b ∷ [])} (λ z. In q z → (1 ≤ length q) × T (every byte_ok q)) (λ _ j. cut_ok bs [] more tt q j) (λ e j. cut_ok bs (b ∷ []) more (and_both (byte_ok b) true (not-stroke b ok e) tt) q j) i
cut_ok (b ∷ bs) (x ∷ xs) h t q i =
    let ok = and-fst (ltb 0 b && ltb b 256) (every (λ (b : ℕ). ltb 0 b && ltb b 256) bs) h in
    let more = and-snd (ltb 0 b && ltb b 256) (every (λ (b : ℕ). ltb 0 b && ltb b 256) bs) h in
    by-test (eqb b 47) {x = (x ∷ xs) ∷ components bs []} {y = components bs ((x ∷ xs) ++ (b ∷ []))} (λ z. In q z → (1 ≤ length q) × T (every byte_ok q))
    (λ _. elim [ inl e ↦ subst (λ z. (1 ≤ length z) × T (every byte_ok z)) e (omega arith, t) | inr j ↦ cut_ok bs [] more tt q j ])
    (λ e j. cut_ok bs ((x ∷ xs) ++ (b ∷ [])) more (every-push byte_ok (x ∷ xs) b t (not-stroke b ok e)) q j) i

pub pieces-ok : (p : List ℕ) → T (path_ok p) → (q : Name) → In q (components p []) → T (piece_ok q)
unfolding components_fit every
pieces-ok p h q i =
    let A = ltb 0 (length p) && leb (length p) 1024 in
    let B = every (λ (b : ℕ). ltb 0 b && ltb b 256) p in
    let c = cut_ok p [] (and-snd A B (and-fst (A && B) (components_fit (components p [])) h)) tt q i in
    let s = every_in (λ (p : Name). leb (length p) 255) (components p []) (and-snd (A && B) (components_fit (components p [])) h) q i in
    and_both (ltb 0 (length q) && leb (length q) 255) (every byte_ok q) (and_both (ltb 0 (length q)) (leb (length q) 255) (lt→ltb 0 (length q) c.0) s) c.1

pub link-path : (b : Body) → T (body_ok b) → T (is_link b) → T (path_ok (target_of b))
unfolding is_folder is_file bytes_of is_link target_of
link-path (File bs) h t = absurd t
link-path (Folder u es) h t = absurd t
link-path (Link p) h t = h

-- what a path comes to
abbrev pub PlaceOk : Fs → Bool → Place → Type 0
PlaceOk f follow (Wrong k) = Unit
PlaceOk f follow (There d n k) = ((n ≡ []) × Live f k) ⊎ (Live f d × (more : List ℕ) × (lookup n (ents f d) ≡ k ∷ more) × (follow ≡ true → is_link (body_at f k) ≡ false))
PlaceOk f follow (Missing d n) = Live f d × T (name_ok n) × (lookup n (ents f d) ≡ [])

abbrev pub GoingOk : Fs → Bool → Going → Type 0
GoingOk f follow (On links d ps) = Live f d × ((p : Name) → In p ps → T (piece_ok p))
GoingOk f follow (Came w) = PlaceOk f follow w

module _ (f : Fs) (follow : Bool) (g : Good f 0) where
  start-live : (p : List ℕ) (d : ℕ) → Live f d → Live f (start_of p d)
  unfolding start_of
  start-live [] d l = l
  start-live (b ∷ bs) d l = by-test (eqb b 47) (λ z. Live f z) (λ _. live-top g) (λ _. l)

  link-ok : (links : ℕ) (p : List ℕ) (d : ℕ) (ps : List Name) → T (path_ok p) → Live f d → ((q : Name) → In q ps → T (piece_ok q)) → GoingOk f follow (by_link links p d ps)
  unfolding by_link
  link-ok zero p d ps h l a = tt
  link-ok (suc k) p d ps h l a = (start-live p d l, λ q i. elim (in_either (components p []) ps q i) [ inl j ↦ pieces-ok p h q j | inr j ↦ a q j ])

  entry-ok : (links d : ℕ) (p : Name) (ns : List ℕ) (ps : List Name) → lookup p (ents f d) ≡ ns → Live f d → T (name_ok p) → ((q : Name) → In q ps → T (piece_ok q)) → GoingOk f follow (by_entry links follow f d p ns ps)
  unfolding by_entry
  entry-ok links d p [] ps e l ok a = by-test (at_end ps) (λ z. GoingOk f follow z) (λ _. (l, ok, e)) (λ _. tt)
  entry-ok links d p (n ∷ more) ps e l ok a =
      let i = found_in p n more (ents f d) e in
      let c = in_count (ents f d) (entry p n) i in
      by-test (is_link (body_at f n) && (follow || not (at_end ps))) (λ z. GoingOk f follow z)
      (λ t. link-ok links (target_of (body_at f n)) d ps (link-path (body_at f n) (g.body n (g.each d (entry p n) i).1) (and-fst (is_link (body_at f n)) (follow || not (at_end ps)) (holds t))) l a)
      (λ t. by-test (at_end ps) (λ z. GoingOk f follow z)
      (λ _. inr (l, more, e, λ fo. is_false (is_link (body_at f n)) (λ k. fails t (and_both (is_link (body_at f n)) (follow || not (at_end ps)) k (or_fst follow (not (at_end ps)) (holds fo))))))
      (λ _. by-test (is_folder (body_at f n)) (λ z. GoingOk f follow z) (λ dir. ((holds dir, inr (omega (arith, names-least n d f.nodes))), a)) (λ _. tt)))

  step_ok : (w : Going) → GoingOk f follow w → GoingOk f follow (step follow f w)
  unfolding step
  step_ok (Came w) h = h
  step_ok (On links d []) h = inl (refl, h.0)
  step_ok (On links d (p ∷ ps)) h =
      let a : (q : Name) → In q ps → T (piece_ok q) = λ q i. h.1 q (inr i) in
      by-test (same_name p dot) (λ z. GoingOk f follow z) (λ _. (h.0, a))
      (λ nd. by-test (same_name p dot_dot) (λ z. GoingOk f follow z) (λ _. (live-up d g h.0, a))
      (λ nds. entry-ok links d p (lookup p (ents f d)) ps refl h.0
      (and_both (piece_ok p && not (same_name p dot)) (not (same_name p dot_dot)) (and_both (piece_ok p) (not (same_name p dot)) (h.1 p (inl refl)) (subst (λ z. T (not z)) (sym nd) tt)) (subst (λ z. T (not z)) (sym nds) tt)) a))

  steps-ok : (n : ℕ) (w : Going) → GoingOk f follow w → GoingOk f follow (steps n follow f w)
  unfolding steps
  steps-ok zero w h = h
  steps-ok (suc n) w h = steps-ok n (step follow f w) (step_ok w h)

  came-ok : (w : Going) → GoingOk f follow w → PlaceOk f follow (came w)
  unfolding came
  came-ok (Came w) h = h
  came-ok (On links d ps) h = tt

  pub place_ok : (p : List ℕ) → PlaceOk f follow (place follow f p)
  place_ok p =
      by-test (path_ok p) {x = came (steps 8192 follow f (On 8 0 (components p [])))} {y = Wrong 1} (λ z. PlaceOk f follow z)
      (λ e. came-ok (steps 8192 follow f (On 8 0 (components p []))) (steps-ok 8192 (On 8 0 (components p [])) (live-top g, pieces-ok p (holds e)))) (λ _. tt)
