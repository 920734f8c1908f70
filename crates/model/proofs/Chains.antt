-- The stack of a walk is the chain of parents.
-- Assumes nothing.
use Rattle.std.proofs.Common.{◌≡◌, ℕ, zero, suc, ◌+◌, ◌*◌, ◌≤◌, Bool, true, false, cond, not, ◌&&◌, ◌||◌, T, eqb, ◌⊎◌, List, [], ◌∷◌, ◌++◌, length, sym, refl, ap, ◌∙◌, subst, inl, inr, arith, length-append}
use Rattle.std.proofs.lemmas.Bool.{eq-eqb, ne_eqb, eqb-true}
use Rattle.model.specs.Tree.{Name, Node, Fs, some, same_name, body_at, body_in, entries_of, is_folder, is_link, parent_of, lookup, count_entries, name_count, count_names, is_above}
use Rattle.model.specs.Walk.{There, Going, On, Came, components, path_ok, dot, dot_dot, target_of, start_of, at_end, by_link, by_entry, step, steps, came, place}
use Rattle.model.specs.Chain.{Chain, here, popped, on_stack, Passing, Along, Ended, start_stack, stack_by_link, stack_by_entry, stack_step, stack_steps, end_place, end_stack, stack_walk, going, EndsIn, RightStack, StackSteps, StackComes, StackFits, ChainAbove, ChainOnce}
use Rattle.model.proofs.Facts.{holds, by-test, same_or, is_true}
use Rattle.model.proofs.Nodes.{names-least}
use Rattle.model.proofs.Entries.{entry, found_in, in_count}
use Rattle.model.proofs.Good.{ents, Dir, Good, Live, live-up, live-hung, sound-good, above_zero, enough}
use Rattle.model.proofs.Steps.{few, ok-short, link-short}

-- names in two folders are two
pub names-two : (k d u : ℕ) (xs : List Node) → (d ≡ u → ⊥) → count_entries k (entries_of (body_in d xs)) + count_entries k (entries_of (body_in u xs)) ≤ count_names k xs
unfolding body_in count_names entries_of count_entries
names-two k d u [] n = omega arith
names-two k d u (x ∷ xs) n = go (eqb d x.num) refl (eqb u x.num) refl (names-two k d u xs n)
  where
    go :
        (s : Bool) → eqb d x.num ≡ s → (t : Bool) → eqb u x.num ≡ t → count_entries k (entries_of (body_in d xs)) + count_entries k (entries_of (body_in u xs)) ≤ count_names k xs →
        count_entries k (entries_of (cond s x.body (body_in d xs))) + count_entries k (entries_of (cond t x.body (body_in u xs))) ≤ count_entries k (entries_of x.body) + count_names k xs
    go true e true q r = absurd (n (eqb-true d x.num e ∙ sym (eqb-true u x.num q)))
    go true e false q r = omega (arith, names-least k u xs)
    go false e true q r = omega (arith, names-least k d xs)
    go false e false q r = omega arith

chain-here : (f : Fs) (d : ℕ) (us : List ℕ) → Chain f d us → d ≡ here us
chain-here f d [] h = h
chain-here f d (u ∷ us) h = sym h.0

-- a folder that is named in d is in d
chain-push : {f : Fs} → Good f 0 → (d : ℕ) (us : List ℕ) (p : Name) (n : ℕ) (more : List ℕ) → Chain f d us → lookup p (ents f d) ≡ n ∷ more → Dir f n → Chain f n (n ∷ us)
chain-push {f} g d us p n more h fo dir =
    let c = in_count (ents f d) (entry p n) (found_in p n more (ents f d) fo) in
    let l = names-least n d f.nodes in
    let z : n ≡ 0 → ⊥ = λ q. let a = g.top_names in let e : name_count f n ≡ name_count f 0 = ap (name_count f) q in omega arith in
    let up : parent_of (body_at f n) ≡ d = elim (g.hung n dir z z) [
      | inl q ↦ elim (same_or (parent_of (body_at f n)) d) [ inl e ↦ e | inr y ↦ absurd (let a = q.0 in let b = q.1 in omega (arith, names-two n (parent_of (body_at f n)) d f.nodes y)) ]
      | inr q ↦ absurd (let a = q.0 in omega arith)
    ] in
    (refl, z, dir, omega arith, subst (λ k. Chain f k us) (sym up) h)

chain-pop : {f : Fs} → Good f 0 → (d : ℕ) (us : List ℕ) → Chain f d us → Chain f (parent_of (body_at f d)) (popped us)
chain-pop {f} g d [] h = ap (λ k. parent_of (body_at f k)) h ∙ g.top_up
chain-pop {f} g d (u ∷ us) h = h.4

-- the two walks side by side
by_both : {A B : Type 0} (b : Bool) {x y : A} {u v : B} (R : A → B → Type 0) → (b ≡ true → R x u) → (b ≡ false → R y v) → R (cond b x y) (cond b u v)
by_both true R p q = p refl
by_both false R p q = q refl

module _ (f : Fs) (follow : Bool) (g : Good f 0) where
  abbrev Alike : Passing → Going → Type 0
  Alike t w = (going t ≡ w) × RightStack f t

  start-alike : (p us : List ℕ) → Chain f (here us) us → (here (start_stack p us) ≡ start_of p (here us)) × Chain f (here (start_stack p us)) (start_stack p us)
  unfolding start_stack start_of
  start-alike [] us h = (refl, h)
  start-alike (b ∷ bs) us h = by_both (eqb b 47) {x = []} {y = us} {u = 0} {v = here us} (λ vs k. (here vs ≡ k) × Chain f (here vs) vs) (λ _. (refl, refl)) (λ _. (refl, h))

  link-alike : (links : ℕ) (p us : List ℕ) (ps : List Name) → Chain f (here us) us → Alike (stack_by_link links p us ps) (by_link links p (here us) ps)
  unfolding stack_by_link by_link going RightStack EndsIn
  link-alike zero p us ps h = (refl, tt)
  link-alike (suc k) p us ps h = let r = start-alike p us h in (ap (λ d. On k d (components p [] ++ ps)) r.0, r.1)

  entry-alike : (links : ℕ) (us : List ℕ) (p : Name) (ns : List ℕ) (ps : List Name) → lookup p (ents f (here us)) ≡ ns → Chain f (here us) us → Alike (stack_by_entry links follow f us p ns ps) (by_entry links follow f (here us) p ns ps)
  unfolding stack_by_entry by_entry going RightStack EndsIn
  entry-alike links us p [] ps fo h = by_both (at_end ps) Alike (λ _. (refl, h)) (λ _. (refl, tt))
  entry-alike links us p (n ∷ more) ps fo h =
      by_both (is_link (body_at f n) && (follow || not (at_end ps))) Alike (λ _. link-alike links (target_of (body_at f n)) us ps h)
      (λ _. by_both (at_end ps) Alike (λ _. (refl, h)) (λ _. by_both (is_folder (body_at f n)) Alike (λ t. (refl, chain-push g (here us) us p n more h fo (holds t))) (λ _. (refl, tt))))

  step-alike : (t : Passing) → RightStack f t → Alike (stack_step follow f t) (step follow f (going t))
  unfolding stack_step step going RightStack EndsIn
  step-alike (Ended w us) h = (refl, h)
  step-alike (Along links us []) h =
      let c = chain-pop g (here us) us h in
      (ap (λ d. Came (There d [] (here us))) (sym (chain-here f (parent_of (body_at f (here us))) (popped us) c)), subst (λ d. Chain f d (popped us)) (chain-here f (parent_of (body_at f (here us))) (popped us) c) c)
  step-alike (Along links us (p ∷ ps)) h =
      by_both (same_name p dot) Alike (λ _. (refl, h))
      (λ _. by_both (same_name p dot_dot) Alike
      (λ _. let c = chain-pop g (here us) us h in let e = chain-here f (parent_of (body_at f (here us))) (popped us) c in (ap (λ d. On links d ps) (sym e), subst (λ d. Chain f d (popped us)) e c))
      (λ _. entry-alike links us p (lookup p (ents f (here us))) ps refl h))

  steps_alike : (n : ℕ) (t : Passing) → RightStack f t → Alike (stack_steps n follow f t) (steps n follow f (going t))
  unfolding stack_steps steps
  steps_alike zero t h = (refl, h)
  steps_alike (suc n) t h =
      let a = step-alike t h in
      let b = steps_alike n (stack_step follow f t) a.1 in
      (b.0 ∙ ap (λ w. steps n follow f w) a.0, b.1)

  end-alike : (t : Passing) → RightStack f t → (end_place t ≡ came (going t)) × EndsIn f (end_place t) (end_stack t)
  unfolding end_place end_stack came going RightStack EndsIn
  end-alike (Ended w us) h = (refl, h)
  end-alike (Along links us ps) h = (refl, tt)

  walk-alike : (p : List ℕ) → (end_place (stack_walk follow f p) ≡ place follow f p) × EndsIn f (end_place (stack_walk follow f p)) (end_stack (stack_walk follow f p))
  unfolding end_place end_stack going EndsIn RightStack
  walk-alike p =
      by_both (path_ok p) (λ t w. (end_place t ≡ w) × EndsIn f (end_place t) (end_stack t))
      (λ _. let a = steps_alike 8192 (Along 8 [] (components p [])) refl in let b = end-alike (stack_steps 8192 follow f (Along 8 [] (components p []))) a.1 in (b.0 ∙ ap came a.0, b.1))
      (λ _. (refl, tt))

  -- each folder on the stack was a component
  abbrev Fits : Passing → Type 0
  Fits (Along links us ps) = length us + length ps + 512 * links ≤ 4608
  Fits (Ended w us) = length us ≤ 4608

  start_fits : (p us : List ℕ) → length (start_stack p us) ≤ length us
  unfolding start_stack
  start_fits [] us = omega arith
  start_fits (b ∷ bs) us = by-test (eqb b 47) {x = []} {y = us} (λ vs. length vs ≤ length us) (λ _. omega arith) (λ _. omega arith)

  pop-fits : (us : List ℕ) → length (popped us) ≤ length us
  pop-fits [] = omega arith
  pop-fits (u ∷ us) = omega arith

  link_fits : (links : ℕ) (p us : List ℕ) (ps : List Name) → length p ≤ 1024 → length us + suc (length ps) + 512 * links ≤ 4608 → Fits (stack_by_link links p us ps)
  unfolding stack_by_link
  link_fits zero p us ps l h = omega arith
  link_fits (suc k) p us ps l h = omega (arith, start_fits p us, length-append (components p []) ps, (few p).0)

  entry-fits : (links : ℕ) (us : List ℕ) (p : Name) (ns : List ℕ) (ps : List Name) → length us + suc (length ps) + 512 * links ≤ 4608 → Fits (stack_by_entry links follow f us p ns ps)
  unfolding stack_by_entry
  entry-fits links us p [] ps h = by-test (at_end ps) Fits (λ _. omega arith) (λ _. omega arith)
  entry-fits links us p (n ∷ more) ps h =
      by-test (is_link (body_at f n) && (follow || not (at_end ps))) Fits (λ _. link_fits links (target_of (body_at f n)) us ps (link-short g n) h)
      (λ _. by-test (at_end ps) Fits (λ _. omega arith) (λ _. by-test (is_folder (body_at f n)) Fits (λ _. omega arith) (λ _. omega arith)))

  step_fits : (t : Passing) → Fits t → Fits (stack_step follow f t)
  unfolding stack_step
  step_fits (Ended w us) h = h
  step_fits (Along links us []) h = omega (arith, pop-fits us)
  step_fits (Along links us (p ∷ ps)) h =
      by-test (same_name p dot) Fits (λ _. omega arith) (λ _. by-test (same_name p dot_dot) Fits (λ _. omega (arith, pop-fits us)) (λ _. entry-fits links us p (lookup p (ents f (here us))) ps h))

  steps-fit : (n : ℕ) (t : Passing) → Fits t → Fits (stack_steps n follow f t)
  unfolding stack_steps
  steps-fit zero t h = h
  steps-fit (suc n) t h = steps-fit n (stack_step follow f t) (step_fits t h)

  fits : (t : Passing) → Fits t → length (end_stack t) ≤ 4608
  unfolding end_stack
  fits (Along links us ps) h = omega arith
  fits (Ended w us) h = h

pub stack_steps-right : StackSteps
stack_steps-right f follow sound t h = step-alike f follow (sound-good f sound) t h

pub stack_comes_lem : StackComes
stack_comes_lem f follow p sound = let r = walk-alike f follow (sound-good f sound) p in (r.0, subst (λ w. EndsIn f w (end_stack (stack_walk follow f p))) r.0 r.1)

pub stack_fits_lem : StackFits
stack_fits_lem f follow p n sound ok =
    let g = sound-good f sound in
    fits f follow g (stack_steps n follow f (Along 8 [] (components p []))) (steps-fit f follow g n (Along 8 [] (components p [])) (omega (arith, (few p).0, ok-short p ok)))

-- the chain and what is above
chain-short : (n : ℕ) (f : Fs) (d : ℕ) (us : List ℕ) → Chain f d us → T (is_above n f 0 d) → length us ≤ n
unfolding is_above
chain-short n f d [] h t = omega arith
chain-short zero f d (u ∷ us) h t = absurd (h.1 (sym (eqb-true 0 d (is_true (eqb 0 d) t))))
chain-short (suc n) f d (u ∷ us) h t = elim (above_zero n f d t) [ inl z ↦ absurd (h.1 z) | inr q ↦ let r = chain-short n f (parent_of (body_at f d)) us h.4 q.1 in omega arith ]

or-none : (a : Bool) → (a || false) ≡ a
or-none true = refl
or-none false = refl

or_turn : (a b c : Bool) → (a || (b || c)) ≡ (b || (a || c))
or_turn true true c = refl
or_turn true false c = refl
or_turn false b c = refl

in-chain : (n : ℕ) (f : Fs) (a d : ℕ) (us : List ℕ) → Chain f d us → length us ≤ n → is_above n f a d ≡ on_stack a us
unfolding is_above some
in-chain zero f a d [] h l = ap (eqb a) h ∙ sym (or-none (eqb a 0))
in-chain zero f a d (u ∷ us) h l = absurd (omega arith)
in-chain (suc n) f a d [] h l = ap (λ t. eqb a d || (not t && is_above n f a (parent_of (body_at f d)))) (eq-eqb d 0 h) ∙ ap (λ z. eqb a z || false) h
in-chain (suc n) f a d (u ∷ us) h l =
    ap (λ t. eqb a d || (not t && is_above n f a (parent_of (body_at f d)))) (ne_eqb d 0 h.1) ∙
    (ap (λ z. eqb a d || z) (in-chain n f a (parent_of (body_at f d)) us h.4 (omega arith)) ∙ (ap (λ z. eqb a z || on_stack a us) (sym h.0) ∙ or_turn (eqb a u) (eqb a 0) (some (λ (v : ℕ). eqb a v) us)))

chain-live : {f : Fs} → Good f 0 → (d : ℕ) (us : List ℕ) → Chain f d us → Dir f d × ((d ≡ 0) ⊎ (1 ≤ name_count f d))
chain-live {f} g d [] h = (subst (λ z. Dir f z) (sym h) g.top, inl h)
chain-live {f} g d (u ∷ us) h = (h.2, inr h.3)

pub chain_above_lem : ChainAbove
chain_above_lem f sound a d us h =
    let g = sound-good f sound in
    in-chain (length f.nodes) f a d us h (chain-short (length f.nodes) f d us h (enough d g (chain-live g d us h)))

chain-once : (f : Fs) (d : ℕ) (us vs : List ℕ) → Chain f d us → Chain f d vs → us ≡ vs
chain-once f d [] [] h k = refl
chain-once f d [] (v ∷ vs) h k = absurd (k.1 h)
chain-once f d (u ∷ us) [] h k = absurd (h.1 k)
chain-once f d (u ∷ us) (v ∷ vs) h k = ap (λ z. z ∷ us) (h.0 ∙ sym k.0) ∙ ap (λ zs. v ∷ zs) (chain-once f (parent_of (body_at f d)) us vs h.4 k.4)

chain-of : {f : Fs} → Good f 0 → (n d : ℕ) → Live f d → T (is_above n f 0 d) → (us : List ℕ) × Chain f d us
unfolding is_above
chain-of {f} g zero d l t = ([], sym (eqb-true 0 d (is_true (eqb 0 d) t)))
chain-of {f} g (suc n) d l t =
    elim (above_zero n f d t) [
      | inl z ↦ ([], z)
      | inr q ↦ let r = chain-of g n (parent_of (body_at f d)) (live-up d g l) q.1 in let h = (live-hung d g l q.0).0 in (d ∷ r.0, (refl, q.0, l.0, omega arith, r.1))
    ]

pub chain_once_lem : ChainOnce
chain_once_lem f sound d dir l =
    let g = sound-good f sound in
    let r = chain-of g (length f.nodes) d (dir, l) (enough d g (dir, l)) in
    (r.0, r.1, λ vs h. chain-once f d vs r.0 h r.1)
