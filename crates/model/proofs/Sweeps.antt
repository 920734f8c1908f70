-- What has no name and isn't open goes; the rest stays as it was.
-- Assumes nothing.
use Rattle.std.proofs.Common.{◌≡◌, ℕ, ◌≤◌, Bool, true, false, not, ◌||◌, T, eqb, ltb, List, [], sym, refl, ap, ◌∙◌, subst, inl, inr, arith, lt→ltb}
use Rattle.std.proofs.lemmas.Bool.{cases_Bool, eq-eqb}
use Rattle.model.specs.Tree.{Node, Fs, body_at, entries_of, is_folder, is_file, parent_of, count_entries, name_count, swept}
use Rattle.model.specs.Calls.{Handle, State, is_open, becomes}
use Rattle.model.specs.Sound.{is_there, handle_ok, SoundState}
use Rattle.model.proofs.Facts.{and-fst, and-snd, and_both, or-either, or_fst, or_snd, is_true, holds, fails, not-holds, same_or, In, in-keep, in-every, every_in, in_some}
use Rattle.model.proofs.Nodes.{names-least, has_in, in-has, in_body, kept, kept-body, gone-body, kept-has, kept-rising, kept-names}
use Rattle.model.proofs.Entries.{Sorted, in_count}
use Rattle.model.proofs.Good.{ents, Dir, Hung, Live, body_ok, Good, dir-or, reach_live, good-sound}

-- what stays
abbrev pub stays : (ℕ → Bool) → Fs → ℕ → Bool
stays o f n = eqb n 0 || ltb 0 (name_count f n) || o n

module _ (o : ℕ → Bool) (f : Fs) where
  pub stays-top : stays o f 0 ≡ true
  stays-top = refl

  pub stays-named : (k : ℕ) → 1 ≤ name_count f k → stays o f k ≡ true
  stays-named k h = is_true (stays o f k) (or_fst (eqb k 0 || ltb 0 (name_count f k)) (o k) (or_snd (eqb k 0) (ltb 0 (name_count f k)) (lt→ltb 0 (name_count f k) h)))

  pub stays_open : (k : ℕ) → T (o k) → stays o f k ≡ true
  stays_open k h = is_true (stays o f k) (or_snd (eqb k 0 || ltb 0 (name_count f k)) (o k) h)

  pub stays-live : (k : ℕ) → Live f k → stays o f k ≡ true
  stays-live k l = elim l.1 [ inl e ↦ is_true (stays o f k) (or_fst (eqb k 0 || ltb 0 (name_count f k)) (o k) (or_fst (eqb k 0) (ltb 0 (name_count f k)) (holds (eq-eqb k 0 e)))) | inr h ↦ stays-named k h ]

  goes-nameless : (k : ℕ) → stays o f k ≡ false → (k ≡ 0 → ⊥) × (name_count f k ≡ 0)
  goes-nameless k e = (λ z. fails e (or_fst (eqb k 0 || ltb 0 (name_count f k)) (o k) (or_fst (eqb k 0) (ltb 0 (name_count f k)) (holds (eq-eqb k 0 z)))), elim (same_or (name_count f k) 0) [ inl q ↦ q | inr h ↦ absurd (fails e (holds (stays-named k (omega arith)))) ])

  pub swept_at : (k : ℕ) → stays o f k ≡ true → body_at (swept o f) k ≡ body_at f k
  swept_at k h = kept-body (stays o f) k f.nodes h

  pub swept-there : (k : ℕ) → stays o f k ≡ true → T (is_there f k) → T (is_there (swept o f) k)
  swept-there k h t = kept-has (stays o f) k f.nodes h t

  pub there-swept : (k : ℕ) → T (is_there (swept o f) k) → T (is_there f k) × (stays o f k ≡ true)
  there-swept k t =
      let q = has_in k (kept (stays o f) f.nodes) t in
      let i = in-keep (λ (x : Node). stays o f x.num) f.nodes q.0 q.1 in
      (subst (λ z. T (is_there f z)) q.2 (in-has f.nodes q.0 i.0), is_true (stays o f k) (subst (λ z. T (stays o f z)) q.2 i.1))

module _ (o : ℕ → Bool) (f : Fs) (g : Good f 0) where
  gone-ents : (k : ℕ) → stays o f k ≡ false → ents f k ≡ []
  gone-ents k e =
      let n = goes-nameless o f k e in
      elim (dir-or (body_at f k)) [
        | inl d ↦ elim (g.hung k (holds d) n.0 n.0) [ inl h ↦ absurd (let a = h.0 in let b = n.1 in omega arith) | inr h ↦ h.1 ]
        | inr d ↦ d.1
      ]

  pub swept-names : (k : ℕ) → name_count (swept o f) k ≡ name_count f k
  swept-names k = kept-names (stays o f) k f.nodes (λ x i e. subst (λ b. entries_of b ≡ []) (in_body 0 f.nodes x g.rising i) (gone-ents x.num e))

  pub swept-ents : (k : ℕ) → ents (swept o f) k ≡ ents f k
  unfolding entries_of
  swept-ents k = elim (cases_Bool (stays o f k)) [ inl h ↦ ap entries_of (swept_at o f k h) | inr h ↦ ap entries_of (gone-body (stays o f) k f.nodes h) ∙ sym (gone-ents k h) ]

  dir-stays : (k : ℕ) → Dir (swept o f) k → stays o f k ≡ true
  unfolding is_folder
  dir-stays k d = elim (cases_Bool (stays o f k)) [ inl h ↦ h | inr h ↦ absurd (subst (λ b. T (is_folder b)) (gone-body (stays o f) k f.nodes h) d) ]

  pub swept-good : Good (swept o f) 0
  swept-good =
      record {
        rising = kept-rising (stays o f) 0 0 f.nodes (omega arith) g.rising;
        small = λ k t. g.small k (there-swept o f k t).0;
        body = λ k t. let q = there-swept o f k t in subst (λ b. T (body_ok b)) (sym (swept_at o f k q.1)) (g.body k q.0);
        sorted = λ k. subst (λ z. Sorted z) (sym (swept-ents k)) (g.sorted k);
        each = λ k e i.
            let j = subst (λ z. In e z) (swept-ents k) i in
            let h = g.each k e j in
            let a = in_count (ents f k) e j in
            (h.0, swept-there o f e.node (stays-named o f e.node (omega (arith, names-least e.node k f.nodes))) h.1);
        hung = λ k d z _.
            let s = dir-stays k d in
            hu k s (subst (λ b. T (is_folder b)) (swept_at o f k s) d) z;
        top = subst (λ b. T (is_folder b)) (sym (swept_at o f 0 (stays-top o f))) g.top;
        top_up = ap parent_of (swept_at o f 0 (stays-top o f)) ∙ g.top_up;
        top_names = swept-names 0 ∙ g.top_names;
      }
    where
      hu : (k : ℕ) → stays o f k ≡ true → Dir f k → (k ≡ 0 → ⊥) → Hung (swept o f) k
      hu k s d z =
          elim (g.hung k d z z) [
            | inl q ↦
                let a = q.0 in
                inl (
                  swept-names k ∙ q.0,
                  subst (λ u. 1 ≤ count_entries k (ents (swept o f) u)) (sym (ap parent_of (swept_at o f k s))) (subst (λ es. 1 ≤ count_entries k es) (sym (swept-ents (parent_of (body_at f k)))) q.1),
                  (q.2.0, reach_live (swept o f) g (λ j l. ap parent_of (swept_at o f j (stays-live o f j l))) q.2.0 k (d, inr (omega arith)) q.2.1),
                )
            | inr q ↦ inr (swept-names k ∙ q.0, swept-ents k ∙ q.1)
          ]

-- what is open
abbrev pub HandleOk : Fs → Handle → Type 0
HandleOk f h = T (is_there f h.node) × (T h.writes → T (is_file (body_at f h.node)))

pub handle-of : (f : Fs) (h : Handle) → T (handle_ok f h) → HandleOk f h
handle-of f h t =
    let B = not h.writes || is_file (body_at f h.node) in (
      and-fst (is_there f h.node) B t,
      λ w. elim (or-either (not h.writes) (is_file (body_at f h.node)) (and-snd (is_there f h.node) B t)) [ inl n ↦ absurd (fails (not-holds h.writes n) w) | inr i ↦ i ],
    )

pub of-handle : (f : Fs) (h : Handle) → HandleOk f h → T (handle_ok f h)
of-handle f h q =
    and_both (is_there f h.node) (not h.writes || is_file (body_at f h.node)) q.0
    (elim (cases_Bool h.writes) [ inl e ↦ or_snd (not h.writes) (is_file (body_at f h.node)) (q.1 (holds e)) | inr e ↦ or_fst (not h.writes) (is_file (body_at f h.node)) (subst (λ b. T (not b)) (sym e) tt) ])

abbrev pub Handles : Fs → List Handle → Type 0
Handles f hs = (h : Handle) → In h hs → HandleOk f h

pub handles-of : (s : State) → SoundState s → Handles s.now s.handles
handles-of s t h i = handle-of s.now h (every_in (handle_ok s.now) s.handles t.1 h i)

-- a good tree, swept, is sound with what is open
pub becomes-sound : (f : Fs) (hs : List Handle) (s : State) → Good f 0 → Handles f hs → SoundState (becomes f hs s)
becomes-sound f hs s g ok = (
  good-sound (swept (is_open hs) f) (swept-good (is_open hs) f g),
  in-every (handle_ok (swept (is_open hs) f)) hs (λ h i.
      let st = stays_open (is_open hs) f h.node (in_some (λ (x : Handle). eqb x.node h.node) hs h i (holds (eq-eqb h.node h.node refl))) in
      of-handle (swept (is_open hs) f) h (swept-there (is_open hs) f h.node st (ok h i).0, λ w. subst (λ b. T (is_file b)) (sym (swept_at (is_open hs) f h.node st)) ((ok h i).1 w))),
)
