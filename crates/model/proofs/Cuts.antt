-- Nothing lies about without a name that is not open; what a cut may leave.
-- Assumes nothing.
use Rattle.std.proofs.Common.{◌≡◌, ℕ, ◌≤◌, Bool, false, ◌||◌, T, eqb, ltb, ◌⊎◌, List, [], ◌∷◌, sym, refl, subst, inl, inr, ltb→lt}
use mathlib.Core.List.{Memᴰ}
use Rattle.std.proofs.lemmas.Bool.{eqb-true}
use Rattle.model.specs.Tree.{Fs, blank, some, keep, name_count, swept}
use Rattle.model.specs.Calls.{State, fresh, is_open}
use Rattle.model.specs.Answers.{synced, Down}
use Rattle.model.specs.Sound.{is_there, Sound, SoundState, Reached}
use Rattle.model.specs.Room.{Tidy, AlwaysTidy, NowIsFirst, CutNamed}
use Rattle.model.proofs.Facts.{or-either, or_fst, holds, is_true}
use Rattle.model.proofs.Good.{Good, sound-good}
use Rattle.model.proofs.Sweeps.{stays, there-swept, swept-names}
use Rattle.model.proofs.Edits.{edit-good, Change, same, edited, opened, closed, changes}
use Rattle.model.proofs.Keeping.{always_sound}

-- what is swept is tidy
swept-tidy : (o : ℕ → Bool) (f : Fs) → Good f 0 → (k : ℕ) → T (is_there (swept o f) k) → T (stays o (swept o f) k)
swept-tidy o f g k t = subst (λ n. T (eqb k 0 || ltb 0 n || o k)) (sym (swept-names o f g k)) (holds (there-swept o f k t).1)

abbrev IsFirst : State → Type 0
IsFirst t = (others : List Fs) × (t.could ≡ t.now ∷ others)

module _ (s : State) (sound : SoundState s) where
  g : Good s.now 0
  g = sound-good s.now sound.0

  change-tidy : {t : State} → Tidy s → Change s t → Tidy t
  change-tidy h same = h
  change-tidy h Change.synced = h
  change-tidy h (edited {f' = f'} e) = swept-tidy (is_open s.handles) f' (edit-good g e).0
  change-tidy h (opened {f' = f'} x e ok) = swept-tidy (is_open (x ∷ s.handles)) f' (edit-good g e).0
  change-tidy h (closed p) = swept-tidy (is_open (keep p s.handles)) s.now g

  change-first : {t : State} → IsFirst s → Change s t → IsFirst t
  change-first h same = h
  change-first h Change.synced = ([], refl)
  change-first h (edited e) = (s.could, refl)
  change-first h (opened x e ok) = (s.could, refl)
  change-first h (closed p) = (s.could, refl)

blank-tidy : Tidy (fresh blank)
unfolding some
blank-tidy k t = elim (or-either (eqb k 0) false t) [ inl e ↦ or_fst (eqb k 0 || ltb 0 (name_count blank k)) false (or_fst (eqb k 0) (ltb 0 (name_count blank k)) e) | inr e ↦ absurd e ]

cut-tidy : {s t : State} → ((f : Fs) → Memᴰ f s.could → Sound f) → Down s t → Tidy t
unfolding some
cut-tidy h (Down.leaves s f i) = swept-tidy (λ n. false) f (sound-good f (h f i))

tidy : {s : State} → Reached s → Tidy s
tidy Reached.start = blank-tidy
tidy (Reached.call {s = s} r c) = change-tidy s (always_sound s r).0 (tidy r) (changes s (always_sound s r).0 c)
tidy (Reached.cut {s = s} r d) = cut-tidy (always_sound s r).1 d

pub always_tidy_lem : AlwaysTidy
always_tidy_lem s r = tidy r

cut-first : {s t : State} → Down s t → IsFirst t
cut-first (Down.leaves s f i) = ([], refl)

first : {s : State} → Reached s → IsFirst s
first Reached.start = ([], refl)
first (Reached.call {s = s} r c) = change-first s (always_sound s r).0 (first r) (changes s (always_sound s r).0 c)
first (Reached.cut r d) = cut-first d

last-in : (f : Fs) (gs : List Fs) → Memᴰ (synced f gs) (f ∷ gs)
unfolding synced
last-in f [] = Memᴰ.head refl
last-in f (g ∷ gs) = Memᴰ.tail (last-in g gs)

pub now_is_first_lem : NowIsFirst
unfolding synced
now_is_first_lem s r = let h = first r in (h, subst (λ z. Memᴰ (synced s.now z) z) (sym h.1) (last-in s.now h.0))

nobody : {s t : State} → Down s t → t.handles ≡ []
nobody (Down.leaves s f i) = refl

pub cut_named_lem : CutNamed
unfolding some
cut_named_lem s t r d =
    let q = Reached.cut r d in (
      (always_sound t q).0.0,
      λ k h. named k (subst (λ hs. T (eqb k 0 || ltb 0 (name_count t.now k) || is_open hs k)) (nobody d) (tidy q k h)),
    )
  where
    named : (k : ℕ) → T (eqb k 0 || ltb 0 (name_count t.now k) || false) → (k ≡ 0) ⊎ (1 ≤ name_count t.now k)
    named k h = elim (or-either (eqb k 0 || ltb 0 (name_count t.now k)) false h) [
      | inl e ↦ elim (or-either (eqb k 0) (ltb 0 (name_count t.now k)) e) [ inl z ↦ inl (eqb-true k 0 (is_true (eqb k 0) z)) | inr z ↦ inr (ltb→lt 0 (name_count t.now k) z) ]
      | inr e ↦ absurd e
    ]
