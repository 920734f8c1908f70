-- The tree stays a tree, whatever is called; every tree that there can ever be is sound.
-- Assumes nothing.
use Rattle.std.proofs.Common.{◌≡◌, ℕ, Bool, false, ◌⊎◌, ◌∷◌, sym, refl, subst, inl, inr}
use mathlib.Core.List.Memᴰ
use mathlib.Core.List.{Memᴰ}
use Rattle.model.specs.Tree.{Fs, blank, some, every, keep, body_in, entries_of, is_folder, is_file, bytes_of, parent_of, count_entries, count_names, swept, is_above}
use Rattle.model.specs.Calls.{Handle, Call, Reply, State, fresh, does}
use Rattle.model.specs.Answers.{Answers, Down}
use Rattle.model.specs.Sound.{rising_nums, rising_names, Sound, SoundState, StaysSound, Reached, AlwaysSound, AnswersReach}
use Rattle.model.proofs.Facts.{in-keep}
use Rattle.model.proofs.Good.{Good, sound-good, good-sound}
use Rattle.model.proofs.Sweeps.{HandleOk, Handles, handles-of, becomes-sound, swept-good}
use Rattle.model.proofs.Renames.{Stays}
use Rattle.model.proofs.Edits.{edit-good, Change, same, synced, edited, opened, closed, changes}

module _ (s : State) (sound : SoundState s) where
  g : Good s.now 0
  g = sound-good s.now sound.0

  carried : (f' : Fs) → Stays s.now f' → Handles f' s.handles
  carried f' st h i = let q = handles-of s sound h i in (st.0 h.node q.0, λ w. st.1 h.node (q.1 w))

  with-new : (f' : Fs) (n : Handle) → HandleOk f' n → Handles f' s.handles → Handles f' (n ∷ s.handles)
  with-new f' n ok all h (inl e) = subst (λ z. HandleOk f' z) e ok
  with-new f' n ok all h (inr i) = all h i

  change-sound : {t : State} → Change s t → SoundState t
  change-sound same = sound
  change-sound synced = sound
  change-sound (edited {f' = f'} e) = let r = edit-good g e in becomes-sound f' s.handles s r.0 (carried f' r.1)
  change-sound (opened {f' = f'} h e ok) = let r = edit-good g e in becomes-sound f' (h ∷ s.handles) s r.0 (with-new f' h ok (carried f' r.1))
  change-sound (closed p) = becomes-sound s.now (keep p s.handles) s g (λ x i. handles-of s sound x (in-keep p s.handles x i).0)

  -- what a cut may leave then: the tree as it is then, or what it could before
  grows : {t : State} → Change s t → (f : Fs) → Memᴰ f t.could → (f ≡ t.now) ⊎ Memᴰ f s.could
  grows same f i = inr i
  grows synced f i = elim (Memᴰ.cases_cons i) [ inl e ↦ inl e | inr j ↦ absurd (Memᴰ.not-nil j) ]
  grows (edited e) f i = Memᴰ.cases_cons i
  grows (opened h e ok) f i = Memᴰ.cases_cons i
  grows (closed p) f i = Memᴰ.cases_cons i

pub stays_sound : StaysSound
stays_sound c s sound = change-sound s sound (changes s sound c)

pub could-grows : (s : State) → SoundState s → (c : Call) (f : Fs) → Memᴰ f (does c s).state.could → (f ≡ (does c s).state.now) ⊎ Memᴰ f s.could
could-grows s sound c = grows s sound (changes s sound c)

abbrev All : State → Type 0
All s = SoundState s × ((f : Fs) → Memᴰ f s.could → Sound f)

fresh-all : (f : Fs) → Sound f → All (fresh f)
unfolding every
fresh-all f h = ((h, tt), λ g i. elim (Memᴰ.cases_cons i) [ inl e ↦ subst (λ z. Sound z) (sym e) h | inr j ↦ absurd (Memᴰ.not-nil j) ])

pub blank-sound : Sound blank
unfolding rising_nums rising_names every some body_in is_folder is_file bytes_of parent_of entries_of count_entries count_names is_above
blank-sound = (tt, tt, tt, refl, refl)

pub swept-sound : (o : ℕ → Bool) (f : Fs) → Sound f → Sound (swept o f)
swept-sound o f h = good-sound (swept o f) (swept-good o f (sound-good f h))

down-all : {s t : State} → All s → Down s t → All t
down-all h (Down.leaves s f i) = fresh-all (swept (λ n. false) f) (swept-sound (λ n. false) f (h.1 f i))

reached : {s : State} → Reached s → All s
reached Reached.start = fresh-all blank blank-sound
reached (Reached.call {s = s} r c) =
    let h = reached r in
    let t = stays_sound c s h.0 in
    (t, λ f i. elim (could-grows s h.0 c f i) [ inl e ↦ subst (λ z. Sound z) (sym e) t.0 | inr j ↦ h.1 f j ])
reached (Reached.cut r d) = down-all (reached r) d

pub always_sound : AlwaysSound
always_sound s r = reached r

answered : {can : Call → Bool} {size : ℕ} {c : Call} {s t : State} {r : Reply} → Reached s → Answers can size c s r t → Reached t
answered h (Answers.as-meant c s ok) = Reached.call h c
answered h (Answers.not_yet c s wait) = h
answered h (Answers.full c s ok heavier room) = h

pub answers_reach_lem : AnswersReach
answers_reach_lem can size c s t r h a = answered h a
