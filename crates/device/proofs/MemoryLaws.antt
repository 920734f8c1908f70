-- The device in memory: what a write, a sync and an undone write make of its view, and what is played on it.
-- Assumes nothing.
use Rattle.std.proofs.Common.{◌≡◌, ℕ, ◌<◌, true, false, cond, eqb, ◌⊎◌, List, [], ◌∷◌, ◌++◌, length, get_or, set, replicate, sym, refl, ap, ◌∙◌, subst, subst₂, inl, inr, ⊎_elim, get_or-set_other, get_or-set_same, eq-eqb, ne_eqb}
use mathlib.Core.Path.{subst₃}
use mathlib.Core.List.Memᴰ
use mathlib.Core.List.{Memᴰ}
use Rattle.std.proofs.lemmas.Bool.{cases_lt, cases_eq, cases_Bool, both_ways}
use Rattle.std.proofs.lemmas.List.{get_or-replicate, get_or_past, length-replicate}
use Rattle.device.specs.Sectors.{Device, AfterCut, latest, written, synced}
use Rattle.device.specs.Program.{Io, read, write, sync, Upto, Fair}
use Rattle.device.specs.Plays.{Asked, Read, Write, Sync, Plays}
use Rattle.device.specs.Memory.{kept_of, since_of, lit, spent, size_of, view_of, Powered, MemorySteps, MemoryPlays, MemoryRuns, MemoryCuts}
use Rattle.device.specs.declared.memory.Memory.{Memory}
use Rattle.device.specs.declared.memory.Power.{Power}
use Rattle.device.specs.declared.memory.Power.TheVariants.{Unlimited, For, Off}
use Rattle.device.specs.declared.memory.Logged.{Logged}
use Rattle.device.proofs.Plays.{honest_runs_lem}

pub same-device : (d e : Device) → ((s : ℕ) → d.kept s ≡ e.kept s) → ((s : ℕ) → d.since s ≡ e.since s) → d ≡ e
same-device d e h k = λ i. record { kept = λ s. h s i; since = λ s. k s i }

-- what a read shows is what the sector shows
latest-push : (x y : List ℕ) (ys : List (List ℕ)) → latest x (ys ++ y ∷ []) ≡ latest y ys
unfolding latest
latest-push x y [] = refl
latest-push x y (z ∷ zs) = refl

pub shows-now : (s : ℕ) (now : List ℕ) (ws : List Logged) → latest (kept_of s now ws) (since_of s now ws) ≡ now
unfolding latest kept_of since_of
shows-now s now [] = refl
shows-now s now (w ∷ ws) =
    elim (eqb w.at s) as (λ b. latest (cond b w.was (kept_of s now ws)) (cond b (since_of s now ws ++ kept_of s now ws ∷ []) (since_of s now ws)) ≡ now) [
      | true ↦ latest-push w.was (kept_of s now ws) (since_of s now ws) ∙ shows-now s now ws
      | false ↦ shows-now s now ws
    ]

-- One write more in the log: of the sector itself, which shows `now` and showed w's bytes before, and of another.
module _ (s : ℕ) (now : List ℕ) (w : Logged) where
  pub kept_push : eqb w.at s ≡ true → (ws : List Logged) → kept_of s now (ws ++ w ∷ []) ≡ kept_of s w.was ws
  unfolding kept_of
  kept_push e [] = ap (λ b. cond b w.was now) e
  kept_push e (v ∷ vs) = ap (cond (eqb v.at s) v.was) (kept_push e vs)

  pub since-push : eqb w.at s ≡ true → (ws : List Logged) → since_of s now (ws ++ w ∷ []) ≡ now ∷ since_of s w.was ws
  unfolding kept_of since_of
  since-push e [] = ap (λ b. cond b (now ∷ []) []) e
  since-push e (v ∷ vs) =
      subst₂ (λ k l. cond (eqb v.at s) (l ++ k ∷ []) l ≡ now ∷ cond (eqb v.at s) (since_of s w.was vs ++ kept_of s w.was vs ∷ []) (since_of s w.was vs)) (sym (kept_push e vs)) (sym (since-push e vs))
      (elim (eqb v.at s) as (λ b. cond b (now ∷ (since_of s w.was vs ++ kept_of s w.was vs ∷ [])) (now ∷ since_of s w.was vs) ≡ now ∷ cond b (since_of s w.was vs ++ kept_of s w.was vs ∷ []) (since_of s w.was vs)) [ true ↦ refl | false ↦ refl ])

  pub kept-push-other : eqb w.at s ≡ false → (ws : List Logged) → kept_of s now (ws ++ w ∷ []) ≡ kept_of s now ws
  unfolding kept_of
  kept-push-other e [] = ap (λ b. cond b w.was now) e
  kept-push-other e (v ∷ vs) = ap (cond (eqb v.at s) v.was) (kept-push-other e vs)

  pub since-push-other : eqb w.at s ≡ false → (ws : List Logged) → since_of s now (ws ++ w ∷ []) ≡ since_of s now ws
  unfolding kept_of since_of
  since-push-other e [] = ap (λ b. cond b (now ∷ []) []) e
  since-push-other e (v ∷ vs) = subst₂ (λ k l. cond (eqb v.at s) (l ++ k ∷ []) l ≡ cond (eqb v.at s) (since_of s now vs ++ kept_of s now vs ∷ []) (since_of s now vs)) (sym (kept-push-other e vs)) (sym (since-push-other e vs)) refl

-- What is seen of sectors xs, blank as z past the end, with the log ws.
abbrev pub seen : List ℕ → List (List ℕ) → List Logged → Device
seen z xs ws = record { kept = λ s. kept_of s (get_or xs s z) ws; since = λ s. since_of s (get_or xs s z) ws }

pub seen-written : (z : List ℕ) (xs : List (List ℕ)) (ws : List Logged) (n : ℕ) (bs : List ℕ) (w : Logged) → n < length xs → w.at ≡ n → w.was ≡ get_or xs n z → seen z (set xs n bs) (ws ++ w ∷ []) ≡ written n bs (seen z xs ws)
seen-written z xs ws n bs w h at was = same-device (seen z (set xs n bs) (ws ++ w ∷ [])) (written n bs (seen z xs ws)) kept since
  where
    kept : (s : ℕ) → kept_of s (get_or (set xs n bs) s z) (ws ++ w ∷ []) ≡ kept_of s (get_or xs s z) ws
    kept s =
        elim (cases_eq s n) [
          | inl e ↦ rw e (kept_push n (get_or (set xs n bs) n z) w (eq-eqb w.at n at) ws ∙ ap (λ x. kept_of n x ws) was)
          | inr ne ↦ kept-push-other s (get_or (set xs n bs) s z) w (ne_eqb w.at s (λ e. ne (sym e ∙ at))) ws ∙ ap (λ x. kept_of s x ws) (get_or-set_other xs n s bs z ne)
        ]

    since : (s : ℕ) → since_of s (get_or (set xs n bs) s z) (ws ++ w ∷ []) ≡ cond (eqb s n) (bs ∷ since_of n (get_or xs n z) ws) (since_of s (get_or xs s z) ws)
    since s =
        elim (cases_eq s n) [
          | inl e ↦ rw (e, eq-eqb n n refl) (since-push n (get_or (set xs n bs) n z) w (eq-eqb w.at n at) ws ∙ ap (λ x. x ∷ since_of n w.was ws) (get_or-set_same xs n bs z h) ∙ ap (λ x. bs ∷ since_of n x ws) was)
          | inr ne ↦ rw (ne_eqb s n ne) (since-push-other s (get_or (set xs n bs) s z) w (ne_eqb w.at s (λ e. ne (sym e ∙ at))) ws ∙ ap (λ x. since_of s x ws) (get_or-set_other xs n s bs z ne))
        ]

pub seen-synced : (z : List ℕ) (xs : List (List ℕ)) (ws : List Logged) → seen z xs [] ≡ synced (seen z xs ws)
unfolding kept_of since_of
seen-synced z xs ws = same-device (seen z xs []) (synced (seen z xs ws)) (λ s. sym (shows-now s (get_or xs s z) ws)) (λ s. refl)

-- UNDONE WRITES. What a sector held at the last sync or since then.
abbrev pub Had : ℕ → List ℕ → List Logged → List ℕ → Type 0
Had s now ws x = (x ≡ kept_of s now ws) ⊎ Memᴰ x (since_of s now ws)

-- the newest write forgotten: whatever the sector had without it, it had, whether it shows now what that write replaced or not
had-before : (s : ℕ) (now was : List ℕ) (ws : List Logged) (x : List ℕ) → Had s now ws x → (x ≡ kept_of s was ws) ⊎ Memᴰ x (now ∷ since_of s was ws)
unfolding kept_of since_of
had-before s now was [] x (inl e) = inr (Memᴰ.head e)
had-before s now was [] x (inr m) = absurd (Memᴰ.not-nil m)
had-before s now was (v ∷ vs) x h =
    elim (eqb v.at s) as (λ b. (x ≡ cond b v.was (kept_of s now vs)) ⊎ Memᴰ x (cond b (since_of s now vs ++ kept_of s now vs ∷ []) (since_of s now vs)) → (x ≡ cond b v.was (kept_of s was vs)) ⊎ Memᴰ x (now ∷ cond b (since_of s was vs ++ kept_of s was vs ∷ []) (since_of s was vs))) [
      | true ↦ ⊎_elim inl (λ m. inr (among (had-before s now was vs x (later m))))
      | false ↦ had-before s now was vs x
    ] h
  where
    later : Memᴰ x (since_of s now vs ++ kept_of s now vs ∷ []) → Had s now vs x
    later m = elim (Memᴰ.append_cases (since_of s now vs) m) [ inl k ↦ inr k | inr k ↦ inl (Memᴰ.eq_of_singleton k) ]

    among : (x ≡ kept_of s was vs) ⊎ Memᴰ x (now ∷ since_of s was vs) → Memᴰ x (now ∷ (since_of s was vs ++ kept_of s was vs ∷ []))
    among (inl e) = Memᴰ.tail (Memᴰ.append_right (since_of s was vs) (Memᴰ.head e))
    among (inr k) = Memᴰ.append_left (kept_of s was vs ∷ []) k

module _ (s : ℕ) (now : List ℕ) (w : Logged) (ws : List Logged) (x : List ℕ) where
  pub had-undone : w.at ≡ s → Had s w.was ws x → Had s now (ws ++ w ∷ []) x
  had-undone at h =
      let e = eq-eqb w.at s at in
      subst₂ (λ k l. (x ≡ k) ⊎ Memᴰ x l) (sym (kept_push s now w e ws)) (sym (since-push s now w e ws)) (⊎_elim inl (λ m. inr (Memᴰ.tail m)) h)

  pub had-left : Had s now ws x → Had s now (ws ++ w ∷ []) x
  had-left h =
      elim (cases_eq w.at s) [
        | inl at ↦ let e = eq-eqb w.at s at in subst₂ (λ k l. (x ≡ k) ⊎ Memᴰ x l) (sym (kept_push s now w e ws)) (sym (since-push s now w e ws)) (had-before s now w.was ws x h)
        | inr ne ↦ let e = ne_eqb w.at s ne in subst₂ (λ k l. (x ≡ k) ⊎ Memᴰ x l) (sym (kept-push-other s now w e ws)) (sym (since-push-other s now w e ws)) h
      ]

-- Sectors xs with the log ws have had what ys with vs had.
abbrev pub HadAll : List ℕ → List (List ℕ) → List Logged → List (List ℕ) → List Logged → Type 0
HadAll z xs ws ys vs = (s : ℕ) (x : List ℕ) → Had s (get_or ys s z) vs x → Had s (get_or xs s z) ws x

-- the newest write w of a log es is forgotten, and undone or not
pub forgets : (z : List ℕ) (xs : List (List ℕ)) (es : List Logged) (w : Logged) (ws : List Logged) → es ≡ ws ++ w ∷ [] → HadAll z xs es xs ws
forgets z xs es w ws e s x h = subst (λ vs. Had s (get_or xs s z) vs x) (sym e) (had-left s (get_or xs s z) w ws x h)

pub undoes : (z : List ℕ) (xs : List (List ℕ)) (es : List Logged) (w : Logged) (ws : List Logged) → es ≡ ws ++ w ∷ [] → w.at < length xs → HadAll z xs es (set xs w.at w.was) ws
undoes z xs es w ws e l s x h =
    subst (λ vs. Had s (get_or xs s z) vs x) (sym e) (
    elim (cases_eq s w.at) [
      | inl same ↦ had-undone s (get_or xs s z) w ws x (sym same) (subst (λ y. Had s y ws x) (ap (λ k. get_or (set xs w.at w.was) k z) same ∙ get_or-set_same xs w.at w.was z l) h)
      | inr other ↦ had-left s (get_or xs s z) w ws x (subst (λ y. Had s y ws x) (get_or-set_other xs w.at s w.was z other) h)
    ]
    )

-- once the log is empty, that is what a cut may leave
pub left_after : (z : List ℕ) (xs : List (List ℕ)) (ws : List Logged) (ys : List (List ℕ)) (es vs : List Logged) → es ≡ [] → vs ≡ [] → HadAll z xs ws ys es → AfterCut (seen z xs ws) (seen z ys vs)
unfolding since_of
left_after z xs ws ys es vs e k h = record { each = λ s. h s (kept_of s (get_or ys s z) vs) (inl (ap (kept_of s (get_or ys s z)) (k ∙ sym e))); nothing = λ s. ap (since_of s (get_or ys s z)) k }

get_or-same : (z : List ℕ) (n s : ℕ) → get_or (replicate n z) s z ≡ z
get_or-same z n s = elim (cases_lt s n) [ inl l ↦ get_or-replicate n s z z l | inr l ↦ get_or_past (replicate n z) s z (simp length-replicate l) ]

pub seen-blank : (z : List ℕ) (n : ℕ) (xs : List (List ℕ)) (ws : List Logged) → xs ≡ replicate n z → ws ≡ [] → seen z xs ws ≡ record { kept = λ s. z; since = λ s. [] }
unfolding kept_of since_of
seen-blank z n xs ws e k = subst₂ (λ ys vs. seen z ys vs ≡ record { kept = λ s. z; since = λ s. [] }) (sym e) (sym k) (same-device (seen z (replicate n z) []) (record { kept = λ s. z; since = λ s. [] }) (get_or-same z n) (λ s. refl))

-- WHAT IS PLAYED. Off stays off.
lit-spent : (q : Power) → lit (spent q) ≡ true → lit q ≡ true
lit-spent Unlimited e = refl
lit-spent (For n) e = refl
lit-spent Off e = e

lit-before : (c : Asked) (s : Memory) (q : Power) → Powered c s q → lit q ≡ true → lit s.power ≡ true
lit-before (Read n) s q h e = lit-spent s.power (ap lit (sym h) ∙ e)
lit-before (Write n bs) s q h e = elim h.0 [ inl k ↦ lit-spent s.power (ap lit (sym k) ∙ e) | inr k ↦ absurd (both_ways (lit q) (ap lit k) e) ]
lit-before Sync s q h e = lit-spent s.power (ap lit (sym h) ∙ e)

pub lit-from : {A : Type 0} {p : Io A} {s t : Memory} {a : A} → Plays MemorySteps p s t a → lit t.power ≡ true → lit s.power ≡ true
lit-from Plays.ends e = e
lit-from (Plays.reads {n = n} {s = s} {t = v} x q) e = lit-before (Read n) s v.power x.power (lit-from q e)
lit-from (Plays.writes {n = n} {bs = bs} {s = s} {t = v} x q) e = lit-before (Write n bs) s v.power x.power (lit-from q e)
lit-from (Plays.syncs {s = s} {t = v} x q) e = lit-before Sync s v.power x.power (lit-from q e)

dark-after : (c : Asked) (s : Memory) (q : Power) → Powered c s q → lit s.power ≡ false → lit q ≡ false
dark-after c s q h e = elim (cases_Bool (lit q)) [ inl on ↦ absurd (both_ways (lit s.power) e (lit-before c s q h on)) | inr off ↦ off ]

dark-stays : {A : Type 0} {p : Io A} {s t : Memory} {a : A} → Plays MemorySteps p s t a → lit s.power ≡ false → view_of t ≡ view_of s
dark-stays Plays.ends e = refl
dark-stays (Plays.reads {n = n} {s = s} {t = v} x q) e = let off = dark-after (Read n) s v.power x.power e in dark-stays q off ∙ (x.dark off).unchanged.view
dark-stays (Plays.writes {n = n} {bs = bs} {s = s} {t = v} x q) e = let off = dark-after (Write n bs) s v.power x.power e in dark-stays q off ∙ (x.dark off).unchanged.view
dark-stays (Plays.syncs {s = s} {t = v} x q) e = let off = dark-after Sync s v.power x.power e in dark-stays q off ∙ (x.dark off).unchanged.view

size-stays : {A : Type 0} {p : Io A} {s t : Memory} {a : A} → Plays MemorySteps p s t a → size_of t ≡ size_of s
size-stays Plays.ends = refl
size-stays (Plays.reads x q) = size-stays q ∙ x.size
size-stays (Plays.writes x q) = size-stays q ∙ x.size
size-stays (Plays.syncs x q) = size-stays q ∙ x.size

fair-over : {A : Type 0} {m n : ℕ} {p r : Io A} {d e : Device} → m ≡ n → p ≡ r → d ≡ e → Fair n r e → Fair m p d
fair-over {A = A} h k l f = subst₃ (λ m p d. Fair m {A = A} p d) (sym h) (sym k) (sym l) f

pub memory_plays : (A : Type 0) → MemoryPlays A
memory_plays A p s t a Plays.ends f e = Plays.ends
memory_plays A p s t a (Plays.reads {k = k} {bs = bs} {t = v} x q) (Fair.reads i f) e =
    let h = (x.inside (lit-from q e) i).honestly in
    Plays.reads h (memory_plays A (k bs) v t a q (fair-over x.size (ap k h.0) h.1 f) e)
memory_plays A p s t a (Plays.writes {p = p'} {t = v} x q) (Fair.writes i l b f) e =
    let h = (x.inside (lit-from q e) i).honestly in
    Plays.writes h (memory_plays A p' v t a q (fair-over x.size refl h f) e)
memory_plays A p s t a (Plays.syncs {p = p'} {t = v} x q) (Fair.syncs f) e =
    let h = (x.inside (lit-from q e) tt).honestly in
    Plays.syncs h (memory_plays A p' v t a q (fair-over x.size refl h f) e)

pub memory_runs_lem : (A : Type 0) → MemoryRuns A
memory_runs_lem A p s t a q f e = honest_runs_lem A p (view_of s) (view_of t) a (memory_plays A p s t a q f e)

-- the power fails at what is asked first
stops : {A : Type 0} (p : Io A) {d e : Device} → e ≡ d → Upto p d e
stops p {d = d} h = subst (Upto p d) (sym h) Upto.here

-- or later
upto-over : {A : Type 0} {p r : Io A} {d e g : Device} → p ≡ r → d ≡ e → Upto p d g → Upto r e g
upto-over {g = g} h k u = subst₂ (λ p d. Upto p d g) h k u

cuts : {A : Type 0} {p : Io A} {s t : Memory} {a : A} → Plays MemorySteps p s t a → Fair (size_of s) p (view_of s) → Upto p (view_of s) (view_of t)
cuts Plays.ends f = Upto.here
cuts (Plays.reads {n = n} {k = k} {t = v} x q) (Fair.reads i f) =
    elim (cases_Bool (lit v.power)) [
      | inl on ↦ let h = (x.inside on i).honestly in Upto.reads (upto-over (ap k h.0) h.1 (cuts q (fair-over x.size (ap k h.0) h.1 f)))
      | inr off ↦ stops (read n k) (dark-stays q off ∙ (x.dark off).unchanged.view)
    ]
cuts (Plays.writes {n = n} {p = p} {bs = bs} {t = v} x q) (Fair.writes i l b f) =
    elim (cases_Bool (lit v.power)) [
      | inl on ↦ let h = (x.inside on i).honestly in Upto.writes (upto-over refl h (cuts q (fair-over x.size refl h f)))
      | inr off ↦ stops (write n bs p) (dark-stays q off ∙ (x.dark off).unchanged.view)
    ]
cuts (Plays.syncs {p = p} {t = v} x q) (Fair.syncs f) =
    elim (cases_Bool (lit v.power)) [
      | inl on ↦ let h = (x.inside on tt).honestly in Upto.syncs (upto-over refl h (cuts q (fair-over x.size refl h f)))
      | inr off ↦ stops (sync p) (dark-stays q off ∙ (x.dark off).unchanged.view)
    ]

pub memory_cuts : (A : Type 0) → MemoryCuts A
memory_cuts A p s t a q f = (cuts q f, size-stays q)
