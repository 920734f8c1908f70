-- All calls but a sync.
-- Assumes nothing.
use Rattle.std.proofs.Common.{◌≡◌, ℕ, zero, suc, ◌+◌, ◌-◌, ◌<◌, ◌≤◌, min, max, Bool, true, false, cond, not, ◌&&◌, T, eqb, ltb, ◌⊎◌, List, length, Some, sym, refl, ap, ◌∙◌, subst, inl, inr, arith}
use Rattle.std.proofs.lemmas.Bool.{eqb-true, eqb-false, eq-eqb, ne_eqb, cases_eq, cases_lt, ltb-true, ltb-false, and_parts, and_cases, both_ways}
use Rattle.device.specs.Sectors.{Device, shown, all_bytes}
use Rattle.device.specs.Program.{Io, and_then}
use Rattle.device.specs.Plays.{io_of}
use Rattle.paging.specs.Layout.{one, numbers, home, rooms}
use Rattle.paging.specs.Pages.{PageCall, Get, Put, PutVolatile, PutThrough, Volatile, Spare, Left, Label, Told, PageReply, Page, Said, Number, Labelled, replied, blank_page, same_bytes}
use Rattle.paging.specs.Memory.{Mem, moved, target, find_blank}
use Rattle.paging.specs.Store.{Stored, with_mem, read_page, write_page, place_of, put_into, put_full, put, store_flow}
use Rattle.paging.specs.Judge.{State, is_blank, set_at, after_put, Putting, PutAnswers, CanPut, CannotPut, Answers}
use Rattle.paging.proofs.Coding.{same, same_self, one-le}
use Rattle.paging.proofs.Logic.{by-eq, Whole, Wp, wp-cond, wp-then, wp-read_page, wp-write_page}
use Rattle.paging.proofs.Count.{one-true, many, places-few}
use Rattle.paging.proofs.Inv.{page_at, page-ext, Uses, Safe, Up, UpIn, Runs, Ends, Cut, stays, safe-write}
use Rattle.paging.proofs.Moves.{free-none, target_none, Goes, up-moved, left-moved, left-stays, fits}
use Rattle.paging.proofs.Reclaiming.{Fit, Differ, target-fit, crowded, now-page, now-blank, reclaim-ok}

-- A PUT of any kind
pub answers-put : {c : PageCall} {z n : ℕ} {b : List ℕ} {w : Bool} {s t : State} {r : PageReply} → Putting c n b w → PutAnswers z n b w s r t → Answers z c s r t
answers-put Putting.by_put a = Answers.puts a
answers-put Putting.by_put_volatile a = Answers.puts_volatile a
answers-put Putting.by_put_through a = Answers.puts_through a

module _ (s : State) (c : PageCall) (w : Bool) (n : ℕ) (b : List ℕ) (kind : Putting c n b w) where
  abbrev EndsPut : ℕ → Bool × Stored → Device → Type 0
  EndsPut z a e = (u : State) × Answers z c s (Said a.0) u × Runs z a.1 e u

  module _ (t : Stored) (known : t.known ≡ true) (label : t.label ≡ s.label) where
    module _ (m : Mem) (d : Device) (u : UpIn m.size m d s) (less : s.left ≤ m.left) (ok : CanPut m.size n b) where
      -- the page stands at its new place
      stands : (v : ℕ) (v' : Bool) (e : Device) → Goes m n v b → (v ≡ 0 → v' ≡ false) → (w && not (is_blank b)) ≡ v' → Safe m.size m.sel m.old s.synced s.label e → page_at m.size (shown e) v ≡ b →
          ((k : ℕ) → k < numbers m.size → (k ≡ n → ⊥) → page_at m.size (shown e) (m.now k) ≡ page_at m.size (shown d) (m.now k)) → one (not (eqb v 0)) ≤ one (not (is_blank b)) →
          Wp m.size (Cut m.size c s) (EndsPut m.size) (Io.answer (true, with_mem (moved n v v' m) t)) e
      stands v v' e g bl wv sf i o h =
          Wp.ends (stays u c e sf) (
            after_put n b w (moved n v v' m).left s,
            answers-put kind (PutAnswers.done (moved n v v' m).left ok (omega (arith, left-moved m u n v v' b ok.0 g))),
            record {
              known = known;
              label = label;
              left = refl;
              up = up-moved m u n v v' b ok.0 g bl e (set_at n b s.now) (set_at n (w && not (is_blank b)) s.volatile) sf i o (rw (eq-eqb n n refl)) (λ k a. rw (ne_eqb k n a)) (rw (eq-eqb n n refl) wv) (λ k a. rw (ne_eqb k n a));
            },
          )

      put_some : (q : ℕ) → Fit m n q → is_blank b ≡ false →
          Wp m.size (Cut m.size c s) (EndsPut m.size) (and_then (io_of (write_page (home m.size q) b)) (λ _. Io.answer (true, with_mem (moved n (suc q) w m) t))) d
      unfolding page_at
      put_some q F nb =
          wp-write_page (Safe m.size m.sel m.old s.synced s.label) (stays u c) (home m.size q) b d (λ t a e h k sf. safe-write t a (out t h k) sf) F.roomy ok.1 ok.2 u.safe _
          (λ e sf o r. stands (suc q) w e goes (λ z. absurd (omega arith)) (flag w (is_blank b) nb) sf r (λ k h i. page-ext m.size (shown d) (shown e) (m.now k) (λ p j t g1 g2. o t (sides t p g1 g2 (λ z. F.not_now k h i (rw (← z) j))))) takes)
        where
          flag : (w x : Bool) → x ≡ false → (w && not x) ≡ w
          flag true x e = ap not e
          flag false x e = refl

          takes : one (not (eqb (suc q) 0)) ≤ one (not (is_blank b))
          takes = let a = one-true (not (is_blank b)) (ap not nb) in let o = one-le (not (eqb (suc q) 0)) in omega arith

          goes : Goes m n (suc q) b
          goes =
              record {
                on-card = λ p e. let j : q ≡ p = omega arith in rw (← j) F.roomy;
                alone = λ p e. let j : q ≡ p = omega arith in rw (← j) F.not_now;
                its = λ p k e h o. absurd (F.not_old k h (o ∙ sym e));
                full = λ p e. nb;
              }

          out : (t : ℕ) → home m.size q ≤ t → t < home m.size q + 8 → Uses m.size m.sel m.old t → ⊥
          out t h k (Uses.root e) = omega arith
          out t h k (Uses.noded j o i e) = omega (arith, one-le (m.sel j))
          out t h k (Uses.paged j p i e a b) = let z : p ≡ q = omega arith in F.not_old j i (rw z at e)

          sides : (t p : ℕ) → home m.size p ≤ t → t < home m.size p + 8 → (p ≡ q → ⊥) → (t < home m.size q) ⊎ (home m.size q + 8 ≤ t)
          sides t p a b n = elim (cases_lt p q) [ inl i ↦ inl (omega arith) | inr i ↦ inr (omega arith) ]

      put-blank : is_blank b ≡ true → Wp m.size (Cut m.size c s) (EndsPut m.size) (Io.answer (true, with_mem (moved n 0 false m) t)) d
      unfolding page_at one
      put-blank i =
          stands 0 false d
          (record { on-card = λ p e. absurd (omega arith); alone = λ p e. absurd (omega arith); its = λ p k e. absurd (omega arith); full = λ p e. absurd (omega arith) })
          (λ _. refl) (flag w (is_blank b) i) u.safe (sym (same b blank_page i)) (λ k h c. refl) (omega arith)
        where
          flag : (w x : Bool) → x ≡ true → (w && not x) ≡ false
          flag true x e = ap not e
          flag false x e = refl

      -- into a place that was looked for
      put-into : (v : ℕ) → target m (m.now n) ≡ v → (v ≡ 0 → Differ m.size m (numbers m.size) s.now s.synced) → is_blank b ≡ false → Wp m.size (Cut m.size c s) (EndsPut m.size) (io_of (put_into n b w t m v)) d
      unfolding io_of
      put-into v e df nb =
          wp-cond (eqb v 0)
          (λ i.
          let a = target_none m (m.now n) (e ∙ eqb-true v 0 i) in
          let o = free-none m u.ready.counted a.0 in
          Wp.ends (stays u c d u.safe) (
            s,
            answers-put kind (PutAnswers.no_room (omega arith, nb, crowded m u n b ok.0 o a.1 nb (df (eqb-true v 0 i)))),
            record { known = known; label = label; left = omega arith; up = u },
          ))
          (λ i.
          let h : suc (v - 1) ≡ v = omega (arith, eqb-false v 0 i) in
          subst (λ k. Wp m.size (Cut m.size c s) (EndsPut m.size) (and_then (io_of (write_page (home m.size (v - 1)) b)) (λ _. Io.answer (true, with_mem (moved n k w m) t))) d) h
          (put_some (v - 1) (target-fit m u n (m.now n) (v - 1) ok.0 refl (e ∙ sym h)) nb))

  module _ (t : Stored) (d : Device) (r : Runs t.mem.size t d s) (whole : Whole d) where
    abbrev m : Mem
    m = t.mem

    put_full_lem : CanPut m.size n b → is_blank b ≡ false → Wp m.size (Cut m.size c s) (EndsPut m.size) (io_of (put_full n b w t)) d
    unfolding io_of
    put_full_lem ok nb =
        wp-cond (eqb (target m (m.now n)) 0)
        (λ e.
        wp-then _ (λ v e q.
        subst (λ e. Wp m.size (Cut m.size c s) (EndsPut m.size) (io_of (put_into n b w t v (target v (v.now n)))) e) q.same
        (subst (λ z. CanPut z n b → Wp z (Cut z c s) (EndsPut z) (io_of (put_into n b w t v (target v (v.now n)))) d) q.sized
        (λ ok. put-into t r.known r.label v d q.up q.more ok (target v (v.now n)) refl (λ _. subst (λ z. Differ v.size v (numbers z) s.now s.synced) (sym q.sized) q.differ) nb) ok))
        (reclaim-ok s.left d whole (stays r.up c d r.up.safe) s.now s.volatile s.synced s.label m r.up (omega (arith, r.left))))
        (λ e. put-into t r.known r.label m d r.up (omega (arith, r.left)) ok (target m (m.now n)) refl (λ z. absurd (eqb-false _ 0 e z)) nb)

    amiss : (t.known && (ltb n (numbers m.size) && (eqb (length b) 4096 && all_bytes b))) ≡ false → CannotPut m.size n b
    amiss e = go (and_cases t.known _ e)
      where
        bytes : (eqb (length b) 4096 ≡ false) ⊎ (all_bytes b ≡ false) → (length b ≡ 4096 → ⊥) ⊎ T (not (all_bytes b))
        bytes (inl i) = inl (eqb-false (length b) 4096 i)
        bytes (inr i) = inr (rw i tt)

        page : (ltb n (numbers m.size) ≡ false) ⊎ ((eqb (length b) 4096 && all_bytes b) ≡ false) → CannotPut m.size n b
        page (inl i) = inl (ltb-false n (numbers m.size) i)
        page (inr i) = inr (bytes (and_cases (eqb (length b) 4096) (all_bytes b) i))

        go : (t.known ≡ false) ⊎ ((ltb n (numbers m.size) && (eqb (length b) 4096 && all_bytes b)) ≡ false) → CannotPut m.size n b
        go (inl i) = absurd (both_ways t.known i r.known)
        go (inr i) = page (and_cases (ltb n (numbers m.size)) _ i)

    put_is : Wp m.size (Cut m.size c s) (EndsPut m.size) (io_of (put n b w t)) d
    unfolding io_of
    put_is =
        wp-cond (t.known && (ltb n (numbers m.size) && (eqb (length b) 4096 && all_bytes b)))
        (λ e.
        let f = and_parts t.known _ e in
        let h = and_parts (ltb n (numbers m.size)) (eqb (length b) 4096 && all_bytes b) f.1 in
        let k = and_parts (eqb (length b) 4096) (all_bytes b) h.1 in
        let ok : CanPut m.size n b = (ltb-true n (numbers m.size) h.0, eqb-true (length b) 4096 k.0, rw k.1 tt) in
        wp-cond (same_bytes b blank_page) (λ i. put-blank t r.known r.label m d r.up (omega (arith, r.left)) ok i) (λ i. put_full_lem ok i))
        (λ e. Wp.ends (stays r.up c d r.up.safe) (s, answers-put kind (PutAnswers.no_put (amiss e)), r))

-- THE OTHERS
module _ (m : Mem) where
  find-blank : (i n v : ℕ) → 0 < n → find_blank m i n ≡ v → 0 < v → (n ≤ v) × (v < n + i) × (m.now v ≡ 0)
  unfolding find_blank
  find-blank zero n v o e l = absurd (omega arith)
  find-blank (suc i) n v o e l = go (eqb (m.now n) 0) refl e (find-blank i (suc n) v (omega arith))
    where
      go : (b : Bool) → eqb (m.now n) 0 ≡ b → cond b n (find_blank m i (suc n)) ≡ v → (find_blank m i (suc n) ≡ v → 0 < v → (suc n ≤ v) × (v < suc n + i) × (m.now v ≡ 0)) → (n ≤ v) × (v < n + suc i) × (m.now v ≡ 0)
      go true a q h = (omega arith, omega arith, ap m.now (sym q) ∙ eqb-true (m.now n) 0 a)
      go false a q h = let r = h q l in (omega (arith, r.0), omega (arith, r.1), r.2)

  no-blank : (i n : ℕ) → 0 < n → find_blank m i n ≡ 0 → (k : ℕ) → n ≤ k → k < n + i → m.now k ≡ 0 → ⊥
  unfolding find_blank
  no-blank zero n o e k a b z = omega arith
  no-blank (suc i) n o e k a b z = go (eqb (m.now n) 0) refl e (no-blank i (suc n) (omega arith))
    where
      go : (b : Bool) → eqb (m.now n) 0 ≡ b → cond b n (find_blank m i (suc n)) ≡ 0 → (find_blank m i (suc n) ≡ 0 → (k : ℕ) → suc n ≤ k → k < suc n + i → m.now k ≡ 0 → ⊥) → ⊥
      go true x q h = omega arith
      go false x q h = elim (cases_eq k n) [ inl f ↦ eqb-false (m.now n) 0 x (ap m.now (sym f) ∙ z) | inr f ↦ h q k (omega arith) (omega arith) z ]

module _ (t : Stored) (d : Device) (s : State) (r : Runs t.mem.size t d s) where
  abbrev z : ℕ
  z = t.mem.size

  nothing : (c : PageCall) (a : Told c) → Answers z c s (replied c a) s → Wp z (Cut z c s) (Ends z c s) (Io.answer (a, t)) d
  nothing c a h = Wp.ends (stays r.up c d r.up.safe) (s, h, r)

  pub left-ok : Wp z (Cut z Left s) (Ends z Left s) (io_of (store_flow Left t)) d
  unfolding io_of store_flow replied
  left-ok = nothing Left _ (subst (λ n. Answers z Left s (Number n) s) (sym (rw r.known r.left)) (Answers.lefts s s.left (omega arith)))

  pub label-ok : Wp z (Cut z Label s) (Ends z Label s) (io_of (store_flow Label t)) d
  unfolding io_of store_flow replied
  label-ok = nothing Label _ (subst (λ l. Answers z Label s (Labelled l) s) (sym (rw r.known (ap Some r.label))) (Answers.labels s))

  -- there is always a blank page, not 0
  spare-there : ((k : ℕ) → 1 ≤ k → k < numbers z → t.mem.now k ≡ 0 → ⊥) → ⊥
  spare-there h =
      let a = places-few (rooms z) (numbers z) t.mem.now (λ k l. fits z t.mem.now k r.up.ready.now_sane l) (λ i k p a b. r.up.ready.now_sane.apart i k p a b) in
      let b = many (numbers z) (λ k. not (eqb (t.mem.now k) 0)) (λ k c l. ap not (ne_eqb (t.mem.now k) 0 (h k c l))) in
      let c = r.up.big in
      omega arith

  pub spare-ok : (from : ℕ) → Wp z (Cut z (Spare from) s) (Ends z (Spare from) s) (io_of (store_flow (Spare from) t)) d
  unfolding io_of store_flow replied
  spare-ok from = nothing (Spare from) _ (is (find_blank t.mem (numbers z - first) first) refl)
    where
      first : ℕ
      first = min (max 1 from) (numbers z)

      is : (near : ℕ) → find_blank t.mem (numbers z - first) first ≡ near → Answers z (Spare from) s (Number (cond (eqb near 0) (find_blank t.mem (first - 1) 1) near)) s
      is near e =
          by-eq near 0 (λ b. Answers z (Spare from) s (Number (cond b (find_blank t.mem (first - 1) 1) near)) s)
          (λ i. low (λ k a b. no-blank t.mem (numbers z - first) first (omega (arith, r.up.big)) (e ∙ i) k (omega arith) (omega arith)) (find_blank t.mem (first - 1) 1) refl)
          (λ i.
          let h = find-blank t.mem (numbers z - first) first near (omega (arith, r.up.big)) e (omega arith) in
          Answers.spares from near s (omega (arith, h.0, h.1)) (omega (arith, h.0, h.1)) (now-blank t.mem r.up near (omega (arith, h.0, h.1)) h.2))
        where
          low : ((k : ℕ) → max 1 from ≤ k → k < numbers z → t.mem.now k ≡ 0 → ⊥) → (v : ℕ) → find_blank t.mem (first - 1) 1 ≡ v → Answers z (Spare from) s (Number v) s
          low none v e =
              elim (cases_eq v 0) [
                | inl i ↦ absurd (spare-there (λ k a b. elim (cases_lt k first) [ inl c ↦ no-blank t.mem (first - 1) 1 (omega arith) (e ∙ i) k a (omega arith) | inr c ↦ none k (omega arith) b ]))
                | inr i ↦
                    let h = find-blank t.mem (first - 1) 1 v (omega arith) e (omega arith) in
                    Answers.spares from v s h.0 (omega (arith, h.1)) (now-blank t.mem r.up v (omega (arith, h.1)) h.2)
              ]

  module _ (n : ℕ) where
    get_at : (v : ℕ) → ((n < numbers z) × (t.mem.now n ≡ v)) ⊎ ((numbers z ≤ n) × (v ≡ 0)) →
        Wp z (Cut z (Get n) s) (Ends z (Get n) s) (cond (eqb v 0) (Io.answer (blank_page, t)) (and_then (io_of (read_page (home z (v - 1)))) (λ page. Io.answer (page, t)))) d
    unfolding replied
    get_at v (inl (l, e)) =
        wp-cond (eqb v 0)
        (λ i. nothing (Get n) blank_page (subst (λ p. Answers z (Get n) s (Page p) s) (now-blank t.mem r.up n l (e ∙ eqb-true v 0 i)) (Answers.gets n s l)))
        (λ i.
        let q : t.mem.now n ≡ suc (v - 1) = omega (arith, eqb-false v 0 i) in
        wp-read_page (home z (v - 1)) d (r.up.ready.now_sane.within n (v - 1) l q) (stays r.up (Get n) d r.up.safe) _
        (nothing (Get n) _ (subst (λ p. Answers z (Get n) s (Page p) s) (sym (now-page t.mem r.up n (v - 1) l q)) (Answers.gets n s l))))
    get_at v (inr (l, e)) = wp-cond (eqb v 0) (λ i. nothing (Get n) blank_page (Answers.gets_none n s l)) (λ i. absurd (eqb-false v 0 i e))

    pub get-ok : Wp z (Cut z (Get n) s) (Ends z (Get n) s) (io_of (store_flow (Get n) t)) d
    unfolding io_of store_flow
    get-ok = get_at (place_of t.mem n) (go (ltb n (numbers z)) refl)
      where
        go : (b : Bool) → ltb n (numbers z) ≡ b → ((n < numbers z) × (t.mem.now n ≡ cond b (t.mem.now n) 0)) ⊎ ((numbers z ≤ n) × (cond b (t.mem.now n) 0 ≡ 0))
        go true e = inl (ltb-true n (numbers z) e, refl)
        go false e = inr (ltb-false n (numbers z) e, refl)

    pub volatile-ok : Wp z (Cut z (Volatile n) s) (Ends z (Volatile n) s) (io_of (store_flow (Volatile n) t)) d
    unfolding io_of store_flow replied
    volatile-ok =
        wp-cond (t.known && ltb n (numbers z))
        (λ e.
        let l = ltb-true n (numbers z) (and_parts t.known _ e).1 in
        wp-cond (eqb (t.mem.now n) 0) (λ i. Wp.ends (stays u (Volatile n) d u.safe) (_, Answers.volatiles n s l, record { known = r.known; label = r.label; left = r.left; up = blank l (eqb-true (t.mem.now n) 0 i) }))
        (λ i.
        let g : Goes t.mem n (t.mem.now n) (s.now n) =
        record { on-card = λ p i. u.ready.now_sane.within n p l i; alone = λ p i k h c j. c (u.ready.now_sane.apart k n p h l j i); its = λ p k i h o. u.ready.joint n k p l h i o; full = λ p i. u.now_full n p l i } in
        Wp.ends (stays u (Volatile n) d u.safe) (
          _,
          Answers.volatiles n s l,
          record {
            known = r.known;
            label = r.label;
            left = left-stays t.mem u n (t.mem.now n) true (s.now n) l g refl ∙ r.left;
            up = up-moved t.mem u n (t.mem.now n) true (s.now n) l g (λ j. absurd (eqb-false _ 0 i j)) d s.now (set_at n (not (is_blank (s.now n))) s.volatile) u.safe (u.shows n l) (λ k h c. refl) refl (λ k c. refl)
                (rw (eq-eqb n n refl) (ap not (u.now_full n (t.mem.now n - 1) l (omega (arith, eqb-false _ 0 i))))) (λ k c. rw (ne_eqb k n c));
          },
        )))
        (λ e. nothing (Volatile n) false (Answers.no_volatile n s (elim (and_cases t.known _ e) [ inl i ↦ absurd (both_ways t.known i r.known) | inr i ↦ ltb-false n (numbers z) i ])))
      where
        u : UpIn z t.mem d s
        u = r.up

        -- what is blank stays as it is
        blank : n < numbers z → t.mem.now n ≡ 0 → Up z t.mem d s.now (set_at n (not (is_blank (s.now n))) s.volatile) s.synced s.label
        blank l e =
            let b : is_blank (s.now n) ≡ true = ap is_blank (now-blank t.mem u n l e) ∙ same_self blank_page in
            record {
              sized = refl;
              big = u.big;
              small = u.small;
              ready = u.ready;
              now_full = u.now_full;
              old_full = u.old_full;
              vols = λ k h. by-eq k n (λ v. t.mem.vol k ≡ cond v (not (is_blank (s.now n))) (s.volatile k)) (λ c. ap t.mem.vol c ∙ (u.blanks n l e ∙ sym (ap not b))) (λ c. u.vols k h);
              blanks = u.blanks;
              closed = u.closed;
              clean = u.clean;
              safe = u.safe;
              shows = u.shows;
            }

    module _ (whole : Whole d) (b : List ℕ) where
      pub put-ok : {c : PageCall} {w : Bool} → Putting c n b w → Wp z (Cut z c s) (Ends z c s) (io_of (store_flow c t)) d
      unfolding store_flow replied
      put-ok Putting.by_put = put_is s (Put n b) false n b Putting.by_put t d r whole
      put-ok Putting.by_put_volatile = put_is s (PutVolatile n b) true n b Putting.by_put_volatile t d r whole
      put-ok Putting.by_put_through = put_is s (PutThrough n b) false n b Putting.by_put_through t d r whole
