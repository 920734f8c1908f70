-- Each call of the cache is answered as the judge allows, within its price.
-- Assumes nothing.
use Rattle.std.proofs.Common.{◌≡◌, ℕ, suc, ◌+◌, ◌-◌, ◌*◌, ◌%◌, ◌^◌, ◌<◌, ◌≤◌, Bool, true, false, cond, not, ◌&&◌, T, eqb, ltb, ◌⊎◌, List, length, Some, None, Option, sym, refl, ap, ◌∙◌, subst, subst₂, inl, inr, arith}
use Rattle.std.proofs.lemmas.Bool.{cases_eq, both_ways, false≢true, and_parts, and_cases, eqb-true, eqb-false, ltb-true, ltb-false, eq-eqb, ne_eqb}
use Rattle.device.specs.Sectors.{all_bytes}
use Rattle.device.specs.Layer.{Plan, gives, asks}
use Rattle.device.specs.Flow.{on, out}
use Rattle.device.specs.Plays.{plan_of, if_some}
use Rattle.device.specs.Priced.{CutIn}
use Rattle.paging.specs.Layout.{one, numbers, rooms}
use Rattle.paging.specs.Pages.{PageCall, Get, Put, PutVolatile, PutThrough, Volatile, Spare, Left, Label, Sync, Told, PageReply, Page, Said, Number, Synced, replied, told_in, page_in, said_in, number_in, label_in, blank_page, same_bytes}
use Rattle.paging.specs.Judge.{State, is_blank, lasting, set_at, live, used, after_put, CanPut, CannotPut, Crowded, Putting, PutAnswers, with_left, Answers, still, Down, kept, put_price, price}
use Rattle.paging.proofs.Coding.{one-le}
use Rattle.paging.proofs.Store.{not-both}
use Rattle.paging.proofs.Calls.{answers-put}
use Rattle.caching.specs.declared.How.{How}
use Rattle.caching.specs.declared.How.TheVariants as how
use Rattle.caching.specs.declared.Tag.{Tag}
use Rattle.caching.specs.declared.Tag.TheVariants.{Free, Clean, Marked}
use Rattle.caching.specs.Frames.{Cache, count, unwritten, frame_at, tag_at, with_tag, filled, holds, tag_of, find, marks, is_marked, dropped}
use Rattle.caching.specs.Cache.{can_put, stays, staying, passed, put_with, put, spare_turn, spare_after, cache_flow}
use Rattle.caching.specs.Tie.{Shows, Still, CacheOn, CacheOff}
use Rattle.caching.proofs.Logic.{volatile_as, planned, Wp, wp-more, wp-cond, wp-some, wp-then, Turned, wp-loop, wp-put}
use Rattle.caching.proofs.Frames.{find-some, find_none, one-yes, one-no, not-marked, holds-one, itself, marked-is, frame-there}
use Rattle.caching.proofs.Ties.{set_there, set_else, Agree, agree, agrees, lone-found, only-there, beside, Tagged, tagged-tag, tagged-fill, tie-tagged, tie-states, all-now, all-volatile}
use Rattle.caching.proofs.Back.{flag, Wrote, Ready, Newer, has-marked, newer, flushes, makes-room, evicts-for, frames-for}

-- A CUT leaves the same above as below
pub fell : {z : ℕ} {s u : State} (v : State) → Still s v → Down z s u → (o : State) × Down z v o × CacheOff z u o
fell {z} v e (Down.leaves s l q) = (
  still v.synced v.label l,
  Down.leaves v l (subst (λ f. rooms z ≤ l + live (numbers z) f) (sym e.synced) q),
  record { now = e.synced; volatile = refl; still = record { synced = e.synced; label = e.label }; left = omega arith },
)

-- PRICES
pub cheaper : (z : ℕ) (s v : State) → v.left ≤ s.left → put_price z s ≤ put_price z v
cheaper z s v l = elim (cases_eq v.left 0) [ inl e ↦ rw (eq-eqb v.left 0 e) (most (eqb s.left 0)) | inr e ↦ rw (ne_eqb s.left 0 (λ h. e (omega arith))) (omega arith) ]
  where
    most : (b : Bool) → cond b (2 * z + 16) 0 ≤ 2 * z + 16
    most true = omega arith
    most false = omega arith

-- WHAT IS ANSWERED BELOW
got : {z n : ℕ} {s t : State} {r : PageReply} → Answers z (Get n) s r t → n < numbers z → (t ≡ s) × (page_in r ≡ s.now n)
got (Answers.gets n s l) h = (refl, refl)
got (Answers.gets_none n s l) h = absurd (omega arith)

leftover : {z : ℕ} {s t : State} {r : PageReply} → Answers z Left s r t → (t ≡ with_left (number_in r) s) × (s.left ≤ number_in r)
leftover (Answers.lefts s l q) = (refl, q)

-- more is left below than was known
pub relax : {z : ℕ} {m : Cache} {s v : State} (l : ℕ) → CacheOn z m s v → s.left ≤ l → CacheOn z m (with_left l s) v
relax {z} {m} {s} {v} l r h = tie-states r (λ n. agrees n (record { now = refl; volatile = refl }) (agree n v) (r.shows n)) (record { synced = r.still.synced; label = r.still.label }) (let a = r.left in omega arith)

-- what is shown of a page in a frame, and of one in no marked frame
now-held : {z : ℕ} {m : Cache} {s v : State} (i n : ℕ) → i < count m → holds (tag_at m i) n ≡ true → Shows z m s v n → v.now n ≡ frame_at m i
now-held i n l h (Shows.away f a b) = absurd (both_ways _ (f i l) h)
now-held {m = m} i n l h (Shows.same j o k u a b c) = a ∙ ap (frame_at m) (sym (o.alone i l h))
now-held {m = m} i n l h (Shows.newer j w o u y nb a b) = a ∙ ap (frame_at m) (sym (o.alone i l h))

now-clean : {z : ℕ} {m : Cache} {s v : State} (n : ℕ) → ((i : ℕ) → i < count m → holds (tag_at m i) n ≡ true → unwritten (tag_at m i) ≡ false) → Shows z m s v n → v.now n ≡ s.now n
now-clean n h (Shows.away f a b) = a
now-clean n h (Shows.same i o l u a b c) = a ∙ b
now-clean n h (Shows.newer i w o u y nb a b) = absurd (both_ways _ (h i o.within o.has) (ap unwritten u))

-- a page that is not marked is in no marked frame
clean-here : {z : ℕ} {m : Cache} {s v : State} (n : ℕ) → is_marked m n ≡ false → Shows z m s v n → (i : ℕ) → i < count m → holds (tag_at m i) n ≡ true → unwritten (tag_at m i) ≡ false
clean-here {z} {m} {s} {v} n e w i l h = go (find m n) refl e
  where
    go : (o : Option ℕ) → find m n ≡ o → if_some o (λ i. unwritten (tag_at m i)) false ≡ false → unwritten (tag_at m i) ≡ false
    go (Some j) f g =
        let (k, q) = find-some (count m) m.tags n j f in
        elim (cases_eq i j) [ inl x ↦ ap (λ i. unwritten (tag_at m i)) x ∙ g | inr x ↦ absurd (both_ways _ (lone-found j n k q w i l x) h) ]
    go None f g = absurd (both_ways _ (find_none (count m) m.tags n f i l) h)

-- a frame comes to have the page n: what is shown of all others
others : {z : ℕ} {m t : Cache} {s v v' : State} (i n k : ℕ) {g : _} → Tagged i g m t → holds g n ≡ true → (holds (tag_at m i) n ≡ true) ⊎ (unwritten (tag_at m i) ≡ false) → (k ≡ n → ⊥) → Agree k v v' → Shows z m s v k → Shows z t s v' k
others {z} {m} {t} {s} {v} {v'} i n k {g} d p e x q w = beside i k d.beside (ap (λ g. holds g k) d.tag ∙ holds-one g n k p x) (old e) (agree k s) q w
  where
    old : (holds (tag_at m i) n ≡ true) ⊎ (unwritten (tag_at m i) ≡ false) → (holds (tag_at m i) k ≡ false) ⊎ (unwritten (tag_at m i) ≡ false)
    old (inl h) = inl (holds-one (tag_at m i) n k h x)
    old (inr h) = inr h

module _ (z : ℕ) (v : State) where
  abbrev pub Falls : PageCall → State → Type 0
  Falls c t = (u : State) → Down z t u → (o : State) × CutIn (kept z) c v o × CacheOff z u o

  pub falls : (c : PageCall) (t : State) → Still t v → Falls c t
  falls c t e u d = let (o, k, h) = fell v e d in (o, CutIn.lost k, h)

  abbrev pub Ended : (c : PageCall) → Told c × Cache → State → Type 0
  Ended c x t = (o : State) × Answers z c v (replied c x.0) o × CacheOn z x.1 t o

  -- GET
  module _ (n : ℕ) where
    -- a page that was read comes into a frame
    loaded : (t : Cache) (s : State) (i : ℕ) → CacheOn z t s v → n < numbers z → Ready t i n → unwritten (tag_at t i) ≡ false → ((k : ℕ) → k < count t → holds (tag_at t k) n ≡ true → ⊥) → CacheOn z (filled i (Clean n) (s.now n) t) s v
    loaded t s i r l y u h = tie-tagged i (Clean n) r d shown r.still (let a = d.marks in let b : one (unwritten (tag_at t i)) ≡ 0 = one-no u in let c : one (unwritten (Clean n)) ≡ 0 = one-no refl in let e = r.left in omega arith)
      where
        d : Tagged i (Clean n) t (filled i (Clean n) (s.now n) t)
        d = tagged-fill i (Clean n) (s.now n) t y.within r.tagged

        bytes : frame_at (filled i (Clean n) (s.now n) t) i ≡ s.now n
        bytes = frame-there i (Clean n) (s.now n) t y.within

        its : Shows z t s v n → Shows z (filled i (Clean n) (s.now n) t) s v n
        its (Shows.away f a b) = Shows.same i (only-there i n d.beside y.within (ap (λ g. holds g n) d.tag ∙ itself n) y.lone) l d.tag (a ∙ sym bytes) bytes b
        its (Shows.same j o k u a b c) = absurd (h j o.within o.has)
        its (Shows.newer j w o u k nb a b) = absurd (h j o.within o.has)

        shown : (k : ℕ) → Shows z (filled i (Clean n) (s.now n) t) s v k
        shown k =
            elim (cases_eq k n) [
              | inl x ↦ subst (λ k. Shows z (filled i (Clean n) (s.now n) t) s v k) (sym x) (its (r.shows n))
              | inr x ↦ others i n k d (itself n) y.either x (agree k v) (r.shows k)
            ]

    -- where it is in no frame
    unheld : (m : Cache) → find m n ≡ None → (k : ℕ) → k < count m → holds (tag_at m k) n ≡ true → ⊥
    unheld m e k l h = both_ways _ (find_none (count m) m.tags n e k l) h

    module _ (m : Cache) (s : State) (r : CacheOn z m s v) where
      read : (t : Cache) (s' : State) → Wrote z v (Falls (Get n)) (falls (Get n)) m s t s' → Ready t m.hand n → unwritten (tag_at t m.hand) ≡ false → n < numbers z → find m n ≡ None → Wp z (Falls (Get n)) (Ended (Get n)) 8 (asks (Get n) (λ r. gives (page_in r, filled m.hand (Clean n) (page_in r) t))) s'
      unfolding price replied
      read t s' a y u l e =
          Wp.calls 0 (falls (Get n) s' a.tied.still) (omega arith) (λ x s'' q.
          let (i, j) = got q l in
          let g : v.now n ≡ s'.now n = now-clean n (λ k h o. absurd (unheld m e k (let c = a.size in omega arith) (sym (a.pages k n) ∙ o))) (a.tied.shows n) in
          subst₂ (λ s'' b. Wp z (Falls (Get n)) (Ended (Get n)) 0 (gives (b, filled m.hand (Clean n) b t)) s'') (sym i) (sym j)
          (Wp.ends (falls (Get n) s' a.tied.still) (
            v,
            subst (λ b. Answers z (Get n) v (Page b) v) g (Answers.gets n v l),
            loaded t s' m.hand a.tied l y u (λ k h o. unheld m e k (let c = a.size in omega arith) (sym (a.pages k n) ∙ o)),
          )))

      pub get-ok : Wp z (Falls (Get n)) (Ended (Get n)) (price z v (Get n)) (planned (cache_flow (Get n) m)) s
      unfolding cache_flow plan_of replied told_in price
      get-ok =
          wp-cond z (Falls (Get n)) (ltb n m.numbers)
          (λ e.
          let l : n < numbers z = rw r.numbered at (ltb-true n m.numbers e) in
          wp-some z (Falls (Get n)) (find m n)
          (λ i f.
          let (h, k) = find-some (count m) m.tags n i f in
          Wp.ends (falls (Get n) s r.still) (v, subst (λ b. Answers z (Get n) v (Page b) v) (now-held i n h k (r.shows n)) (Answers.gets n v l), r))
          (λ f.
          wp-cond z (Falls (Get n)) (eqb (count m) 0)
          (λ c.
          Wp.calls 0 (falls (Get n) s r.still) (omega arith) (λ x t q.
          let (i, j) = got q l in
          subst₂ (λ t b. Wp z (Falls (Get n)) (Ended (Get n)) 0 (gives (b, m)) t) (sym i) (now-clean n (λ k h o. absurd (unheld m f k h o)) (r.shows n) ∙ sym j)
          (Wp.ends (falls (Get n) s r.still) (v, Answers.gets n v l, r))))
          (λ c.
          wp-then z (Falls (Get n)) 8 0 (omega arith)
          (wp-more z (Falls (Get n)) 0 (omega arith) (λ t s' (a, y, u). read t s' a y u l f)
          (evicts-for z v (Falls (Get n)) (falls (Get n)) n m s r (let a = eqb-false (count m) 0 c in omega arith) f)))))
          (λ e. Wp.ends (falls (Get n) s r.still) (v, Answers.gets_none n v (let a = ltb-false n m.numbers e in let b = r.numbered in omega arith), r))

  -- PUT, of any kind
  module _ (c : PageCall) (n : ℕ) (b : List ℕ) (w : Bool) (kind : Putting c n b w) where
    abbrev pub EndsPut : Bool × Cache → State → Type 0
    EndsPut x t = (o : State) × Answers z c v (Said x.0) o × CacheOn z x.1 t o

    -- into a frame
    placed : (t : Cache) (s : State) (i : ℕ) → CacheOn z t s v → Ready t i n → CanPut z n b → is_blank b ≡ false → marks t < s.left → EndsPut (true, filled i (Marked n w) b t) s
    placed t s i r y ok nb l = (
      after_put n b w left v,
      answers-put kind (PutAnswers.done left ok (let a = r.left in let f : one (not (is_blank b)) ≡ 1 = one-yes (ap not nb) in let e = most in omega arith)),
      tie-tagged i (Marked n w) r d shown (record { synced = r.still.synced; label = r.still.label }) (let e = most in omega arith),
    )
      where
        u : Cache
        u = filled i (Marked n w) b t

        left : ℕ
        left = s.left - marks u

        d : Tagged i (Marked n w) t u
        d = tagged-fill i (Marked n w) b t y.within r.tagged

        most : marks u ≤ marks t + 1
        most = let a = d.marks in let f : one (unwritten (Marked n w)) ≡ 1 = one-yes refl in omega arith

        bytes : frame_at u i ≡ b
        bytes = frame-there i (Marked n w) b t y.within

        its : Shows z u s (after_put n b w left v) n
        its =
            Shows.newer i w (only-there i n d.beside y.within (ap (λ g. holds g n) d.tag ∙ itself n) y.lone) d.tag (rw bytes ok) (rw bytes nb)
            (set_there n b v.now ∙ sym bytes) (set_there n (w && not (is_blank b)) v.volatile ∙ flag w (is_blank b) nb)

        shown : (k : ℕ) → Shows z u s (after_put n b w left v) k
        shown k =
            elim (cases_eq k n) [
              | inl x ↦ subst (λ k. Shows z u s (after_put n b w left v) k) (sym x) its
              | inr x ↦ others i n k d (itself n) y.either x (record { now = set_else n k b v.now x; volatile = set_else n k (w && not (is_blank b)) v.volatile x }) (r.shows k)
            ]

    -- below, past the frames
    let_go : (t : Cache) (s s' v' : State) → CacheOn z t s v → ((k : ℕ) → (k ≡ n → ⊥) → Agree k s s') → ((k : ℕ) → (k ≡ n → ⊥) → Agree k v v') → v'.now n ≡ s'.now n → v'.volatile n ≡ s'.volatile n → Still s' v' →
        (marks (dropped n t) ≤ marks t) × (v'.left + marks (dropped n t) ≤ s'.left → CacheOn z (dropped n t) s' v')
    let_go t s s' v' r p q f g e = go (find t n) refl
      where
        go : (o : Option ℕ) → find t n ≡ o → (marks (if_some o (λ i. with_tag i Free t) t) ≤ marks t) × (v'.left + marks (if_some o (λ i. with_tag i Free t) t) ≤ s'.left → CacheOn z (if_some o (λ i. with_tag i Free t) t) s' v')
        go (Some i) h =
            let (l, k) = find-some (count t) t.tags n i h in
            let d : Tagged i Free t (with_tag i Free t) = tagged-tag i Free t l r.tagged in (
              let a = d.marks in let b : one (unwritten Free) ≡ 0 = one-no refl in omega arith,
              tie-tagged i Free r d (λ j.
                  elim (cases_eq j n) [
                    | inl x ↦
                        Shows.away (λ a y. elim (cases_eq a i) [
                          | inl u ↦ ap (λ a. holds (tag_at (with_tag i Free t) a) j) u ∙ ap (λ g. holds g j) d.tag
                          | inr u ↦ ap (λ g. holds g j) (d.beside.tags a u) ∙ (ap (λ j. holds (tag_at t a) j) x ∙ lone-found i n l k (r.shows n) a y u)
                        ]) (subst (λ j. v'.now j ≡ s'.now j) (sym x) f) (subst (λ j. v'.volatile j ≡ s'.volatile j) (sym x) g)
                    | inr x ↦ beside i j d.beside (ap (λ g. holds g j) d.tag) (inl (holds-one (tag_at t i) n j k x)) (p j x) (q j x) (r.shows j)
                  ]) e,
            )
        go None h = (
          omega arith,
          tie-states r (λ j.
              elim (cases_eq j n) [
                | inl x ↦ Shows.away (λ a y. ap (λ j. holds (tag_at t a) j) x ∙ find_none (count t) t.tags n h a y) (subst (λ j. v'.now j ≡ s'.now j) (sym x) f) (subst (λ j. v'.volatile j ≡ s'.volatile j) (sym x) g)
                | inr x ↦ agrees j (p j x) (q j x) (r.shows j)
              ]) e,
        )

    done : (t : Cache) (s : State) (l : ℕ) → CacheOn z t s v → (marks t < s.left) ⊎ (marks t ≡ 0) → CanPut z n b → s.left ≤ l + one (not (is_blank b)) → EndsPut (true, dropped n t) (after_put n b w l s)
    done t s l r e ok q = (
      after_put n b w left v,
      answers-put kind (PutAnswers.done left ok (let a = r.left in let x = all.0 in let y = fits e in omega arith)),
      all.1 (let y = fits e in omega arith),
    )
      where
        left : ℕ
        left = l - marks (dropped n t)

        all : (marks (dropped n t) ≤ marks t) × (left + marks (dropped n t) ≤ l → CacheOn z (dropped n t) (after_put n b w l s) (after_put n b w left v))
        all =
            let_go t s (after_put n b w l s) (after_put n b w left v) r
            (λ k x. record { now = set_else n k b s.now x; volatile = set_else n k (w && not (is_blank b)) s.volatile x })
            (λ k x. record { now = set_else n k b v.now x; volatile = set_else n k (w && not (is_blank b)) v.volatile x })
            (set_there n b v.now ∙ sym (set_there n b s.now)) (set_there n (w && not (is_blank b)) v.volatile ∙ sym (set_there n (w && not (is_blank b)) s.volatile))
            (record { synced = r.still.synced; label = r.still.label })

        fits : (marks t < s.left) ⊎ (marks t ≡ 0) → marks (dropped n t) ≤ l
        fits (inl h) = let x = all.0 in let y = one-le (not (is_blank b)) in omega arith
        fits (inr h) = let x = all.0 in omega arith

    -- no room below: nothing is marked, so there is none above
    crowded : (t : Cache) (s : State) → CacheOn z t s v → Crowded z n b s → Crowded z n b v
    crowded t s r (l, nb, q) =
        let e : marks t ≡ 0 = let a = r.left in omega arith in (
          (let a = r.left in omega arith),
          nb,
          subst₂ (λ f g. rooms z < used (numbers z) (set_at n b f) g + one (same_bytes (g n) b)) (sym (all-now r e)) (sym r.still.synced) q,
        )

    passes : (t : Cache) (s : State) → CacheOn z t s v → (marks t < s.left) ⊎ (marks t ≡ 0) → CanPut z n b → {x : PageReply} {s' : State} → PutAnswers z n b w s x s' → Falls c s' × Wp z (Falls c) EndsPut 0 (planned (passed n (said_in x) t)) s'
    unfolding plan_of
    passes t s r e ok (PutAnswers.done l y q) =
        let f = falls c (after_put n b w l s) (record { synced = r.still.synced; label = r.still.label }) in
        (f, Wp.ends f (done t s l r e ok q))
    passes t s r e ok (PutAnswers.no_room q) = (falls c s r.still, Wp.ends (falls c s r.still) (v, answers-put kind (PutAnswers.no_room (crowded t s r q)), r))
    passes t s r e ok (PutAnswers.no_put q) = absurd (not-both z n b ok q)

    able : (m : Cache) (s : State) → CacheOn z m s v → can_put n b m ≡ true → CanPut z n b
    able m s r e =
        let f = and_parts (ltb n m.numbers) _ e in
        let h = and_parts (eqb (length b) 4096) (all_bytes b) f.1 in
        ((let a = ltb-true n m.numbers f.0 in let k = r.numbered in omega arith), eqb-true (length b) 4096 h.0, rw h.1 tt)

    amiss : (m : Cache) (s : State) → CacheOn z m s v → can_put n b m ≡ false → CannotPut z n b
    amiss m s r e = go (and_cases (ltb n m.numbers) _ e)
      where
        bytes : (eqb (length b) 4096 ≡ false) ⊎ (all_bytes b ≡ false) → (length b ≡ 4096 → ⊥) ⊎ T (not (all_bytes b))
        bytes (inl i) = inl (eqb-false (length b) 4096 i)
        bytes (inr i) = inr (rw i tt)

        go : (ltb n m.numbers ≡ false) ⊎ ((eqb (length b) 4096 && all_bytes b) ≡ false) → CannotPut z n b
        go (inl i) = inl (let a = ltb-false n m.numbers i in let k = r.numbered in omega arith)
        go (inr i) = inr (bytes (and_cases (eqb (length b) 4096) (all_bytes b) i))

    refused : (m : Cache) (s : State) {most : ℕ} → CacheOn z m s v → can_put n b m ≡ false → Wp z (Falls c) EndsPut most (gives (false, m)) s
    refused m s r e = Wp.ends (falls c s r.still) (v, answers-put kind (PutAnswers.no_put (amiss m s r e)), r)

  -- how much is left below is asked first
  module _ (c : PageCall) where
    asked : {A : Type 0} {There : A → State → Type 0} {most : ℕ} (m : Cache) (s : State) (p : ℕ → Plan PageCall PageReply A) → CacheOn z m s v → ((l : ℕ) (t : State) → t.left ≡ l → CacheOn z m t v → Wp z (Falls c) There most (p l) t) → Wp z (Falls c) There most (asks Left (λ r. p (number_in r))) s
    unfolding price
    asked {There = There} {most = most} m s p r f =
        Wp.calls most (falls c s r.still) (omega arith) (λ x t q.
        let (e, h) = leftover q in
        subst (λ t. Wp z (Falls c) There most (p (number_in x)) t) (sym e) (f (number_in x) (with_left (number_in x) s) refl (relax (number_in x) r h)))

  module _ (n : ℕ) (b : List ℕ) (m : Cache) (s : State) (r : CacheOn z m s v) where
    unfull : (x : Bool) → not x ≡ true → x ≡ false
    unfull true e = absurd (false≢true e)
    unfull false e = refl

    staying_is : (h : How) (x : Bool) (g : Tag) → cond x (tag_of h n) None ≡ Some g → (x ≡ true) × (g ≡ Marked n (volatile_as h))
    staying_is how.Lasting true g e = (refl, cc)
    staying_is how.Volatile true g e = (refl, cc)
    staying_is how.Through true g e = cc
    staying_is h false g e = cc

    put-with : (c : PageCall) (h : How) (kind : Putting c n b (volatile_as h)) → CanPut z n b → (l : ℕ) (t : State) → t.left ≡ l → CacheOn z m t v → Wp z (Falls c) (EndsPut c n b (volatile_as h) kind) (put_price z v) (planned (put_with n b h l m)) t
    unfolding plan_of
    put-with c h kind ok l t i k =
        wp-some z (Falls c) (staying n b h l m)
        (λ g e.
        let (st, gs) = staying_is h (stays b l m) g e in
        let (nb, st') = and_parts (not (same_bytes b blank_page)) _ st in
        let (some, fits) = and_parts (ltb 0 (count m)) _ st' in
        wp-then z (Falls c) 0 0 (omega arith)
        (wp-more z (Falls c) 0 (omega arith) (λ x s' (a, y).
        Wp.ends (falls c s' a.tied.still)
        (subst (λ g. EndsPut c n b (volatile_as h) kind (true, filled x.0 g b x.1) s') (sym gs)
        (placed c n b (volatile_as h) kind x.1 s' x.0 a.tied y ok (unfull (is_blank b) nb) (let f = a.room 1 (let g = ltb-true (marks m) l fits in omega arith) in omega arith))))
        (frames-for z v (Falls c) (falls c) n m t k (ltb-true 0 (count m) some))))
        (λ _.
        wp-then z (Falls c) (put_price z v) 0 (omega arith)
        (wp-more z (Falls c) 0 (omega arith) (λ u s' (a, y).
        wp-then z (Falls c) 0 (put_price z v) (omega arith)
        (wp-put z (Falls c) n b h s' (falls c s' a.tied.still) (cheaper z s' v (let f = a.tied.left in omega arith)) (λ x s'' q. passes c n b (volatile_as h) kind u s' a.tied y ok q)))
        (makes-room z v (Falls c) (falls c) l m t k i)))

    put_is : (c : PageCall) (h : How) (kind : Putting c n b (volatile_as h)) → Wp z (Falls c) (EndsPut c n b (volatile_as h) kind) (put_price z v) (planned (put n b h m)) s
    unfolding plan_of told_in
    put_is c h kind =
        wp-cond z (Falls c) (can_put n b m) (λ e. asked c m s (λ l. planned (put_with n b h l m)) r (λ l t i k. put-with c h kind (able c n b (volatile_as h) kind m s r e) l t i k)) (λ e. refused c n b (volatile_as h) kind m s r e)

    pub put-ok : Wp z (Falls (Put n b)) (Ended (Put n b)) (price z v (Put n b)) (planned (cache_flow (Put n b) m)) s
    unfolding cache_flow price replied
    put-ok = put_is (Put n b) how.Lasting Putting.by_put

    pub put-volatile-ok : Wp z (Falls (PutVolatile n b)) (Ended (PutVolatile n b)) (price z v (PutVolatile n b)) (planned (cache_flow (PutVolatile n b) m)) s
    unfolding cache_flow price replied
    put-volatile-ok = put_is (PutVolatile n b) how.Volatile Putting.by_put_volatile

    pub put-through-ok : Wp z (Falls (PutThrough n b)) (Ended (PutThrough n b)) (price z v (PutThrough n b)) (planned (cache_flow (PutThrough n b) m)) s
    unfolding cache_flow price replied
    put-through-ok = put_is (PutThrough n b) how.Through Putting.by_put_through

  -- VOLATILE
  module _ (n : ℕ) (m : Cache) (s : State) (r : CacheOn z m s v) where
    abbrev turns : State → State
    turns s = record { now = s.now; volatile = set_at n (not (is_blank (s.now n))) s.volatile; synced = s.synced; label = s.label; left = s.left }

    made : {x : PageReply} {t : State} → Answers z (Volatile n) s x t → ((i : ℕ) → i < count m → holds (tag_at m i) n ≡ true → unwritten (tag_at m i) ≡ false) → Still t v × Ended (Volatile n) (said_in x, m) t
    unfolding replied
    made (Answers.volatiles k s l) h = (record { synced = r.still.synced; label = r.still.label }, (turns v, Answers.volatiles n v l, tie-states r shown (record { synced = r.still.synced; label = r.still.label }) r.left))
      where
        flags : (turns v).volatile n ≡ (turns s).volatile n
        flags = set_there n (not (is_blank (v.now n))) v.volatile ∙ (ap (λ b. not (is_blank b)) (now-clean n h (r.shows n)) ∙ sym (set_there n (not (is_blank (s.now n))) s.volatile))

        its : Shows z m s v n → Shows z m (turns s) (turns v) n
        its (Shows.away f a b) = Shows.away f a flags
        its (Shows.same i o l u a b c) = Shows.same i o l u a b flags
        its (Shows.newer i w o u y nb a b) = absurd (both_ways _ (h i o.within o.has) (ap unwritten u))

        shown : (k : ℕ) → Shows z m (turns s) (turns v) k
        shown k =
            elim (cases_eq k n) [
              | inl x ↦ subst (λ k. Shows z m (turns s) (turns v) k) (sym x) (its (r.shows n))
              | inr x ↦ agrees k (record { now = refl; volatile = set_else n k (not (is_blank (s.now n))) s.volatile x }) (record { now = refl; volatile = set_else n k (not (is_blank (v.now n))) v.volatile x }) (r.shows k)
            ]
    made (Answers.no_volatile k s l) h = (r.still, (v, Answers.no_volatile n v l, r))

    -- in a marked frame
    turned : (i : ℕ) (w : Bool) → i < count m → tag_at m i ≡ Marked n w → CacheOn z (with_tag i (Marked n true) m) s (turns v)
    turned i w l e =
        tie-tagged i (Marked n true) r d shown (record { synced = r.still.synced; label = r.still.label })
        (let a = d.marks in let f : one (unwritten (tag_at m i)) ≡ 1 = one-yes (ap unwritten e) in let g : one (unwritten (Marked n true)) ≡ 1 = one-yes refl in let k = r.left in omega arith)
      where
        d : Tagged i (Marked n true) m (with_tag i (Marked n true) m)
        d = tagged-tag i (Marked n true) m l r.tagged

        h : holds (tag_at m i) n ≡ true
        h = has-marked (tag_at m i) n w e

        is : Newer z m v i n w
        is = newer i n w l e (r.shows n)

        its : Shows z (with_tag i (Marked n true) m) s (turns v) n
        its =
            Shows.newer i true (only-there i n d.beside l (ap (λ g. holds g n) d.tag ∙ itself n) (lone-found i n l h (r.shows n))) d.tag is.can is.full is.now
            (set_there n (not (is_blank (v.now n))) v.volatile ∙ (ap (λ b. not (is_blank b)) is.now ∙ ap not is.full))

        shown : (k : ℕ) → Shows z (with_tag i (Marked n true) m) s (turns v) k
        shown k =
            elim (cases_eq k n) [
              | inl x ↦ subst (λ k. Shows z (with_tag i (Marked n true) m) s (turns v) k) (sym x) its
              | inr x ↦ others i n k d (itself n) (inl h) x (record { now = refl; volatile = set_else n k (not (is_blank (v.now n))) v.volatile x }) (r.shows k)
            ]

    pub volatile-ok : Wp z (Falls (Volatile n)) (Ended (Volatile n)) (price z v (Volatile n)) (planned (cache_flow (Volatile n) m)) s
    unfolding cache_flow price replied plan_of told_in
    volatile-ok =
        wp-some z (Falls (Volatile n)) (find m n)
        (λ i f.
        let (l, h) = find-some (count m) m.tags n i f in
        wp-cond z (Falls (Volatile n)) (unwritten (tag_at m i))
        (λ e. let (w, t) = marked-is (tag_at m i) n e h in Wp.ends (falls (Volatile n) s r.still) (turns v, Answers.volatiles n v (newer i n w l t (r.shows n)).can.0, turned i w l t))
        (λ e. below (λ k x y. elim (cases_eq k i) [ inl u ↦ ap (λ k. unwritten (tag_at m k)) u ∙ e | inr u ↦ absurd (both_ways _ (lone-found i n l h (r.shows n) k x u) y) ])))
        (λ f. below (λ k x y. absurd (both_ways _ (find_none (count m) m.tags n f k x) y)))
      where
        below : ((i : ℕ) → i < count m → holds (tag_at m i) n ≡ true → unwritten (tag_at m i) ≡ false) → Wp z (Falls (Volatile n)) (Ended (Volatile n)) 0 (asks (Volatile n) (λ r. gives (said_in r, m))) s
        below h = Wp.calls 0 (falls (Volatile n) s r.still) (omega arith) (λ x t q. let (e, a) = made q h in Wp.ends (falls (Volatile n) t e) a)

  -- SPARE
  module _ (from : ℕ) where
    spared : {m : Cache} {s t : State} {x : PageReply} (at : ℕ) → CacheOn z m s v → Answers z (Spare at) s x t → (t ≡ s) × (is_marked m (number_in x) ≡ false → Answers z (Spare from) v (Number (number_in x)) v)
    spared {m} at r (Answers.spares f n s a b c) = (refl, λ e. Answers.spares from n v a b (now-clean n (clean-here n e (r.shows n)) (r.shows n) ∙ c))
    spared {m} at r (Answers.no_spare f s a b) =
        let e : marks m ≡ 0 = let l = r.left in omega arith in
        (refl, λ _. Answers.no_spare from v (let l = r.left in omega arith) (subst (λ f. rooms z < live (numbers z) f) (sym (all-now r e)) b))

    abbrev here : (t : State) → Still t v → Falls (Spare from) t
    here = falls (Spare from)

    pub spare-ok : (m : Cache) (s : State) → CacheOn z m s v → Wp z (Falls (Spare from)) (Ended (Spare from)) (price z v (Spare from)) (planned (cache_flow (Spare from) m)) s
    unfolding cache_flow price plan_of told_in replied
    spare-ok m s r = wp-loop z (Falls (Spare from)) (λ i at s'. CacheOn z m s' v) (Ended (Spare from)) (count m + 1) (spare_turn m) (λ _. spare_after from m) step last from s (here s r.still) r
      where
        step : (i at : ℕ) (s' : State) → i < count m + 1 → Falls (Spare from) s' → CacheOn z m s' v → Wp z (Falls (Spare from)) (Turned z (Falls (Spare from)) (λ i at s'. CacheOn z m s' v) (Ended (Spare from)) (suc i)) 0 (planned (spare_turn m i at)) s'
        step i at s' l h k =
            Wp.calls 0 h (omega arith) (λ x t q.
            let (e, f) = spared at k q in
            subst (λ t. Wp z (Falls (Spare from)) (Turned z (Falls (Spare from)) (λ i at s'. CacheOn z m s' v) (Ended (Spare from)) (suc i)) 0 (cond (is_marked m (number_in x)) (gives (on ((number_in x + 1) % 2 ^ 64))) (gives (out (number_in x, m)))) t) (sym e)
            (wp-cond z (Falls (Spare from)) (is_marked m (number_in x)) (λ g. Wp.ends h k) (λ g. Wp.ends h (v, f g, k))))

        last : (at : ℕ) (s' : State) → Falls (Spare from) s' → CacheOn z m s' v → Wp z (Falls (Spare from)) (Ended (Spare from)) 0 (planned (spare_after from m)) s'
        last at s' h k =
            wp-then z (Falls (Spare from)) 0 0 (omega arith)
            (wp-more z (Falls (Spare from)) 0 (omega arith) (λ u s'' (a, e).
            Wp.calls 0 (here s'' a.tied.still) (omega arith) (λ x t q.
            let (i, f) = spared from a.tied q in
            subst (λ t. Wp z (Falls (Spare from)) (Ended (Spare from)) 0 (gives (number_in x, u)) t) (sym i) (Wp.ends (here s'' a.tied.still) (v, f (not-marked u (number_in x) e), a.tied))))
            (flushes z v (Falls (Spare from)) here m s' k))

  -- LEFT and LABEL
  module _ (m : Cache) (s : State) (r : CacheOn z m s v) where
    pub left-ok : Wp z (Falls Left) (Ended Left) (price z v Left) (planned (cache_flow Left m)) s
    unfolding cache_flow price plan_of told_in replied
    left-ok =
        asked Left m s (λ l. gives (l - marks m, m)) r (λ l t e k.
        Wp.ends (falls Left t k.still) (
          with_left (l - marks m) v,
          Answers.lefts v (l - marks m) (let a = k.left in omega arith),
          tie-states k (λ n. agrees n (agree n t) (record { now = refl; volatile = refl }) (k.shows n)) (record { synced = k.still.synced; label = k.still.label }) (let a = k.left in omega arith),
        ))

    labelled : {x : PageReply} {t : State} → Answers z Label s x t → (t ≡ s) × (label_in x ≡ Some s.label)
    labelled (Answers.labels s) = (refl, refl)

    pub label-ok : Wp z (Falls Label) (Ended Label) (price z v Label) (planned (cache_flow Label m)) s
    unfolding cache_flow price plan_of told_in replied
    label-ok =
        Wp.calls 0 (falls Label s r.still) (omega arith) (λ x t q.
        let (e, f) = labelled q in
        subst₂ (λ t l. Wp z (Falls Label) (Ended Label) 0 (gives (l, m)) t) (sym e) (ap Some r.still.label ∙ sym f) (Wp.ends (falls Label s r.still) (v, Answers.labels v, r)))

  -- SYNC
  module _ (label : List ℕ) where
    -- with no frame marked, what is made durable is what is shown
    synced : (m : Cache) (s : State) → CacheOn z m s v → marks m ≡ 0 → {x : PageReply} {t : State} → Answers z (Sync label) s x t → Falls (Sync label) t × Ended (Sync label) (tt, m) t
    unfolding replied
    synced m s r e (Answers.syncs k _ l a b q) = (λ u d. let (f, g, h) = fell o stays.1 d in (f, CutIn.done Synced o stays.0 g, h), (o, stays.0, stays.2))
      where
        o : State
        o = record { now = v.now; volatile = v.volatile; synced = lasting v.volatile v.now; label = label; left = l }

        t : State
        t = record { now = s.now; volatile = s.volatile; synced = lasting s.volatile s.now; label = label; left = l }

        same : Still t o
        same = record { synced = λ i. lasting (all-volatile r e i) (all-now r e i); label = refl }

        stays : Answers z (Sync label) v Synced o × Still t o × CacheOn z m t o
        stays = (
          Answers.syncs label v l a b (subst (λ f. rooms z ≤ l + live (numbers z) f) (sym (all-now r e)) q),
          same,
          tie-states r (λ n. agrees n (record { now = refl; volatile = refl }) (record { now = refl; volatile = refl }) (r.shows n)) same (omega arith),
        )
    synced m s r e (Answers.no_sync k _ h) = (falls (Sync label) s r.still, (v, Answers.no_sync label v h, r))

    pub sync-ok : (m : Cache) (s : State) → CacheOn z m s v → Wp z (Falls (Sync label)) (Ended (Sync label)) (price z v (Sync label)) (planned (cache_flow (Sync label) m)) s
    unfolding cache_flow price plan_of
    sync-ok m s r =
        wp-then z (Falls (Sync label)) 0 0 (omega arith)
        (wp-more z (Falls (Sync label)) 0 (omega arith) (λ u s' (a, e). Wp.calls 0 (falls (Sync label) s' a.tied.still) (omega arith) (λ x t q. let (f, g) = synced u s' a.tied e q in Wp.ends f g))
        (flushes z v (Falls (Sync label)) (falls (Sync label)) m s r))

  pub call_ok : (c : PageCall) (m : Cache) (s : State) → CacheOn z m s v → Wp z (Falls c) (Ended c) (price z v c) (planned (cache_flow c m)) s
  call_ok (Get n) m s r = get-ok n m s r
  call_ok (Put n b) m s r = put-ok n b m s r
  call_ok (PutVolatile n b) m s r = put-volatile-ok n b m s r
  call_ok (PutThrough n b) m s r = put-through-ok n b m s r
  call_ok (Volatile n) m s r = volatile-ok n m s r
  call_ok (Spare from) m s r = spare-ok from m s r
  call_ok Left m s r = left-ok m s r
  call_ok Label m s r = label-ok m s r
  call_ok (Sync label) m s r = sync-ok label m s r
