-- Writing frames back: they find room, and what is shown above stays as it is.
-- Assumes nothing.
use Rattle.std.proofs.Common.{◌≡◌, ℕ, suc, ◌+◌, ◌<◌, ◌≤◌, Bool, true, false, cond, not, ◌&&◌, ltb, leb, ◌⊎◌, List, None, sym, refl, ap, ◌∙◌, subst, inl, inr, arith}
use Rattle.std.proofs.lemmas.Bool.{cases_eq, both_ways, leb-false, ltb-true, ne_eqb}
use Rattle.device.specs.Plays.{plan_of}
use Rattle.paging.specs.Layout.{one}
use Rattle.paging.specs.Pages.{PageReply, Said}
use Rattle.paging.specs.Judge.{State, is_blank, after_put, CanPut, PutAnswers, put_price}
use Rattle.paging.proofs.Coding.{one-le}
use Rattle.paging.proofs.Store.{not-both}
use Rattle.caching.specs.declared.Tag.{Tag}
use Rattle.caching.specs.declared.Tag.TheVariants.{Clean, Marked}
use Rattle.caching.specs.Frames.{Cache, count, waiting, unwritten, how_marked, frame_at, tag_at, with_tag, turned, holds, find, marks}
use Rattle.caching.specs.Cache.{write_back, flush, evict, frame_for, make_room}
use Rattle.caching.specs.Tie.{Only, Shows, Still, CacheOn}
use Rattle.caching.proofs.Logic.{volatile_as, planned, Wp, wp-more, wp-cond, wp-some, wp-then, wp-turns, wp-put}
use Rattle.caching.proofs.Frames.{find-some, find_none, one-yes, one-no, some-marked, no-marked, holds-one, itself, waits, waits-not}
use Rattle.caching.proofs.Ties.{set_there, set_else, agree, Lone, lone-found, only-there, beside, Tagged, tagged-tag, tie-tagged}

as_marked : (w : Bool) → volatile_as (how_marked w) ≡ w
as_marked true = refl
as_marked false = refl

pub flag : (w x : Bool) → x ≡ false → (w && not x) ≡ w
flag true x h = ap not h
flag false x h = refl

-- while something is left, a put below is done and reads nothing
pub some_left : (z : ℕ) (s : State) → 0 < s.left → put_price z s ≡ 0
some_left z s l = rw (ne_eqb s.left 0 (omega arith))

pub surely : {z n : ℕ} {b : List ℕ} {w : Bool} {s t : State} {r : PageReply} → PutAnswers z n b w s r t → CanPut z n b → 0 < s.left → (l : ℕ) × (t ≡ after_put n b w l s) × (s.left ≤ l + 1) × (r ≡ Said true)
surely {b = b} (PutAnswers.done l y q) ok h = (l, refl, let a = one-le (not (is_blank b)) in omega arith, refl)
surely (PutAnswers.no_room q) ok h = absurd (omega (arith, q.0))
surely (PutAnswers.no_put q) ok h = absurd (not-both _ _ _ ok q)

-- what a marked frame has
pub record Newer (z : ℕ) (m : Cache) (v : State) (i n : ℕ) (w : Bool) : Type 0 where
  pub only : Only m i n
  pub can : CanPut z n (frame_at m i)
  pub full : is_blank (frame_at m i) ≡ false
  pub now : v.now n ≡ frame_at m i
  pub volatile : v.volatile n ≡ w

pub has-marked : (t : Tag) (n : ℕ) (w : Bool) → t ≡ Marked n w → holds t n ≡ true
has-marked t n w e = ap (λ g. holds g n) e ∙ itself n

pub newer : {z : ℕ} {m : Cache} {s v : State} (i n : ℕ) (w : Bool) → i < count m → tag_at m i ≡ Marked n w → Shows z m s v n → Newer z m v i n w
newer {m = m} i n w l e (Shows.away f a b) = absurd (both_ways _ (f i l) (has-marked (tag_at m i) n w e))
newer {m = m} i n w l e (Shows.same j o k u a b c) = absurd (both_ways _ (ap unwritten u) (ap (λ k. unwritten (tag_at m k)) (sym (o.alone i l (has-marked (tag_at m i) n w e))) ∙ ap unwritten e))
newer {z} {m} {s} {v} i n w l e (Shows.newer j x o u y nb a b) =
    let d : i ≡ j = o.alone i l (has-marked (tag_at m i) n w e) in
    let f : x ≡ w = let g : Marked n x ≡ Marked n w = sym u ∙ (ap (tag_at m) (sym d) ∙ e) in cc in
    subst (λ k. Newer z m v k n w) (sym d) (record { only = o; can = y; full = nb; now = a; volatile = b ∙ f })

-- A frame for a page: it has that page and no other frame has it, or it is not marked.
pub record Ready (t : Cache) (i n : ℕ) : Type 0 where
  pub within : i < count t
  pub lone : Lone t i n
  pub either : (holds (tag_at t i) n ≡ true) ⊎ (unwritten (tag_at t i) ≡ false)

module _ (z : ℕ) (v : State) (Here : State → Type 0) (here : (t : State) → Still t v → Here t) where
  -- frames were written back: the same pages are in the same frames, fewer are marked, and what was left for others still is
  pub record Wrote (m : Cache) (s : State) (t : Cache) (s' : State) : Type 0 where
    pub tied : CacheOn z t s' v
    pub size : count t ≡ count m
    pub pages : (k n : ℕ) → holds (tag_at t k) n ≡ holds (tag_at m k) n
    pub fewer : (k : ℕ) → unwritten (tag_at m k) ≡ false → unwritten (tag_at t k) ≡ false
    pub room : (x : ℕ) → x + marks m ≤ s.left → x + marks t ≤ s'.left

  pub wrote_none : {m : Cache} {s : State} → CacheOn z m s v → Wrote m s m s
  wrote_none r = record { tied = r; size = refl; pages = λ k n. refl; fewer = λ k e. e; room = λ x l. l }

  wrote_then : {m t u : Cache} {s s' s'' : State} → Wrote m s t s' → Wrote t s' u s'' → Wrote m s u s''
  wrote_then a b = record { tied = b.tied; size = b.size ∙ a.size; pages = λ k n. b.pages k n ∙ a.pages k n; fewer = λ k e. b.fewer k (a.fewer k e); room = λ x l. b.room x (a.room x l) }

  module _ (m : Cache) (s : State) (r : CacheOn z m s v) where
    -- a marked frame that was put below
    module _ (i p : ℕ) (w : Bool) (l : i < count m) (e : tag_at m i ≡ Marked p w) where
      abbrev b : List ℕ
      b = frame_at m i

      own : holds (tag_at m i) p ≡ true
      own = has-marked (tag_at m i) p w e

      is : Newer z m v i p w
      is = newer i p w l e (r.shows p)

      pub some : 0 < s.left
      some = let a = some-marked (count m) m.tags i l (ap unwritten e) in let c = r.left in omega arith

      back : (k : ℕ) → s.left ≤ k + 1 → Wrote m s (with_tag i (Clean p) m) (after_put p b w k s) × (unwritten (tag_at (with_tag i (Clean p) m) i) ≡ false)
      back k q = (record { tied = tie-tagged i (Clean p) r d shown (record { synced = r.still.synced; label = r.still.label }) (room v.left r.left); size = refl; pages = pages; fewer = fewer; room = room }, ap unwritten d.tag)
        where
          d : Tagged i (Clean p) m (with_tag i (Clean p) m)
          d = tagged-tag i (Clean p) m l r.tagged

          room : (x : ℕ) → x + marks m ≤ s.left → x + marks (with_tag i (Clean p) m) ≤ k
          room x h =
              let a = d.marks in
              let c : one (unwritten (tag_at m i)) ≡ 1 = one-yes (ap unwritten e) in
              let f : one (unwritten (Clean p)) ≡ 0 = one-no refl in
              omega arith

          pages : (k n : ℕ) → holds (tag_at (with_tag i (Clean p) m) k) n ≡ holds (tag_at m k) n
          pages k n =
              elim (cases_eq k i) [
                | inl x ↦ ap (λ k. holds (tag_at (with_tag i (Clean p) m) k) n) x ∙ (ap (λ g. holds g n) d.tag ∙ (ap (λ g. holds g n) (sym e) ∙ ap (λ k. holds (tag_at m k) n) (sym x)))
                | inr x ↦ ap (λ g. holds g n) (d.beside.tags k x)
              ]

          fewer : (k : ℕ) → unwritten (tag_at m k) ≡ false → unwritten (tag_at (with_tag i (Clean p) m) k) ≡ false
          fewer k h =
              elim (cases_eq k i) [
                | inl x ↦ ap (λ k. unwritten (tag_at (with_tag i (Clean p) m) k)) x ∙ ap unwritten d.tag
                | inr x ↦ ap unwritten (d.beside.tags k x) ∙ h
              ]

          its : Shows z (with_tag i (Clean p) m) (after_put p b w k s) v p
          its =
              Shows.same i (only-there i p d.beside l (pages i p ∙ own) (lone-found i p l own (r.shows p))) is.can.0 d.tag is.now (sym (set_there p b s.now))
              (is.volatile ∙ (sym (flag w (is_blank b) is.full) ∙ sym (set_there p (w && not (is_blank b)) s.volatile)))

          shown : (n : ℕ) → Shows z (with_tag i (Clean p) m) (after_put p b w k s) v n
          shown n =
              elim (cases_eq n p) [
                | inl x ↦ subst (λ n. Shows z (with_tag i (Clean p) m) (after_put p b w k s) v n) (sym x) its
                | inr x ↦
                    beside i n d.beside (pages i n ∙ holds-one (tag_at m i) p n own x) (inl (holds-one (tag_at m i) p n own x))
                    (record { now = set_else p n b s.now x; volatile = set_else p n (w && not (is_blank b)) s.volatile x }) (agree n v) (r.shows n)
              ]

    pub write-back : (i : ℕ) → i < count m → Wp z Here (λ t s'. Wrote m s t s' × (unwritten (tag_at t i) ≡ false)) 0 (planned (write_back i m)) s
    unfolding plan_of
    write-back i l =
        wp-some z Here (waiting (tag_at m i))
        (λ x h.
        let e : tag_at m i ≡ Marked x.0 x.1 = waits (tag_at m i) x h in
        wp-then z Here 0 0 (omega arith)
        (wp-put z Here x.0 (frame_at m i) (how_marked x.1) s (here s r.still) (let a = some_left z s (some i x.0 x.1 l e) in omega arith)
        (λ r' t a.
        let (k, j, h, y) = surely (subst (λ w. PutAnswers z x.0 (frame_at m i) w s r' t) (as_marked x.1) a) (is i x.0 x.1 l e).can (some i x.0 x.1 l e) in
        let f : Still t v = subst (λ t. Still t v) (sym j) (record { synced = r.still.synced; label = r.still.label }) in
        (here t f, Wp.ends (here t f) (subst (λ t. Wrote m s (with_tag i (Clean x.0) m) t × (unwritten (tag_at (with_tag i (Clean x.0) m) i) ≡ false)) (sym j) (back i x.0 x.1 l e k h))))))
        (λ h. Wp.ends (here s r.still) (wrote_none r, waits-not (tag_at m i) h))

  -- all of them
  pub flushes : (m : Cache) (s : State) → CacheOn z m s v → Wp z Here (λ t s'. Wrote m s t s' × (marks t ≡ 0)) 0 (planned (flush m)) s
  flushes m s r =
      wp-more z Here 0 (omega arith) (λ t s' (a, h). (a, no-marked (count t) t.tags (λ k l. h k (let c = a.size in omega arith))))
      (wp-turns z Here J (count m) write_back step m s (here s r.still) (wrote_none r, λ k l. absurd (omega arith)))
    where
      J : ℕ → Cache → State → Type 0
      J i t s' = Wrote m s t s' × ((k : ℕ) → k < i → unwritten (tag_at t k) ≡ false)

      step : (i : ℕ) (t : Cache) (s' : State) → i < count m → Here s' → J i t s' → Wp z Here (J (suc i)) 0 (planned (write_back i t)) s'
      step i t s' l h (a, f) =
          wp-more z Here 0 (omega arith) (λ u x (b, e). (wrote_then a b, λ k y. elim (cases_eq k i) [ inl j ↦ ap (λ k. unwritten (tag_at u k)) j ∙ e | inr j ↦ b.fewer k (f k (omega arith)) ]))
          (write-back t s' a.tied i (let c = a.size in omega arith))

  -- where nothing is left for more than the marked frames, all of them
  pub makes-room : (l : ℕ) (m : Cache) (s : State) → CacheOn z m s v → s.left ≡ l → Wp z Here (λ t s'. Wrote m s t s' × ((marks t < s'.left) ⊎ (marks t ≡ 0))) 0 (planned (make_room l m)) s
  unfolding plan_of
  makes-room l m s r e =
      wp-cond z Here (leb l (marks m)) (λ h. wp-more z Here 0 (omega arith) (λ t s' (a, f). (a, inr f)) (flushes m s r))
      (λ h. Wp.ends (here s r.still) (wrote_none r, inl (let a = leb-false l (marks m) h in omega arith)))

  -- the frame at the hand
  next : (m : Cache) (s : State) → CacheOn z m s v → CacheOn z (turned m) s v
  next m s r =
      record {
        numbered = r.numbered;
        tagged = r.tagged;
        handed = λ h. hand (ltb (m.hand + 1) (count m)) refl h;
        shows = λ n. shown n (r.shows n);
        still = r.still;
        left = r.left;
      }
    where
      hand : (b : Bool) → ltb (m.hand + 1) (count m) ≡ b → 0 < count m → cond b (m.hand + 1) 0 < count m
      hand true e h = ltb-true (m.hand + 1) (count m) e
      hand false e h = h

      only : (i n : ℕ) → Only m i n → Only (turned m) i n
      only i n o = record { within = o.within; has = o.has; alone = o.alone }

      shown : (n : ℕ) → Shows z m s v n → Shows z (turned m) s v n
      shown n (Shows.away f a b) = Shows.away f a b
      shown n (Shows.same i o l u a b c) = Shows.same i (only i n o) l u a b c
      shown n (Shows.newer i w o u y nb a b) = Shows.newer i w (only i n o) u y nb a b

  pub evicts : (m : Cache) (s : State) → CacheOn z m s v → 0 < count m → Wp z Here (λ t s'. Wrote m s t s' × (unwritten (tag_at t m.hand) ≡ false)) 0 (planned (evict m)) s
  unfolding plan_of
  evicts m s r l =
      wp-then z Here 0 0 (omega arith)
      (wp-more z Here 0 (omega arith) (λ t s' (a, e). Wp.ends (here s' a.tied.still) (record { tied = next t s' a.tied; size = a.size; pages = a.pages; fewer = a.fewer; room = a.room }, e)) (write-back m s r m.hand (r.handed l)))

  pub evicts-for : (n : ℕ) (m : Cache) (s : State) → CacheOn z m s v → 0 < count m → find m n ≡ None → Wp z Here (λ t s'. Wrote m s t s' × Ready t m.hand n × (unwritten (tag_at t m.hand) ≡ false)) 0 (planned (evict m)) s
  evicts-for n m s r l e =
      wp-more z Here 0 (omega arith) (λ t s' (a, u). (a, record { within = let c = a.size in let h = r.handed l in omega arith; lone = λ k h x. a.pages k n ∙ find_none (count m) m.tags n e k (let c = a.size in omega arith); either = inr u }, u))
      (evicts m s r l)

  pub frames-for : (n : ℕ) (m : Cache) (s : State) → CacheOn z m s v → 0 < count m → Wp z Here (λ x s'. Wrote m s x.1 s' × Ready x.1 x.0 n) 0 (planned (frame_for n m)) s
  unfolding plan_of
  frames-for n m s r l =
      wp-some z Here (find m n)
      (λ i e.
      let (h, k) = find-some (count m) m.tags n i e in
      Wp.ends (here s r.still) (wrote_none r, record { within = h; lone = lone-found i n h k (r.shows n); either = inl k }))
      (λ e. wp-then z Here 0 0 (omega arith) (wp-more z Here 0 (omega arith) (λ t s' (a, b, u). Wp.ends (here s' a.tied.still) (a, b)) (evicts-for n m s r l e)))
