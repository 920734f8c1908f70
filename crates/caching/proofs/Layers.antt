-- The cache as a layer.
-- Assumes nothing.
use Rattle.std.proofs.Common.{◌≡◌, ℕ, ◌<◌, ◌≤◌, min, Bool, true, false, List, ◌∷◌, length, refl, ap, subst, arith}
use lib.ListN.{length-replicate, get_or-replicate}
use Rattle.std.proofs.lemmas.Bool.{lt-ltb, ne_eqb}
use Rattle.device.specs.Machine.{Machine, Event, cut_in, Judge, Allowed}
use Rattle.device.specs.Layer.{Layer, Plan, gives, asks, Comes, CutShort, Stand, down, up, Above, KeepsAbove}
use Rattle.device.specs.Plays.{plan_of, plan_then}
use Rattle.device.specs.Priced.{CutIn, spent, PricedLayer}
use Rattle.device.proofs.Layers.{layers_compose_lem, within_over_lem}
use Rattle.device.proofs.Prices.{keeps, within, tied, priced-over}
use Rattle.paging.specs.Layout.{numbers}
use Rattle.paging.specs.Pages.{PageCall, Get, PageReply, replied, told_in, page_in, blank_page}
use Rattle.paging.specs.Judge.{State, kept, price}
use Rattle.paging.proofs.Store.{priced}
use Rattle.caching.specs.declared.Tag.TheVariants.{Free, Clean}
use Rattle.caching.specs.Frames.{Cache, count, how_marked, waiting, unwritten, fresh, frame_at, tag_at, with_tag, filled, turned, holds, marks}
use Rattle.caching.specs.Cache.{put_below, cache_layer}
use Rattle.caching.specs.Tie.{Shows, CacheOn, CacheOff}
use Rattle.caching.specs.Promise.{CacheKept, OverAny, OverStore, Hits, Misses, put_of, Stays}
use Rattle.caching.proofs.Logic.{planned, Wp, wp-then, wp-comes, wp-cut}
use Rattle.caching.proofs.Frames.{no-marked, nothing-waits}
use Rattle.caching.proofs.Calls.{fell, Falls, Ended, call_ok}

-- COMING UP: nothing is in a frame
module _ (z frames : ℕ) (s v : State) (o : CacheOff z s v) where
  abbrev m : Cache
  m = fresh (numbers z) frames

  so-many : count m ≡ min frames 128
  so-many = ap (λ n. min n 128) (length-replicate frames blank_page)

  bare : (i : ℕ) → i < count m → tag_at m i ≡ Free
  bare i l = let c = so-many in get_or-replicate 128 i Free Free (omega arith)

  rises : CacheOn z m s v
  rises =
      record {
        numbered = refl;
        tagged = let c = so-many in let a : length m.tags ≡ 128 = length-replicate 128 Free in omega arith;
        handed = λ h. h;
        shows = λ n. Shows.away (λ i l. ap (λ g. holds g n) (bare i l)) (λ j. o.now j n) (λ j. o.volatile j n);
        still = o.still;
        left = let a : marks m ≡ 0 = no-marked (count m) m.tags (λ i l. ap unwritten (bare i l)) in let b = o.left in omega arith;
      }

-- EACH CALL, with its reply
abbrev Says : Type 0
Says = record { reply : PageReply; mem : Cache }

abbrev Said' : (z : ℕ) (v : State) → PageCall → Says → State → Type 0
Said' z v c x t = (o : State) × (kept z).Answers c v x.reply o × CacheOn z x.mem t o

says : (frames z : ℕ) (v : State) (c : PageCall) (m : Cache) (s : State) → CacheOn z m s v → Wp z (Falls z v c) (Said' z v c) (price z v c) ((cache_layer frames).answers c m) s
says frames z v c m s r = wp-then z (Falls z v c) 0 (price z v c) (omega arith) (named (call_ok z v c m s r))
  where
    named : {p : _} {s : State} {most : ℕ} → Wp z (Falls z v c) (Ended z v c) most p s → Wp z (Falls z v c) (λ x t. Wp z (Falls z v c) (Said' z v c) 0 (gives (record { reply = replied c x.0; mem = x.1 })) t) most p s
    named (Wp.ends h q) = Wp.ends h (Wp.ends h q)
    named (Wp.calls rest h l f) = Wp.calls rest h l (λ r t x. named (f r t x))

ended : {z : ℕ} {A : Type 0} {a x : A} {s t : State} (w : Comes (kept z) (gives a) s x t) → (spent (price z) w ≡ 0) × (a ≡ x) × (s ≡ t)
unfolding spent
ended Comes.ends = (refl, refl, refl)

rise-cut : {z : ℕ} {A : Type 0} {a : A} {s u : State} (v : State) → CacheOff z s v → CutShort (kept z) (gives a) s u → (o : State) × (kept z).Down v o × CacheOff z u o
rise-cut v o (CutShort.at_once d) = fell v o.still d

pub cache-kept : CacheKept
cache-kept frames =
    record {
      begins = λ z. record { now = refl; volatile = refl; still = record { synced = refl; label = refl }; left = omega arith };
      rises = λ z big small s t v m o w. let (e, a, b) = ended w in (subst (λ m. CacheOn z m t v) a (subst (λ t. CacheOn z (fresh (numbers z) frames) t v) b (rises z frames s v o)), omega arith);
      rise_cut = λ z big small s u v o w. rise-cut v o w;
      does = λ z m s t v c x r w. let (q, l) = wp-comes z (Falls z v c) (says frames z v c m s r) w in (l, q);
      does_cut = λ z m s u v c r w. let (t, h, d) = wp-cut z (Falls z v c) w (says frames z v c m s r) in h u d;
      cut = λ z m s u v r d. fell v r.still d;
    }

-- OVER ANY MACHINE: a layer that is priced is right above its judge
module _ {C R C' R' : Type 0} {j : ℕ → Judge C R} {j' : ℕ → Judge C' R'} {l : Layer C R C' R'} {opening : ℕ → ℕ} {price : (size : ℕ) → (j size).State → C → ℕ} {price' : (size : ℕ) → (j' size).State → C' → ℕ}
    {Off : (size : ℕ) → (j size).State → (j' size).State → Type 0} {On : (size : ℕ) → l.Mem → (j size).State → (j' size).State → Type 0} (q : PricedLayer j j' l opening price price' Off On) (z : ℕ) (big : 8192 ≤ z) (small : z ≤ 1099511627776) where
  abbrev Stands : Stand (j z) l → (j' z).State → Type 0
  Stands (down s) v = Off z s v
  Stands (up m s) v = On z m s v

  after-cut : {es : List (Event C' R')} {c : C'} {v u : (j' z).State} → Allowed (j' z) es v → CutIn (j' z) c v u → Allowed (j' z) (cut_in c ∷ es) u
  after-cut a (CutIn.lost d) = Allowed.was_lost a d
  after-cut a (CutIn.done r t b d) = Allowed.was_done a b d

  stands : {es : List (Event C' R')} {w : Stand (j z) l} → Above (j z) l z es w → (v : (j' z).State) × Allowed (j' z) es v × Stands w v
  stands Above.first = ((j' z).start, Allowed.at_start, q.begins z)
  stands (Above.rises a w) = let (v, k, o) = stands a in (v, k, (q.rises z big small _ _ v _ o w).0)
  stands (Above.rise_cut a w) = let (v, k, o) = stands a in let (u, d, h) = q.rise_cut z big small _ _ v o w in (u, Allowed.came_opening k d, h)
  stands (Above.does c x a w) = let (v, k, o) = stands a in let (p, (u, d, h)) = q.does z _ _ _ v c x o w in (u, Allowed.answers k d, h)
  stands (Above.does_cut c a w) = let (v, k, o) = stands a in let (u, d, h) = q.does_cut z _ _ _ v c o w in (u, after-cut k d, h)
  stands (Above.cut a w) = let (v, k, o) = stands a in let (u, d, h) = q.cut z _ _ _ v o w in (u, Allowed.came_between k d, h)

pub keeps-above : (frames : ℕ) → KeepsAbove kept kept (cache_layer frames)
keeps-above frames z big small es w a = let (v, k, o) = stands (cache-kept frames) z big small a in (v, k)

pub over_any : (e : Machine PageCall PageReply) → OverAny e
over_any e frames k w = (layers_compose_lem PageCall PageReply PageCall PageReply kept kept e (cache_layer frames) k (keeps-above frames), within_over_lem PageCall PageReply PageCall PageReply e (cache_layer frames) w)

pub over-store : OverStore
over-store frames =
    let p = priced-over priced (cache-kept frames) in
    (keeps p, within p, λ z big small es m d t. let (s, a, g) = tied p z big small t in (s, a, λ c. (p.answers z m d s g c).1))

-- WHAT IS ASKED BELOW
pub hits : Hits
unfolding plan_of
hits n i m l e = rw (lt-ltb n m.numbers l, e)

pub stays-there : Stays
unfolding plan_of plan_then
stays-there n i l b true m h e = rw (h, e)
stays-there n i l b false m h e = rw (h, e)

evicted : {A : Type 0} (p : ℕ) (b : List ℕ) (w : Bool) (t : Cache) (k : Cache → Plan PageCall PageReply A) →
    plan_then (plan_then (plan_then (planned (put_below p b (how_marked w))) (λ _. gives t)) (λ x. gives (turned x))) k ≡ asks (put_of p b w) (λ _. k (turned t))
unfolding plan_of plan_then
evicted p b true t k = refl
evicted p b false t k = refl

pub misses : Misses
unfolding plan_of plan_then told_in
misses n m l e c = (
  λ u. rw (lt-ltb n m.numbers l, e, ne_eqb (count m) 0 (omega arith), nothing-waits (tag_at m m.hand) u),
  λ p w u. rw (lt-ltb n m.numbers l, e, ne_eqb (count m) 0 (omega arith), ap waiting u) (evicted p (frame_at m m.hand) w (with_tag m.hand (Clean p) m) (λ t. asks (Get n) (λ r. gives (page_in r, filled m.hand (Clean n) (page_in r) t)))),
)
