-- What is promised of the cache.
-- Assumes nothing.
use Rattle.std.specs.Prelude.{◌≡◌, ℕ, ◌<◌, ◌≤◌, Bool, true, false, List, Some, None}
use Rattle.device.specs.Sectors.{Device}
use Rattle.device.specs.Program.{reads_of}
use Rattle.device.specs.Machine.{Machine, Event, Trace, on, Allowed, Keeps, Within}
use Rattle.device.specs.Layer.{Plan, gives, asks, over}
use Rattle.device.specs.Plays.{plan_of}
use Rattle.device.specs.Priced.{PricedLayer}
use Rattle.paging.specs.Pages.{PageCall, Get, Put, PutVolatile, PageReply, page_in, page_replies}
use Rattle.paging.specs.Store.{store}
use Rattle.paging.specs.Judge.{State, kept, price}
use Rattle.caching.specs.declared.Tag.TheVariants.{Clean, Marked}
use Rattle.caching.specs.Frames.{Cache, count, unwritten, how_marked, frame_at, tag_at, with_tag, filled, turned, find}
use Rattle.caching.specs.Cache.{OnPages, stays, put_with, get, cache_layer}
use Rattle.caching.specs.Tie.{CacheOn, CacheOff}

-- THE CACHE KEEPS TO THE JUDGE OF PAGES above whatever keeps to it, with any number of frames, at the same prices: a get reads at most 8 sectors, a put none while something is left, and nothing else reads any. A cut leaves above what it leaves below: what was marked is lost, as it may be.
abbrev pub CacheKept : Type 0
CacheKept = (frames : ℕ) → PricedLayer kept kept (cache_layer frames) (λ z. 0) price price CacheOff CacheOn

-- So over any machine,
abbrev pub OverAny : Machine PageCall PageReply → Type 0
OverAny e = (frames : ℕ) → Keeps kept e → Within e → Keeps kept (over e (cache_layer frames)) × Within (over e (cache_layer frames))

-- and over the store, no call of which then reads more than its price.
abbrev pub OverStore : Type 0
OverStore =
    (frames : ℕ) → Keeps kept (over store (cache_layer frames)) × Within (over store (cache_layer frames)) ×
    ((size : ℕ) → 8192 ≤ size → size ≤ 1099511627776 → (es : List (Event PageCall PageReply)) (m : (over store (cache_layer frames)).Mem) (d : Device) → Trace (over store (cache_layer frames)) size es (on m d) →
    (s : State) × Allowed (kept size) es s × ((c : PageCall) → reads_of ((over store (cache_layer frames)).does c m) d ≤ price size s c))

-- WHAT IS ASKED BELOW, by the plan of a call
abbrev pub asking : {A : Type 0} → OnPages A → Plan PageCall PageReply A
asking p = plan_of page_replies p

-- a get of a page that is in a frame asks for nothing
abbrev pub Hits : Type 0
Hits = (n i : ℕ) (m : Cache) → n < m.numbers → find m n ≡ Some i → asking (get n m) ≡ gives (frame_at m i, m)

-- Another page is read into the frame at the hand; nothing is put below but a page that is marked there.
abbrev pub reads : ℕ → Cache → Cache → Plan PageCall PageReply (List ℕ × Cache)
reads n m t = asks (Get n) (λ r. gives (page_in r, filled m.hand (Clean n) (page_in r) (turned t)))

abbrev pub put_of : ℕ → List ℕ → Bool → PageCall
put_of n b true = PutVolatile n b
put_of n b false = Put n b

abbrev pub Misses : Type 0
Misses =
    (n : ℕ) (m : Cache) → n < m.numbers → find m n ≡ None → 0 < count m →
    (unwritten (tag_at m m.hand) ≡ false → asking (get n m) ≡ reads n m m) ×
    ((p : ℕ) (w : Bool) → tag_at m m.hand ≡ Marked p w → asking (get n m) ≡ asks (put_of p (frame_at m m.hand) w) (λ r. reads n m (with_tag m.hand (Clean p) m)))

-- a put of a page that is in a frame, while something is left, asks for nothing but how much that is
abbrev pub Stays : Type 0
Stays = (n i l : ℕ) (b : List ℕ) (w : Bool) (m : Cache) → stays b l m ≡ true → find m n ≡ Some i → asking (put_with n b (how_marked w) l m) ≡ gives (true, filled i (Marked n w) b m)
