-- How the cache comes up on a store.
-- Assumes nothing.
use Rattle.std.specs.Prelude.{◌≡◌, ℕ, length, Ok, Err, Result}
use Rattle.std.specs.Borrow.{MutBor}
use Rattle.device.specs.Plays.{Asked, Told}
use Rattle.paging.specs.Layout.{numbers}
use Rattle.pages.specs.declared.store.Store.{Store}
use Rattle.pages.specs.declared.store.OpenError.{OpenError}
use Rattle.pages.specs.Serving as store
use Rattle.caching.specs.Frames.{fresh}
use Rattle.cache.specs.declared.cached.Cached.{Cached}
use Rattle.cache.specs.Serving.{cache_of}

abbrev pub store_below : {D : Type 0} → Cached (MutBor (Store D)) → Store D
store_below c = c.pages.now

-- how many frames are lent
abbrev pub frames_of : {P : Type 0} → Cached P → ℕ
frames_of c = length c.frames.bytes.now

-- The store comes up, and nothing is in a frame then.
abbrev pub ComesUp : {D : Type 0} → (D → (c : Asked) → Told c → D → Type 0) → ℕ → Cached (MutBor (Store D)) → Cached (MutBor (Store D)) → Result ℕ OpenError → Type 0
ComesUp steps sectors s t (Ok reads) = store.ComesUp steps sectors (store_below s) (store_below t) (Ok reads) × (cache_of t ≡ fresh (numbers sectors) (frames_of s))
ComesUp steps sectors s t (Err why) = store.ComesUp steps sectors (store_below s) (store_below t) (Err why)
