-- What the file system's values are to its machine, and when it comes up.
-- Assumes nothing.
use Rattle.std.specs.Prelude.{◌≡◌, ℕ, ◌+◌, ◌*◌, Bool, true, false, cond, List, Some, None, Ok, Err, Option, Result, nat_lt}
use Rattle.std.specs.Borrow.{MutBor}
use Rattle.device.specs.Flow.{Runs}
use Rattle.device.specs.Plays.{Asked, Told, Plays}
use Rattle.paging.specs.Layout.{numbers, last_node}
use Rattle.paging.specs.Pages.{PageCall, blank_label}
use Rattle.paging.specs.Pages as pages
use Rattle.paging.specs.Store.{store_flow}
use Rattle.pages.specs.declared.store.Store.{Store}
use Rattle.pages.specs.declared.store.OpenError.{OpenError as StoreError}
use Rattle.pages.specs.declared.store.OpenError.TheVariants as store
use Rattle.pages.specs.Serving.{stored_of, words_of}
use Rattle.caching.specs.Cache.{cache_flow}
use Rattle.cache.specs.declared.cached.Cached.{Cached}
use Rattle.cache.specs.Serving.{cache_of}
use Rattle.cache.specs.Opening.{store_below, frames_of}
use Rattle.calls.specs.declared.OpenError.{OpenError}
use Rattle.calls.specs.declared.OpenError.TheVariants.{TooFewSectors, TooManySectors, TooFewPages, TooFewWords}
use Rattle.calls_on_store.specs.declared.FileSystem.{FileSystem}
use Rattle.calls_on_store.specs.Files.{FilesMem, pages_below, machine}

-- why it does not come up: the card has 8,192 to 2^40 sectors, and 29 pages of memory and two words for each page of the card are lent, besides the frames of the cache
abbrev pub open_fault : (sectors pages words : ℕ) → Option OpenError
open_fault sectors pages words =
    cond (nat_lt pages 29) (Some TooFewPages)
    (cond (nat_lt sectors 8192) (Some TooFewSectors)
    (cond (nat_lt 1099511627776 sectors) (Some TooManySectors)
    (cond (nat_lt words (2 * numbers sectors)) (Some TooFewWords) None)))

-- why the store did not come up, as the file system says it
abbrev pub raised : StoreError → OpenError
raised store.TooFewSectors = TooFewSectors
raised store.TooManySectors = TooManySectors
raised store.TooFewWords = TooFewWords

-- how many sectors coming up reads: the map's nodes, or only the root where its form is not known
abbrev pub up_reads : ℕ → Bool → ℕ
up_reads size known = cond known (last_node size + 1) 1

-- a store that is lent to a cache
abbrev pub OnStore : Type 0 → Type 0
OnStore D = Cached (MutBor (Store D))

abbrev pub device_below : {D : Type 0} → OnStore D → D
device_below c = (store_below c).device

abbrev pub pages_mem : {D : Type 0} (frames : ℕ) → OnStore D → (pages_below frames).Mem
pages_mem frames c = record { below = stored_of (store_below c); above = cache_of c }

abbrev pub kept : Option (List ℕ) → FilesMem
kept (Some label) = record { known = true; label = label }
kept None = record { known = false; label = blank_label }

abbrev pub files_of : {D : Type 0} → FileSystem D → FilesMem
files_of f = kept f.label

abbrev pub device_of : {D : Type 0} → FileSystem D → D
device_of f = device_below f.pages.now

abbrev pub mem_of : {D : Type 0} (frames : ℕ) → FileSystem D → (machine frames).Mem
mem_of frames f = record { below = pages_mem frames f.pages.now; above = files_of f }

-- what a call of the store, and one of the cache on it, does by its contract
abbrev pub StoreGoes : {D : Type 0} → (D → (c : Asked) → Told c → D → Type 0) → MutBor (Store D) → (c : PageCall) → pages.Told c → MutBor (Store D) → Type 0
StoreGoes steps s c r t = Runs steps (store_flow c (stored_of s.now)) s.now.device t.now.device (r, stored_of t.now)

abbrev pub CacheGoes : {D : Type 0} → (D → (c : Asked) → Told c → D → Type 0) → OnStore D → (c : PageCall) → pages.Told c → OnStore D → Type 0
CacheGoes steps s c r t = Runs (StoreGoes steps) (cache_flow c (cache_of s)) s.pages t.pages (r, cache_of t)

-- It comes up as the machine does, exactly where nothing is at fault, and tells how many sectors it has read.
abbrev pub ComesUp : {D : Type 0} → (D → (c : Asked) → Told c → D → Type 0) → (sectors pages : ℕ) → OnStore D → Result (FileSystem D) OpenError → Type 0
ComesUp steps sectors pages c (Ok f) =
    (open_fault sectors pages (words_of (store_below c)) ≡ None) × Plays steps ((machine (frames_of c)).opens sectors) (device_below c) (device_of f) (mem_of (frames_of c) f) × (f.reads ≡ up_reads sectors (files_of f).known)
ComesUp steps sectors pages c (Err why) = open_fault sectors pages (words_of (store_below c)) ≡ Some why
