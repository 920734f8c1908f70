-- What ties a cache to the pages below it and to those that it shows above.
-- Assumes nothing.
use Rattle.std.specs.Prelude.{◌≡◌, ℕ, ◌+◌, ◌<◌, ◌≤◌, Bool, true, false, length}
use Rattle.paging.specs.Layout.{numbers}
use Rattle.paging.specs.Judge.{State, is_blank, CanPut}
use Rattle.caching.specs.declared.Tag.TheVariants.{Clean, Marked}
use Rattle.caching.specs.Frames.{Cache, count, frame_at, tag_at, holds, marks}

-- the frame i, and no other, has page n
pub record Only (m : Cache) (i n : ℕ) : Type 0 where
  pub within : i < count m
  pub has : holds (tag_at m i) n ≡ true
  pub alone : (k : ℕ) → k < count m → holds (tag_at m k) n ≡ true → k ≡ i

-- Page n above is what a frame has, else what is below; a frame that is not marked has what is below.
pub data Shows (z : ℕ) (m : Cache) (s v : State) (n : ℕ) : Type 0 where
  away : ((i : ℕ) → i < count m → holds (tag_at m i) n ≡ false) → v.now n ≡ s.now n → v.volatile n ≡ s.volatile n → Shows z m s v n
  same : (i : ℕ) → Only m i n → n < numbers z → tag_at m i ≡ Clean n → v.now n ≡ frame_at m i → frame_at m i ≡ s.now n → v.volatile n ≡ s.volatile n → Shows z m s v n
  newer : (i : ℕ) (w : Bool) → Only m i n → tag_at m i ≡ Marked n w → CanPut z n (frame_at m i) → is_blank (frame_at m i) ≡ false → v.now n ≡ frame_at m i → v.volatile n ≡ w → Shows z m s v n

-- what a cut leaves is the same
pub record Still (s v : State) : Type 0 where
  pub synced : v.synced ≡ s.synced
  pub label : v.label ≡ s.label

-- WITH POWER. What is left above is what is left below, less the marked frames; so each of them finds room.
pub record CacheOn (z : ℕ) (m : Cache) (s v : State) : Type 0 where
  pub numbered : m.numbers ≡ numbers z
  pub tagged : count m ≤ length m.tags
  pub handed : 0 < count m → m.hand < count m
  pub shows : (n : ℕ) → Shows z m s v n
  pub still : Still s v
  pub left : v.left + marks m ≤ s.left

-- WITHOUT
pub record CacheOff (z : ℕ) (s v : State) : Type 0 where
  pub now : v.now ≡ s.now
  pub volatile : v.volatile ≡ s.volatile
  pub still : Still s v
  pub left : v.left ≤ s.left
