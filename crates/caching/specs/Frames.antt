-- The frames of a cache of pages, and what they hold.
-- Assumes nothing.
use Rattle.std.specs.Prelude.{ℕ, zero, suc, ◌+◌, min, Bool, true, false, cond, List, [], length, take, count_by, replicate, Some, None, Option, ◌==◌, nat_lt, slice_index_or, slice_set}
use Rattle.device.specs.Plays.{if_some}
use Rattle.paging.specs.Pages.{blank_page}
use Rattle.caching.specs.declared.How.{How}
use Rattle.caching.specs.declared.How.TheVariants.{Lasting, Volatile, Through}
use Rattle.caching.specs.declared.Tag.{Tag}
use Rattle.caching.specs.declared.Tag.TheVariants.{Free, Clean, Marked}

-- whether a frame with this tag has the page n
abbrev pub holds : Tag → ℕ → Bool
holds Free n = false
holds (Clean p) n = p == n
holds (Marked p w) n = p == n

-- what is to be written below: a page, and whether it is volatile
abbrev pub waiting : Tag → Option (ℕ × Bool)
waiting Free = None
waiting (Clean p) = None
waiting (Marked p w) = Some (p, w)

abbrev pub unwritten : Tag → Bool
unwritten Free = false
unwritten (Clean p) = false
unwritten (Marked p w) = true

-- how a marked page is put below
abbrev pub how_marked : Bool → How
how_marked true = Volatile
how_marked false = Lasting

-- the tag of a page that is put into a frame, if it is kept in one
abbrev pub tag_of : How → ℕ → Option Tag
tag_of Lasting n = Some (Marked n false)
tag_of Volatile n = Some (Marked n true)
tag_of Through n = None

-- how many pages there are; the frames and their tags; and the frame that is given up next
pub record Cache : Type 0 where
  pub numbers : ℕ
  pub frames : List (List ℕ)
  pub tags : List Tag
  pub hand : ℕ

-- There are tags for 128 frames. Nothing is held at first.
abbrev pub fresh : (numbers frames : ℕ) → Cache
fresh numbers frames = record { numbers = numbers; frames = replicate frames blank_page; tags = replicate 128 Free; hand = 0 }

-- how many frames are used: no more than there are tags for
abbrev pub count : Cache → ℕ
count m = min (length m.frames) 128

abbrev pub frame_at : Cache → ℕ → List ℕ
frame_at m i = slice_index_or m.frames i []

abbrev pub tag_at : Cache → ℕ → Tag
tag_at m i = slice_index_or m.tags i Free

abbrev pub with_tag : ℕ → Tag → Cache → Cache
with_tag i t m = record m { tags = slice_set m.tags i t }

abbrev pub with_hand : ℕ → Cache → Cache
with_hand h m = record m { hand = h }

-- a page comes into a frame
abbrev pub filled : ℕ → Tag → List ℕ → Cache → Cache
filled i t b m = record m { frames = slice_set m.frames i b; tags = slice_set m.tags i t }

-- the frame that has a page, of the first so many
unfoldable pub find_tag : ℕ → List Tag → ℕ → Option ℕ
find_tag zero ts n = None
find_tag (suc i) ts n = cond (holds (slice_index_or ts i Free) n) (Some i) (find_tag i ts n)

abbrev pub find : Cache → ℕ → Option ℕ
find m n = find_tag (count m) m.tags n

-- how many are marked
abbrev pub marks : Cache → ℕ
marks m = count_by unwritten (take (count m) m.tags)

abbrev pub is_marked : Cache → ℕ → Bool
is_marked m n = if_some (find m n) (λ i. unwritten (tag_at m i)) false

-- a page is let go
abbrev pub dropped : ℕ → Cache → Cache
dropped n m = if_some (find m n) (λ i. with_tag i Free m) m

-- the frame after the one at the hand, and then the first one again
abbrev pub turned : Cache → Cache
turned m = with_hand (cond (nat_lt (m.hand + 1) (count m)) (m.hand + 1) 0) m
