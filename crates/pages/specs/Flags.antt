-- The fields of the memory by their names.
-- Assumes nothing.
use Rattle.std.specs.Prelude.{◌≡◌, ℕ, suc, ◌-◌, Bool, true, false, not, ◌&&◌, Some, None, Option}
use Rattle.paging.specs.Memory.{Mem, at, at_place, vacant, counts, twice, with_sel, with_dirty, with_now, with_old, with_vol, with_busy, with_held}
use Rattle.pages.specs.declared.flags.Flag.{Flag}
use Rattle.pages.specs.declared.flags.Flag.TheVariants.{Volatile, Busy, Held, Dirty, Slot}
use Rattle.pages.specs.declared.flags.Version.{Version}
use Rattle.pages.specs.declared.flags.Version.TheVariants.{Now, Synced}

-- a place as a number: 0 for none, p + 1 for the physical page p
abbrev pub as_place : Option ℕ → ℕ
as_place (Some p) = suc p
as_place None = 0

-- WHERE A FLAG IS: in the first word or in the second, and which bit of it
abbrev pub flag_word : Flag → ℕ
flag_word Volatile = 0
flag_word Busy = 0
flag_word Held = 1
flag_word Dirty = 0
flag_word Slot = 1

abbrev pub flag_bit : Flag → ℕ
flag_bit Volatile = 38
flag_bit Busy = 39
flag_bit Held = 38
flag_bit Dirty = 40
flag_bit Slot = 39

abbrev pub version_word : Version → ℕ
version_word Now = 0
version_word Synced = 1

-- the flag of the physical pages that the pages have
abbrev pub owner : Version → Flag
owner Now = Busy
owner Synced = Held

-- WHAT IT MEANS in the memory
abbrev pub flag_in : Flag → Mem → ℕ → Bool
flag_in Volatile m = m.vol
flag_in Busy m = m.busy
flag_in Held m = m.held
flag_in Dirty m = m.dirty
flag_in Slot m = m.sel

abbrev pub with_flag : Flag → ℕ → Bool → Mem → Mem
with_flag Volatile i b m = with_vol (at i b m.vol) m
with_flag Busy i b m = with_busy (at i b m.busy) m.left m
with_flag Held i b m = with_held (at i b m.held) m.left m
with_flag Dirty i b m = with_dirty (at i b m.dirty) m
with_flag Slot i b m = with_sel (at i b m.sel) m

abbrev pub place_in : Version → Mem → ℕ → ℕ
place_in Now m = m.now
place_in Synced m = m.old

abbrev pub with_place : Version → ℕ → ℕ → Mem → Mem
with_place Now n v m = with_now (at n v m.now) m
with_place Synced n v m = with_old (at n v m.old) m

-- the two physical pages of a page that has two places; none of another page
abbrev pub Twice : Mem → ℕ → Option (ℕ × ℕ) → Type 0
Twice m n None = twice m n ≡ false
Twice m n (Some (a, b)) = (twice m n ≡ true) × (m.now n ≡ suc a) × (m.old n ≡ suc b)

-- THE PLACE v IS HAD, or no longer, by the pages as they are or by the synced ones; the place 0 is none. At `false` and `true` these are `freed`, `taken`, `dropped` and `kept`.
abbrev pub claimed : Version → ℕ → Bool → Mem → Mem
claimed Now v b m = with_busy (at_place v b m.busy) (counts m.left v (vacant m.busy m.held (v - 1)) (not b && not (m.held (v - 1)))) m
claimed Synced v b m = with_held (at_place v b m.held) (counts m.left v (vacant m.busy m.held (v - 1)) (not b && not (m.busy (v - 1)))) m
