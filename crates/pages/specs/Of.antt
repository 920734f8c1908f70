-- What the store's values are to its machine.
-- Assumes nothing.
use Rattle.std.specs.Prelude.{◌≡◌, ℕ, ◌<◌, ◌≤◌, max, length, Some, None, Option}
use Rattle.paging.specs.Layout.{numbers, inner, last_node, rooms}
use Rattle.paging.specs.Memory.{Mem}
use Rattle.pages.specs.declared.flags.Flag.{Flag}
use Rattle.pages.specs.declared.flags.Flag.TheVariants.{Volatile, Busy, Held, Dirty, Slot}
use Rattle.pages.specs.declared.memory.Memory.{Memory}
use Rattle.pages.specs.declared.memory.Words.{Words}
use Rattle.pages.specs.Flags.{as_place}
use Rattle.pages.specs.Words.{Ram, ram, mem_of}

-- what `spare` tells: 0 where there is no page
abbrev pub page_told : Option ℕ → ℕ
page_told (Some n) = n
page_told None = 0

abbrev pub ram_of : Memory → Ram
ram_of m = ram m.words.card.sectors m.words.cells.now m.left m.next

abbrev pub seen : Memory → Mem
seen m = mem_of (ram_of m)

-- how many words are lent: they are in use, or idle until there first is a card
abbrev pub lent_to : Words → ℕ
lent_to w = max (length w.cells.now) (length w.idle.now)

-- the words, where so many are left and such a number comes next
abbrev pub view : Words → ℕ → ℕ → Mem
view w l n = mem_of (ram w.card.sectors w.cells.now l n)

-- A NUMBER OF A PAGE, a node of the map, one that is no leaf, and a place of the card
abbrev pub IsPage : Memory → ℕ → Type 0
IsPage m n = n < numbers m.words.card.sectors

abbrev pub IsNode : Memory → ℕ → Type 0
IsNode m k = k ≤ last_node m.words.card.sectors

abbrev pub IsInner : Memory → ℕ → Type 0
IsInner m k = k < inner m.words.card.sectors

abbrev pub IsPlace : Memory → Option ℕ → Type 0
IsPlace m p = as_place p ≤ rooms m.words.card.sectors

-- a flag that is set alone: no flag of a physical page, which goes with what is left
abbrev pub CanSet : Flag → Memory → ℕ → Type 0
CanSet Volatile m n = IsPage m n
CanSet Busy m p = ⊥
CanSet Held m p = ⊥
CanSet Dirty m k = (0 < m.words.card.sectors) × IsNode m k
CanSet Slot m k = (0 < m.words.card.sectors) × IsNode m k

-- code went from the words s to the words t, which are now seen as f of what they were
pub record Sets (s t : Words) (f : Mem → Mem) : Type 0 where
  pub is : (l n : ℕ) → view t l n ≡ f (view s l n)
  pub size : t.card.sectors ≡ s.card.sectors

-- code went from the memory m to the memory t, which is now seen as v
pub record Steps (m t : Memory) (v : Mem) : Type 0 where
  pub is : seen t ≡ v
  pub size : t.words.card.sectors ≡ m.words.card.sectors
