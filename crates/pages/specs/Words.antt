-- The memory of the store in words of 64 bits, two for each number of a page.
-- Assumes nothing.
use Rattle.std.specs.Prelude.{◌≡◌, ◌≢◌, ℕ, suc, ◌+◌, ◌*◌, ◌/◌, ◌%◌, ◌<◌, ◌≤◌, Bool, not, T, List, length, ◌==◌, slice_index}
use Rattle.std.specs.Int.{bit_at}
use Rattle.paging.specs.Layout.{numbers, last_node, rooms}
use Rattle.paging.specs.Memory.{Mem, vacant}
use Rattle.pages.specs.Counting.{count}

-- A WORD: a place in the low 38 bits, the bits 0 to 37; then three flags, the bits 38 to 40; the rest is 0.
abbrev pub place : ℕ → ℕ
place w = w % 274877906944

abbrev pub flag : ℕ → ℕ → Bool
flag b w = bit_at w b == 1

-- w is v with the flag b set to c
pub record Flagged (v w b : ℕ) (c : Bool) : Type 0 where
  pub is : flag b w ≡ c
  pub others : (i : ℕ) → i < 64 → i ≢ b → flag i w ≡ flag i v
  pub place : place w ≡ place v
  pub short : v < 2199023255552 → w < 2199023255552

abbrev pub put_place : ℕ → ℕ → ℕ
put_place v w = v + 274877906944 * (w / 274877906944)

-- The first word of i: the place of page i as it is; whether page i is volatile, whether the pages as they are have the physical page i, whether node i is to be written.
-- The second: the place of page i as synced; whether the synced pages have the physical page i, which slot of node i counts.
pub record Ram : Type 0 where
  pub size : ℕ
  pub words : List ℕ
  pub left : ℕ
  pub next : ℕ

abbrev pub ram : ℕ → List ℕ → ℕ → ℕ → Ram
ram size words left next = record { size = size; words = words; left = left; next = next }

abbrev pub first_word : Ram → ℕ → ℕ
first_word r i = slice_index r.words (2 * i)

abbrev pub second_word : Ram → ℕ → ℕ
second_word r i = slice_index r.words (2 * i + 1)

abbrev pub mem_of : Ram → Mem
mem_of r =
    record {
      size = r.size;
      sel = λ k. flag 39 (second_word r k);
      dirty = λ k. flag 40 (first_word r k);
      now = λ n. place (first_word r n);
      old = λ n. place (second_word r n);
      vol = λ n. flag 38 (first_word r n);
      busy = λ p. flag 39 (first_word r p);
      held = λ p. flag 38 (second_word r p);
      left = r.left;
      next = r.next;
    }

-- how many sectors a card has: none while no card is there, else 8,192 to 2^40
abbrev pub IsSize : ℕ → Type 0
IsSize size = (0 < size → 8192 ≤ size) × (size ≤ 1099511627776)

-- WHAT ALWAYS HOLDS of the words, whatever the card holds: there are enough of them, none has more than 41 bits, each place is one of the card, what is left is counted, and what is no page or no node has nothing. So no step
-- leaves the words, and no count goes below 0.
abbrev pub Fits : Ram → Type 0
Fits r = (2 * numbers r.size ≤ length r.words) × ((i : ℕ) → slice_index r.words i < 2199023255552)

abbrev pub Places : Mem → Type 0
Places m = ((n : ℕ) → m.now n ≤ rooms m.size) × ((n : ℕ) → m.old n ≤ rooms m.size) × (m.left ≡ count (rooms m.size) (vacant m.busy m.held))

abbrev pub Inside : Mem → Type 0
Inside m = ((k : ℕ) → T (not (m.sel (last_node m.size + suc k)))) × ((k : ℕ) → T (not (m.dirty (last_node m.size + suc k)))) × ((k : ℕ) → m.now (numbers m.size + k) ≤ 0)
