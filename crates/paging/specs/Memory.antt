-- What the store keeps in memory, and how it changes.
-- Assumes nothing.
use Rattle.std.specs.Prelude.{ℕ, zero, suc, ◌+◌, ◌-◌, ◌*◌, min, max, Bool, true, false, cond, not, ◌&&◌, ◌||◌, List, ◌==◌, nat_le, nat_lt}
use Rattle.paging.specs.Layout.{one, numbers, inner, last_node, child, parent, leaf_of, rooms}
use Rattle.paging.specs.Sectors.{bit_at, place_at}

-- A place is 0 for a blank page, and p + 1 for the physical page p. Of a page: its place as it is (now) and as synced (old), and whether it is volatile. Of a physical page: whether the pages as they are have it (busy), and
-- whether the synced ones have it (held). Of a node of the map: which of its slots counts (sel), and whether it is to be written (dirty). left: how many physical pages are neither busy nor held. next: below it a free one is
-- looked for first.
pub record Mem : Type 0 where
  pub size : ℕ
  pub sel : ℕ → Bool
  pub dirty : ℕ → Bool
  pub now : ℕ → ℕ
  pub old : ℕ → ℕ
  pub vol : ℕ → Bool
  pub busy : ℕ → Bool
  pub held : ℕ → Bool
  pub left : ℕ
  pub next : ℕ

abbrev pub with_sel : (ℕ → Bool) → Mem → Mem
with_sel f m = record { size = m.size; sel = f; dirty = m.dirty; now = m.now; old = m.old; vol = m.vol; busy = m.busy; held = m.held; left = m.left; next = m.next }

abbrev pub with_dirty : (ℕ → Bool) → Mem → Mem
with_dirty f m = record { size = m.size; sel = m.sel; dirty = f; now = m.now; old = m.old; vol = m.vol; busy = m.busy; held = m.held; left = m.left; next = m.next }

abbrev pub with_now : (ℕ → ℕ) → Mem → Mem
with_now f m = record { size = m.size; sel = m.sel; dirty = m.dirty; now = f; old = m.old; vol = m.vol; busy = m.busy; held = m.held; left = m.left; next = m.next }

abbrev pub with_old : (ℕ → ℕ) → Mem → Mem
with_old f m = record { size = m.size; sel = m.sel; dirty = m.dirty; now = m.now; old = f; vol = m.vol; busy = m.busy; held = m.held; left = m.left; next = m.next }

abbrev pub with_vol : (ℕ → Bool) → Mem → Mem
with_vol f m = record { size = m.size; sel = m.sel; dirty = m.dirty; now = m.now; old = m.old; vol = f; busy = m.busy; held = m.held; left = m.left; next = m.next }

abbrev pub with_busy : (ℕ → Bool) → ℕ → Mem → Mem
with_busy f l m = record { size = m.size; sel = m.sel; dirty = m.dirty; now = m.now; old = m.old; vol = m.vol; busy = f; held = m.held; left = l; next = m.next }

abbrev pub with_held : (ℕ → Bool) → ℕ → Mem → Mem
with_held f l m = record { size = m.size; sel = m.sel; dirty = m.dirty; now = m.now; old = m.old; vol = m.vol; busy = m.busy; held = f; left = l; next = m.next }

abbrev pub with_next : ℕ → Mem → Mem
with_next v m = record { size = m.size; sel = m.sel; dirty = m.dirty; now = m.now; old = m.old; vol = m.vol; busy = m.busy; held = m.held; left = m.left; next = v }

-- before anything was read
abbrev pub bare : ℕ → Mem
bare size =
    record { size = size; sel = λ k. false; dirty = λ k. false; now = λ n. 0; old = λ n. 0; vol = λ n. false; busy = λ p. false; held = λ p. false; left = rooms size; next = rooms size }

-- one element is set; the one of a place
abbrev pub at : {A : Type 0} → ℕ → A → (ℕ → A) → ℕ → A
at i v f k = cond (k == i) v (f k)

abbrev pub at_place : ℕ → Bool → (ℕ → Bool) → ℕ → Bool
at_place v b f p = cond (suc p == v) b (f p)

abbrev pub vacant : (ℕ → Bool) → (ℕ → Bool) → ℕ → Bool
vacant busy held p = not (busy p) && not (held p)

-- how many are left, where the place v was, and will be, vacant
abbrev pub counts : ℕ → ℕ → Bool → Bool → ℕ
counts l v was will = cond (v == 0) l ((l + one will) - one was)

-- PLACES are given up, or taken, by the pages as they are; by those as synced.
abbrev pub freed : ℕ → Mem → Mem
freed v m = with_busy (at_place v false m.busy) (counts m.left v (vacant m.busy m.held (v - 1)) (not (m.held (v - 1)))) m

abbrev pub taken : ℕ → Mem → Mem
taken v m = with_busy (at_place v true m.busy) (counts m.left v (vacant m.busy m.held (v - 1)) false) m

abbrev pub dropped : ℕ → Mem → Mem
dropped v m = with_held (at_place v false m.held) (counts m.left v (vacant m.busy m.held (v - 1)) (not (m.busy (v - 1)))) m

abbrev pub kept : ℕ → Mem → Mem
kept v m = with_held (at_place v true m.held) (counts m.left v (vacant m.busy m.held (v - 1)) false) m

-- the page n comes to be at the place v
abbrev pub placed : ℕ → ℕ → Mem → Mem
placed n v m = with_next (cond (v == 0 || v == m.now n) m.next (v - 1)) (with_now (at n v m.now) (taken v (freed (m.now n) m)))

-- a node and all above it are to be written
unfoldable pub mark : ℕ → ℕ → (ℕ → Bool) → ℕ → Bool
mark zero k t = at k true t
mark (suc i) zero t = at 0 true t
mark (suc i) (suc k) t = mark i (parent (suc k)) (at (suc k) true t)

-- the page n comes to be at the place v, volatile or not, and its leaf is to be written
abbrev pub moved : ℕ → ℕ → Bool → Mem → Mem
moved n v w m = let t = placed n v m in with_vol (at n w t.vol) (with_dirty (mark (leaf_of t.size n) (leaf_of t.size n) t.dirty) t)

-- where a sync leaves the page n
abbrev pub durable : Mem → ℕ → ℕ
durable m n = cond (m.vol n) 0 (m.now n)

-- AFTER A SYNC: the page n is synced; the pages of a leaf; a node; all nodes that were to be written
abbrev pub settled : ℕ → Mem → Mem
settled n m = with_old (at n (durable m n) m.old) (kept (durable m n) (dropped (m.old n) m))

abbrev pub settled_at : ℕ → Mem → Mem
settled_at n m = cond (nat_lt n (numbers m.size)) (settled n m) m

-- i pages from the page n on
unfoldable pub settled_from : ℕ → ℕ → Mem → Mem
settled_from zero n m = m
settled_from (suc i) n m = settled_at (n + i) (settled_from i n m)

abbrev pub turned : ℕ → Mem → Mem
turned k m = with_dirty (at k false m.dirty) (with_sel (at k (not (m.sel k)) m.sel) m)

abbrev pub cleaned : ℕ → Mem → Mem
cleaned k m = turned k (cond (nat_lt k (inner m.size)) m (settled_from 64 (64 * (k - inner m.size)) m))

-- The nodes below the node k that are to be written, one after the other, each after those below it: where a node is not to be written, none below it is. The first number bounds the depth, the second counts the children.
abbrev pub cleaned_at : (ℕ → Mem → Mem) → ℕ → Mem → Mem
cleaned_at below c m = cond (nat_le c (last_node m.size) && m.dirty c) (cleaned c (below c m)) m

unfoldable pub cleaned_children : (ℕ → Mem → Mem) → ℕ → ℕ → Mem → Mem
cleaned_children below zero k m = m
cleaned_children below (suc b) k m = cleaned_at below (child k b) (cleaned_children below b k m)

unfoldable pub cleaned_below : ℕ → ℕ → Mem → Mem
cleaned_below zero k m = m
cleaned_below (suc d) k m = cond (nat_lt k (inner m.size)) (cleaned_children (cleaned_below d) 2048 k m) m

-- the heap is never deeper than three levels below the root
abbrev pub tidied : Mem → Mem
tidied m = let t = cleaned_below 3 0 m in with_dirty (at 0 false t.dirty) t

-- which slot of a node a sync leaves selected
unfoldable pub selected : Mem → ℕ → Bool
selected m zero = false
selected m (suc k) = cond (m.dirty (suc k)) (not (m.sel (suc k))) (m.sel (suc k))

-- LOOKING FOR a free physical page, as a place: the last one below n, 0 if there is none; below k first.
unfoldable pub find_down : ℕ → (ℕ → Bool) → ℕ
find_down zero t = 0
find_down (suc n) t = cond (t n) (suc n) (find_down n t)

abbrev pub free : Mem → ℕ
free m =
    let near = find_down (min m.next (rooms m.size)) (vacant m.busy m.held) in
    cond (m.left == 0) 0 (cond (near == 0) (find_down (rooms m.size) (vacant m.busy m.held)) near)

-- where a page at the place v is to be written: there, if only the pages as they are have that place, else at a free one; 0 if there is none
unfoldable pub target : Mem → ℕ → ℕ
target m zero = free m
target m (suc p) = cond (m.held p) (free m) (suc p)

-- a blank page, not 0: the first of i pages from n on, 0 if there is none
unfoldable pub find_blank : Mem → ℕ → ℕ → ℕ
find_blank m zero n = 0
find_blank m (suc i) n = cond (m.now n == 0) n (find_blank m i (suc n))

-- from a number on; else from 1 on
abbrev pub spare_from : Mem → ℕ → ℕ
spare_from m from =
    let first = min (max 1 from) (numbers m.size) in
    let near = find_blank m (numbers m.size - first) first in
    cond (near == 0) (find_blank m (first - 1) 1) near

-- a page that has two places
abbrev pub twice : Mem → ℕ → Bool
twice m n = not (m.now n == 0) && (not (m.old n == 0) && not (m.now n == m.old n))

-- COMING UP: the bits of a node's children; the places of a leaf's pages, none where a sector has what is no place.
abbrev pub took_bit : ℕ → List ℕ → ℕ → Mem → Mem
took_bit k bs b m = cond (nat_le (child k b) (last_node m.size)) (with_sel (at (child k b) (bit_at bs b) m.sel) m) m

unfoldable pub took_bits : ℕ → ℕ → List ℕ → Mem → Mem
took_bits zero k bs m = m
took_bits (suc b) k bs m = took_bit k bs b (took_bits b k bs m)

abbrev pub clipped : ℕ → ℕ → ℕ
clipped r v = cond (nat_le v r) v 0

abbrev pub took_place : ℕ → List ℕ → ℕ → Mem → Mem
took_place first bs j m = cond (nat_lt (first + j) (numbers m.size)) (settled (first + j) (placed (first + j) (clipped (rooms m.size) (place_at bs j)) m)) m

unfoldable pub took_places : ℕ → ℕ → List ℕ → Mem → Mem
took_places zero first bs m = m
took_places (suc j) first bs m = took_place first bs j (took_places j first bs m)

abbrev pub took : ℕ → List ℕ → Mem → Mem
took k bs m = cond (nat_lt k (inner m.size)) (took_bits 2048 k bs m) (took_places 64 (64 * (k - inner m.size)) bs m)
