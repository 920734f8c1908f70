-- Where everything is on a card of so many sectors. docs/LAYOUT.md has the same in words.
-- Assumes nothing.
use Rattle.std.specs.Prelude.{ℕ, ◌+◌, ◌-◌, ◌*◌, ◌/◌, Bool, true, false}

unfoldable pub one : Bool → ℕ
one true = 1
one false = 0

-- logical pages, of 8 sectors each
abbrev pub numbers : ℕ → ℕ
numbers size = (size + 7) / 8

-- The nodes of the map: inner ones, of 2,048 selector bits, from the root, node 0, on; then the leaves, of 64 places each.
abbrev pub leaves : ℕ → ℕ
leaves size = (size + 511) / 512

abbrev pub inner : ℕ → ℕ
inner size = 1 + leaves size / 2047

abbrev pub last_node : ℕ → ℕ
last_node size = leaves size / 2047 + leaves size

-- the bit b of the node p belongs to its child
abbrev pub child : ℕ → ℕ → ℕ
child p b = 2048 * p + 1 + b

abbrev pub parent : ℕ → ℕ
parent k = (k - 1) / 2048

-- the leaf of a page
abbrev pub leaf_of : ℕ → ℕ → ℕ
leaf_of size n = inner size + n / 64

-- the two slots of a node; the root is always in the first
abbrev pub slot : ℕ → Bool → ℕ
slot k b = 2 * k + one b

-- Physical pages lie behind the map: how many there are, and where each begins.
abbrev pub base : ℕ → ℕ
base size = 2 + 2 * last_node size

abbrev pub rooms : ℕ → ℕ
rooms size = (size - base size) / 8

abbrev pub home : ℕ → ℕ → ℕ
home size p = base size + 8 * p
