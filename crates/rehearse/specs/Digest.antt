-- FNV-1a with 64 bits.
-- Assumes nothing.
use Rattle.std.specs.Prelude.{ℕ, ◌*◌, ◌%◌, ◌^◌, List, fold, bit_xor}

-- the digest of no bytes
abbrev pub offset_basis : ℕ
offset_basis = 0xCBF2_9CE4_8422_2325

-- one byte more
abbrev pub stepped : ℕ → ℕ → ℕ
stepped h b = (bit_xor h b * 0x0000_0100_0000_01B3) % 2 ^ 64

-- the bytes of a list after those before, the first one first
abbrev pub digested : ℕ → List ℕ → ℕ
digested h bs = fold stepped h bs
