-- Numbers that look random and are the same for the same seed: splitmix64.
-- Assumes nothing.
use Rattle.std.specs.Prelude.{ℕ, ◌+◌, ◌*◌, ◌/◌, ◌%◌, ◌^◌, bit_xor}

abbrev pub turned : ℕ → ℕ
turned n = (n + 0x9E37_79B9_7F4A_7C15) % 2 ^ 64

abbrev pub mixed : ℕ → ℕ
mixed n =
    let a = (bit_xor n (n / 2 ^ 30) * 0xBF58_476D_1CE4_E5B9) % 2 ^ 64 in
    let b = (bit_xor a (a / 2 ^ 27) * 0x94D0_49BB_1331_11EB) % 2 ^ 64 in
    bit_xor b (b / 2 ^ 31)
