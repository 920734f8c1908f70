-- A device of sectors, and what is left of it when the power fails.
-- Assumes nothing.
use Rattle.std.specs.Prelude.{◌≡◌, ℕ, Bool, true, cond, ◌&&◌, ◌⊎◌, List, [], ◌∷◌, replicate, ◌==◌, nat_lt}
use mathlib.Core.List.{Memᴰ}

-- Sectors of 512 bytes. `kept` is what a sector held when the device last answered a sync; `since` is what was written to it since then, the latest first.
pub record Device : Type 0 where
  pub kept : ℕ → List ℕ
  pub since : ℕ → List (List ℕ)

abbrev pub blank_sector : List ℕ
blank_sector = replicate 512 0

abbrev pub blank_device : Device
blank_device = record { kept = λ s. blank_sector; since = λ s. [] }

-- what a read shows: the latest that was written, else what was kept
unfoldable pub latest : List ℕ → List (List ℕ) → List ℕ
latest old [] = old
latest old (b ∷ bs) = b

abbrev pub shown : Device → ℕ → List ℕ
shown d s = latest (d.kept s) (d.since s)

abbrev pub written : ℕ → List ℕ → Device → Device
written s b d = record { kept = d.kept; since = λ t. cond (t == s) (b ∷ d.since s) (d.since t) }

abbrev pub synced : Device → Device
synced d = record { kept = shown d; since = λ s. [] }

-- A power cut: each sector, for itself, holds what it held at the last sync, or anything that was written to it since, whole.
pub record AfterCut (d e : Device) : Type 0 where
  pub each : (s : ℕ) → (e.kept s ≡ d.kept s) ⊎ Memᴰ (e.kept s) (d.since s)
  pub nothing : (s : ℕ) → e.since s ≡ []

unfoldable pub all_bytes : List ℕ → Bool
all_bytes [] = true
all_bytes (b ∷ bs) = nat_lt b 256 && all_bytes bs
