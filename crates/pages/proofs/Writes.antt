-- The marked nodes below a node, written.
-- Assumes nothing.
use Rattle.std.proofs.Common.{◌≡◌, ℕ, zero, suc, ◌+◌, ◌-◌, ◌<◌, ◌≤◌, true, false, not, ◌&&◌, leb, ◌⊎◌, List, refl, subst, inl, inr, arith}
use Rattle.device.specs.Flow.{Runs, lt, is}
use Rattle.device.specs.Plays.{Asked, Told, Write}
use Rattle.device.proofs.Loops.{Turned, turn, all-turns, taken, left}
use Rattle.paging.specs.Layout.{inner, last_node, child, slot}
use Rattle.paging.specs.Memory.{Mem}
use Rattle.paging.specs.Store.{OnDevice, holds, write_node, write_below}

-- the turn of a child
abbrev pub child_turn : ℕ → Mem → ℕ → ℕ → Unit {0} → OnDevice (Unit {0})
child_turn d m k b _ = write_node (write_below d m) m (child k b)

module _ {S : Type 0} (steps : S → (c : Asked) → Told c → S → Type 0) (m : Mem) where
  pub write-none : (d k : ℕ) (s : S) → (d ≡ 0) ⊎ (inner m.size ≤ k) → Runs steps (write_below d m k) s s tt
  unfolding write_below
  write-none zero k s o = (refl, refl)
  write-none (suc d) k s (inl e) = absurd (omega arith)
  write-none (suc d) k s (inr l) = left (lt k (inner m.size)) l (refl, refl)

  pub write-all : (d k b : ℕ) (s t : S) → Turned steps (child_turn (d - 1) m k) tt s b t tt → b ≡ 2048 → 0 < d → k < inner m.size → Runs steps (write_below d m k) s t tt
  unfolding write_below
  write-all zero k b s t p e o l = absurd (omega arith)
  write-all (suc d) k b s t p e o l = let z : suc d - 1 ≡ d = omega arith in taken (lt k (inner m.size)) l (all-turns 2048 tt (subst (λ (d : ℕ). Turned steps (child_turn d m k) tt s b t tt) z p) e refl)

  module _ (d k b : ℕ) (s t : S) (p : Turned steps (child_turn d m k) tt s b t tt) where
    pub write-child : (u v : S) (n : ℕ) (bs : List ℕ) → (leb (child k b) (last_node m.size) && m.dirty (child k b)) ≡ true → n ≡ slot (child k b) (not (m.sel (child k b))) → bs ≡ holds m (child k b) →
        steps t (Write n bs) tt u → Runs steps (write_below d m (child k b)) u v tt → Turned steps (child_turn d m k) tt s (b + 1) v tt
    write-child u v n bs y en eb w q = turn p (taken (is _) y (_, _, rw (en, eb) at w, q))

    pub write-no-child : (leb (child k b) (last_node m.size) && m.dirty (child k b)) ≡ false → Turned steps (child_turn d m k) tt s (b + 1) t tt
    write-no-child y = turn p (left (is _) y (refl, refl))
