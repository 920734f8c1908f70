-- A fact of a contract is of Type 0, and a statement over all machines is of Type 1. So each is stated here of one tower, and a function is generic over the tower.
-- Assumes nothing.
use Rattle.std.specs.Prelude.{ℕ}
use Rattle.device.specs.Machine.{Machine, Judge, Keeps, Within}
use Rattle.device.specs.Layer.{Layer, KeepsAbove, over}
use Rattle.device.specs.Reads.{CallReads, OpenReads}
use Rattle.device.specs.Plays.{Store, PlaysCalls, PlaysThrough, PlaysOver, stacked, PlaysTrace}

-- any part below, any layer on it, a judge for each, and what each call of the part below costs
pub record Tower : Type 1 where
  pub C : Type 0
  pub R : Type 0
  pub C' : Type 0
  pub R' : Type 0
  pub below : Machine C R
  pub layer : Layer C R C' R'
  pub judge_below : ℕ → Judge C R
  pub judge : ℕ → Judge C' R'
  pub cost : ℕ → C → ℕ

abbrev pub Composes : Tower → Type 0
Composes t = Keeps t.judge_below t.below → KeepsAbove t.judge_below t.judge t.layer → Keeps t.judge (over t.below t.layer)

abbrev pub StaysWithin : Tower → Type 0
StaysWithin t = Within t.below → Within (over t.below t.layer)

abbrev pub ReadsSum : Tower → Type 0
ReadsSum t = Keeps t.judge_below t.below → CallReads t.judge_below t.below t.layer t.cost × OpenReads t.judge_below t.below t.layer t.cost

-- any store on a device, any layer above it, and anything that a plan may give
pub record Floors : Type 1 where
  pub store : Store
  pub C' : Type 0
  pub R' : Type 0
  pub layer : Layer store.C store.R C' R'
  pub Out : Type 0

abbrev pub PlaysDown : Floors → Type 0
PlaysDown f = PlaysCalls f.store → PlaysThrough f.store f.Out × PlaysOver f.store f.layer × PlaysCalls (stacked f.store f.layer)

abbrev pub Traces : Tower → Type 0
Traces t = PlaysTrace t.below
