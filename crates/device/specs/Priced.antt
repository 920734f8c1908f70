-- Prices: a machine with a judge, what ties the two, and how many sectors each call reads at most, which the judge's state may say; and that the prices of a layer's calls add up.
-- Assumes nothing.
use Rattle.std.specs.Prelude.{ℕ, ◌+◌, ◌≤◌}
use Rattle.device.specs.Sectors.{Device, blank_device, AfterCut}
use Rattle.device.specs.Program.{run, Upto, Fair, reads_of}
use Rattle.device.specs.Machine.{Machine, Judge, Keeps, Within}
use Rattle.device.specs.Layer.{Plan, Layer, over, Comes, CutShort}

-- what a cut in the midst of a call may leave: the call never was, or was done
pub data CutIn {C R : Type 0} (j : Judge C R) (c : C) (s u : j.State) : Type 0 where
  lost : j.Down s u → CutIn j c s u
  done : (r : R) (t : j.State) → j.Answers c s r t → j.Down t u → CutIn j c s u

-- opening: what coming up reads at most; price: what a call does, in a state. Off ties a device without power to a state, On the memory and the device.
pub record Priced {C R : Type 0} (j : ℕ → Judge C R) (e : Machine C R) (opening : ℕ → ℕ) (price : (size : ℕ) → (j size).State → C → ℕ) (Off : (size : ℕ) → Device → (j size).State → Type 0) (On : (size : ℕ) → e.Mem → Device → (j size).State → Type 0) : Type 0 where
  pub begins : (size : ℕ) → Off size blank_device (j size).start
  pub comes_up : (size : ℕ) → 8192 ≤ size → size ≤ 1099511627776 → (d : Device) (s : (j size).State) → Off size d s →
      Fair size (e.opens size) d × On size (run (e.opens size) d).value (run (e.opens size) d).device s × (reads_of (e.opens size) d ≤ opening size)
  pub up_cut : (size : ℕ) → 8192 ≤ size → size ≤ 1099511627776 → (d f g : Device) (s : (j size).State) → Off size d s → Upto (e.opens size) d f → AfterCut f g → (u : (j size).State) × (j size).Down s u × Off size g u
  pub answers : (size : ℕ) (m : e.Mem) (d : Device) (s : (j size).State) → On size m d s → (c : C) →
      Fair size (e.does c m) d × (reads_of (e.does c m) d ≤ price size s c) × ((t : (j size).State) × (j size).Answers c s (run (e.does c m) d).value.reply t × On size (run (e.does c m) d).value.mem (run (e.does c m) d).device t)
  pub call_cut : (size : ℕ) (m : e.Mem) (d f g : Device) (s : (j size).State) → On size m d s → (c : C) → Upto (e.does c m) d f → AfterCut f g → (u : (j size).State) × CutIn (j size) c s u × Off size g u
  pub cut : (size : ℕ) (m : e.Mem) (d g : Device) (s : (j size).State) → On size m d s → AfterCut d g → (u : (j size).State) × (j size).Down s u × Off size g u

-- what the calls of a plan cost, on one way that a judge allows
unfoldable pub spent : {C R A : Type 0} {j : Judge C R} (price : j.State → C → ℕ) {p : Plan C R A} {s t : j.State} {a : A} → Comes j p s a t → ℕ
spent price Comes.ends = 0
spent price (Comes.goes_on {c = c} {s = s} x w) = price s c + spent price w

-- A layer between two judges, with what ties their states, and what each of its calls costs below. Nothing here is of a machine or a device.
pub record PricedLayer {C R C' R' : Type 0} (j : ℕ → Judge C R) (j' : ℕ → Judge C' R') (l : Layer C R C' R') (opening : ℕ → ℕ) (price : (size : ℕ) → (j size).State → C → ℕ) (price' : (size : ℕ) → (j' size).State → C' → ℕ) (Off : (size : ℕ) → (j size).State → (j' size).State → Type 0) (On : (size : ℕ) → l.Mem → (j size).State → (j' size).State → Type 0) : Type 0 where
  pub begins : (size : ℕ) → Off size (j size).start (j' size).start
  pub rises : (size : ℕ) → 8192 ≤ size → size ≤ 1099511627776 → (s t : (j size).State) (v : (j' size).State) (m : l.Mem) → Off size s v → (w : Comes (j size) (l.comes_up size) s m t) → On size m t v × (spent (price size) w ≤ opening size)
  pub rise_cut : (size : ℕ) → 8192 ≤ size → size ≤ 1099511627776 → (s u : (j size).State) (v : (j' size).State) → Off size s v → CutShort (j size) (l.comes_up size) s u → (o : (j' size).State) × (j' size).Down v o × Off size u o
  pub does : (size : ℕ) (m : l.Mem) (s t : (j size).State) (v : (j' size).State) (c : C') (x : record { reply : R'; mem : l.Mem }) → On size m s v → (w : Comes (j size) (l.answers c m) s x t) →
      (spent (price size) w ≤ price' size v c) × ((o : (j' size).State) × (j' size).Answers c v x.reply o × On size x.mem t o)
  pub does_cut : (size : ℕ) (m : l.Mem) (s u : (j size).State) (v : (j' size).State) (c : C') → On size m s v → CutShort (j size) (l.answers c m) s u → (o : (j' size).State) × CutIn (j' size) c v o × Off size u o
  pub cut : (size : ℕ) (m : l.Mem) (s u : (j size).State) (v : (j' size).State) → On size m s v → (j size).Down s u → (o : (j' size).State) × (j' size).Down v o × Off size u o

-- Any machine with its judge and its prices, and any layer with its own. A contract takes them through a ghost member.
pub record PricedTower : Type 1 where
  pub C : Type 0
  pub R : Type 0
  pub C' : Type 0
  pub R' : Type 0
  pub judge_below : ℕ → Judge C R
  pub judge : ℕ → Judge C' R'
  pub below : Machine C R
  pub layer : Layer C R C' R'
  pub opening_below : ℕ → ℕ
  pub opening : ℕ → ℕ
  pub price_below : (size : ℕ) → (judge_below size).State → C → ℕ
  pub price : (size : ℕ) → (judge size).State → C' → ℕ
  pub OffBelow : (size : ℕ) → Device → (judge_below size).State → Type 0
  pub OnBelow : (size : ℕ) → below.Mem → Device → (judge_below size).State → Type 0
  pub Off : (size : ℕ) → (judge_below size).State → (judge size).State → Type 0
  pub On : (size : ℕ) → layer.Mem → (judge_below size).State → (judge size).State → Type 0

abbrev pub PricedBelow : PricedTower → Type 0
PricedBelow t = Priced t.judge_below t.below t.opening_below t.price_below t.OffBelow t.OnBelow

-- what is priced keeps to its judge, and touches nothing but the device
abbrev pub PricedKeeps : PricedTower → Type 0
PricedKeeps t = PricedBelow t → Keeps t.judge_below t.below × Within t.below

-- a layer on a machine that is priced is priced, and prices add up
abbrev pub PricesAdd : PricedTower → Type 0
PricesAdd t =
    PricedBelow t → PricedLayer t.judge_below t.judge t.layer t.opening t.price_below t.price t.Off t.On →
    Priced t.judge (over t.below t.layer) (λ z. t.opening_below z + t.opening z) t.price
    (λ z d v. (s : (t.judge_below z).State) × t.OffBelow z d s × t.Off z s v) (λ z m d v. (s : (t.judge_below z).State) × t.OnBelow z m.below d s × t.On z m.above s v)
