-- What is priced keeps to its judge and touches nothing but the device; its prices add up, and a layer on it is priced.
-- Assumes nothing.
use Rattle.std.proofs.Common.{◌≡◌, ℕ, ◌+◌, ◌≤◌, ◌⊎◌, List, ◌∷◌, sym, ap, ◌∙◌, subst, inl, inr, arith}
use Rattle.device.specs.Sectors.{Device, AfterCut}
use Rattle.device.specs.Program.{answer, Ran, run, Upto, Fair, reads_of, and_then}
use Rattle.device.specs.Machine.{Machine, Event, cut_in, World, off, on, Trace, Judge, Allowed, Keeps, Within}
use Rattle.device.specs.Layer.{Plan, gives, asks, Layer, through, over, Comes, CutShort}
use Rattle.device.specs.Priced.{CutIn, Priced, spent, PricedLayer}
use Rattle.device.proofs.Programs.{run-then, cut-then, fair-then}
use Rattle.device.proofs.Layers.{cut-named, run-named}
use Rattle.device.proofs.Sums.{reads_then_lem, reads-named}

module _ {C R : Type 0} {j : ℕ → Judge C R} {e : Machine C R} {opening : ℕ → ℕ} {price : (size : ℕ) → (j size).State → C → ℕ} {Off : (size : ℕ) → Device → (j size).State → Type 0} {On : (size : ℕ) → e.Mem → Device → (j size).State → Type 0} (p : Priced j e opening price Off On) where
  module _ (z : ℕ) (big : 8192 ≤ z) (small : z ≤ 1099511627776) where
    abbrev Tied : World e → (j z).State → Type 0
    Tied (off d) s = Off z d s
    Tied (on m d) s = On z m d s

    after-cut : {es : List (Event C R)} {c : C} {s u : (j z).State} → Allowed (j z) es s → CutIn (j z) c s u → Allowed (j z) (cut_in c ∷ es) u
    after-cut a (CutIn.lost d) = Allowed.was_lost a d
    after-cut a (CutIn.done r t b d) = Allowed.was_done a b d

    -- of each trace a state that is allowed, and tied to what there is
    pub tied : {es : List (Event C R)} {w : World e} → Trace e z es w → (s : (j z).State) × Allowed (j z) es s × Tied w s
    tied Trace.begin = ((j z).start, Allowed.at_start, p.begins z)
    tied (Trace.opened {d = d} t) = let (s, a, g) = tied t in (s, a, (p.comes_up z big small d s g).1)
    tied (Trace.opening_cut {d = d} t u c) = let (s, a, g) = tied t in let (v, k, h) = p.up_cut z big small d _ _ s g u c in (v, Allowed.came_opening a k, h)
    tied (Trace.answered {m = m} {d = d} c t) = let (s, a, g) = tied t in let (v, k, h) = (p.answers z m d s g c).2 in (v, Allowed.answers a k, h)
    tied (Trace.call_cut {m = m} {d = d} c t u k) = let (s, a, g) = tied t in let (v, l, h) = p.call_cut z m d _ _ s g c u k in (v, after-cut a l, h)
    tied (Trace.between_cut {m = m} {d = d} t c) = let (s, a, g) = tied t in let (v, k, h) = p.cut z m d _ s g c in (v, Allowed.came_between a k, h)

  pub keeps : Keeps j e
  keeps z big small es w t = let (s, a, g) = tied z big small t in (s, a)

  pub within : Within e
  within z big small = (
    λ es d t. let (s, a, g) = tied z big small t in (p.comes_up z big small d s g).0,
    λ es m d t c. let (s, a, g) = tied z big small t in (p.answers z m d s g c).0,
  )

  -- a plan that the machine carries out goes a way that the judge allows, and reads no more than its calls cost on that way
  abbrev pub Goes : {A : Type 0} (z : ℕ) → Plan C R A → (j z).State → Ran (record { value : A; below : e.Mem }) → ℕ → Type 0
  Goes z q s x n = (t : (j z).State) × (w : Comes (j z) q s x.value.value t) × On z x.value.below x.device t × (n ≤ spent (price z) w)

  pub adds-up : {A : Type 0} (z : ℕ) (q : Plan C R A) (m : e.Mem) (d : Device) (s : (j z).State) → On z m d s → Goes z q s (run (through e q m) d) (reads_of (through e q m) d)
  unfolding through run reads_of spent
  adds-up z (gives a) m d s r = (s, Comes.ends, r, omega arith)
  adds-up z (asks c k) m d s r =
      let (f, l, (t, a, g)) = p.answers z m d s r c in
      let y = run (e.does c m) d in
      let (v, w, h, n) = adds-up z (k y.value.reply) y.value.mem y.device t g in
      let i = run-then (e.does c m) (λ x. through e (k x.reply) x.mem) d in
      let o = reads_then_lem _ _ (e.does c m) (λ x. through e (k x.reply) x.mem) d in
      subst (λ x. Goes z (asks c k) s x (reads_of (and_then (e.does c m) (λ x. through e (k x.reply) x.mem)) d)) (sym i) (v, Comes.goes_on a w, h, omega arith)

  fair-plan : {A : Type 0} (z : ℕ) (q : Plan C R A) (m : e.Mem) (d : Device) (s : (j z).State) → On z m d s → Fair z (through e q m) d
  unfolding through
  fair-plan z (gives a) m d s r = Fair.ends _ _
  fair-plan z (asks c k) m d s r =
      let (f, l, (t, a, g)) = p.answers z m d s r c in
      fair-then z _ f (fair-plan z (k (run (e.does c m) d).value.reply) (run (e.does c m) d).value.mem (run (e.does c m) d).device t g)

  cut-plan : {A : Type 0} (z : ℕ) (q : Plan C R A) (m : e.Mem) (d f g : Device) (s : (j z).State) → On z m d s → Upto (through e q m) d f → AfterCut f g → (u : (j z).State) × CutShort (j z) q s u × Off z g u
  unfolding through
  cut-plan z (gives a) m d f g s r Upto.here h = let (u, k, v) = p.cut z m d g s r h in (u, CutShort.at_once k, v)
  cut-plan z (asks c k) m d f g s r w h = go (cut-then (e.does c m) _ d f w) (cut-plan z (k (run (e.does c m) d).value.reply) (run (e.does c m) d).value.mem (run (e.does c m) d).device f g _ (p.answers z m d s r c).2.2)
    where
      short : (u : (j z).State) → CutIn (j z) c s u → CutShort (j z) (asks c k) s u
      short u (CutIn.lost d) = CutShort.at_once d
      short u (CutIn.done r t a d) = CutShort.in_call a d

      go : Upto (e.does c m) d f ⊎ Upto (through e (k (run (e.does c m) d).value.reply) (run (e.does c m) d).value.mem) (run (e.does c m) d).device f →
          (Upto (through e (k (run (e.does c m) d).value.reply) (run (e.does c m) d).value.mem) (run (e.does c m) d).device f → AfterCut f g → (u : (j z).State) × CutShort (j z) (k (run (e.does c m) d).value.reply) (p.answers z m d s r c).2.0 u × Off z g u) →
          (u : (j z).State) × CutShort (j z) (asks c k) s u × Off z g u
      go (inl v) i = let (u, n, o) = p.call_cut z m d f g s r c v h in (u, short u n, o)
      go (inr v) i = let (u, n, o) = i v h in (u, CutShort.later (p.answers z m d s r c).2.1 n, o)

-- LAYERS
abbrev up_name : {M N : Type 0} → record { value : N; below : M } → record { below : M; above : N }
up_name x = record { below = x.below; above = x.value }

abbrev say_name : {M N R : Type 0} → record { value : record { reply : R; mem : N }; below : M } → record { reply : R; mem : record { below : M; above : N } }
say_name x = record { reply = x.value.reply; mem = record { below = x.below; above = x.value.mem } }

module _ {C R C' R' : Type 0} {j : ℕ → Judge C R} {j' : ℕ → Judge C' R'} {e : Machine C R} {l : Layer C R C' R'} {opening opening' : ℕ → ℕ} {price : (size : ℕ) → (j size).State → C → ℕ} {price' : (size : ℕ) → (j' size).State → C' → ℕ}
    {Off : (size : ℕ) → Device → (j size).State → Type 0} {On : (size : ℕ) → e.Mem → Device → (j size).State → Type 0} {Off' : (size : ℕ) → (j size).State → (j' size).State → Type 0} {On' : (size : ℕ) → l.Mem → (j size).State → (j' size).State → Type 0}
    (p : Priced j e opening price Off On) (q : PricedLayer j j' l opening' price price' Off' On') where
  abbrev OffOver : (size : ℕ) → Device → (j' size).State → Type 0
  OffOver z d v = (s : (j z).State) × Off z d s × Off' z s v

  abbrev OnOver : (size : ℕ) → (over e l).Mem → Device → (j' size).State → Type 0
  OnOver z m d v = (s : (j z).State) × On z m.below d s × On' z m.above s v

  comes : (z : ℕ) → 8192 ≤ z → z ≤ 1099511627776 → (d : Device) (v : (j' z).State) → OffOver z d v → Fair z ((over e l).opens z) d × OnOver z (run ((over e l).opens z) d).value (run ((over e l).opens z) d).device v × (reads_of ((over e l).opens z) d ≤ opening z + opening' z)
  comes z big small d v (s, r, i) =
      let (f, g, n) = p.comes_up z big small d s r in
      let y = run (e.opens z) d in
      let (t, w, h, o) = adds-up p z (l.comes_up z) y.value y.device s g in
      let (a, b) = q.rises z big small s t v _ i w in
      let c : reads_of ((over e l).opens z) d ≡ reads_of (e.opens z) d + reads_of (through e (l.comes_up z) y.value) y.device =
      reads_then_lem _ _ (e.opens z) (λ m. and_then (through e (l.comes_up z) m) (λ x. answer (up_name x))) d ∙ ap (λ n. reads_of (e.opens z) d + n) (reads-named (through e (l.comes_up z) y.value) up_name y.device) in
      let u = run-then (e.opens z) (λ m. and_then (through e (l.comes_up z) m) (λ x. answer (up_name x))) d ∙ run-named (through e (l.comes_up z) y.value) up_name y.device in (
        fair-then z _ f (fair-then z _ (fair-plan p z (l.comes_up z) y.value y.device s g) (Fair.ends _ _)),
        subst (λ x. OnOver z x.value x.device v) (sym u) (t, h, a),
        omega arith,
      )

  says : (z : ℕ) (m : (over e l).Mem) (d : Device) (v : (j' z).State) → OnOver z m d v → (c : C') →
      Fair z ((over e l).does c m) d × (reads_of ((over e l).does c m) d ≤ price' z v c) × ((o : (j' z).State) × (j' z).Answers c v (run ((over e l).does c m) d).value.reply o × OnOver z (run ((over e l).does c m) d).value.mem (run ((over e l).does c m) d).device o)
  says z m d v (s, r, i) c =
      let (t, w, h, n) = adds-up p z (l.answers c m.above) m.below d s r in
      let (b, (o, a, k)) = q.does z m.above s t v c _ i w in
      let f : reads_of ((over e l).does c m) d ≡ reads_of (through e (l.answers c m.above) m.below) d = reads-named (through e (l.answers c m.above) m.below) say_name d in
      let u = run-named (through e (l.answers c m.above) m.below) say_name d in (
        fair-then z _ (fair-plan p z (l.answers c m.above) m.below d s r) (Fair.ends _ _),
        omega arith,
        subst (λ x. (o : (j' z).State) × (j' z).Answers c v x.value.reply o × OnOver z x.value.mem x.device o) (sym u) (o, a, (t, h, k)),
      )

  pub priced-over : Priced j' (over e l) (λ z. opening z + opening' z) price' OffOver OnOver
  priced-over =
      record {
        begins = λ z. ((j z).start, p.begins z, q.begins z);
        comes_up = comes;
        up_cut = λ z big small d f g v (s, r, i) w h. rising z big small d f g v s r i (cut-then (e.opens z) _ d f w) h;
        answers = says;
        call_cut = λ z m d f g v (s, r, i) c w h.
            let (u, n, o) = cut-plan p z (l.answers c m.above) m.below d f g s r (cut-named (through e (l.answers c m.above) m.below) _ d f w) h in
            let (k, a, b) = q.does_cut z m.above s u v c i n in
            (k, a, (u, o, b));
        cut = λ z m d g v (s, r, i) h. let (u, n, o) = p.cut z m.below d g s r h in let (k, a, b) = q.cut z m.above s u v i n in (k, a, (u, o, b));
      }
    where
      rising : (z : ℕ) → 8192 ≤ z → z ≤ 1099511627776 → (d f g : Device) (v : (j' z).State) (s : (j z).State) → Off z d s → Off' z s v →
          Upto (e.opens z) d f ⊎ Upto (and_then (through e (l.comes_up z) (run (e.opens z) d).value) (λ x. answer (up_name x))) (run (e.opens z) d).device f → AfterCut f g → (o : (j' z).State) × (j' z).Down v o × OffOver z g o
      rising z big small d f g v s r i (inl w) h =
          let (u, n, o) = p.up_cut z big small d f g s r w h in
          let (k, a, b) = q.rise_cut z big small s u v i (CutShort.at_once n) in
          (k, a, (u, o, b))
      rising z big small d f g v s r i (inr w) h =
          let y = (p.comes_up z big small d s r).1 in
          let (u, n, o) = cut-plan p z (l.comes_up z) (run (e.opens z) d).value (run (e.opens z) d).device f g s y (cut-named (through e (l.comes_up z) (run (e.opens z) d).value) _ (run (e.opens z) d).device f w) h in
          let (k, a, b) = q.rise_cut z big small s u v i n in
          (k, a, (u, o, b))
