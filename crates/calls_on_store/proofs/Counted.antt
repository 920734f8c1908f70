-- Coming up reads just as many sectors as it tells.
-- Assumes nothing.
use Rattle.std.proofs.Common.{◌≡◌, ℕ, ◌+◌, Bool, true, false, cond, List, sym, refl, ap, ◌∙◌, arith}
use Rattle.device.specs.Sectors.{Device, shown}
use Rattle.device.specs.Program.{Io, Ran, answer, run, reads_of, and_then}
use Rattle.device.specs.Layer.{through}
use Rattle.device.specs.Plays.{io_of, plan_of, plan_then}
use Rattle.device.proofs.Programs.{run-then}
use Rattle.device.proofs.Sums.{reads_then_lem, reads-named}
use Rattle.device.proofs.Layers.{run-named}
use Rattle.paging.specs.Layout.{last_node}
use Rattle.paging.specs.Pages.{replied, told_in, page_replies}
use Rattle.paging.specs.Sectors.{root_known, label_at}
use Rattle.paging.specs.Memory.{Mem, bare, took}
use Rattle.paging.specs.Store.{Stored, shut, open_flow, nodes_flow, store_flow, store}
use Rattle.paging.proofs.Few.{up-soon}
use Rattle.caching.specs.Cache.{cache_flow, cache_layer}
use Rattle.calls_on_store.specs.Files.{up_flow, pages_below, machine}
use Rattle.calls_on_store.specs.Of.{up_reads}
use Rattle.calls_on_store.specs.Counted.{OpenCounted}

-- what the store's flow tells goes by whether the form is known
told : (size : ℕ) (d : Device) → (run (io_of (open_flow size)) d).value.1 ≡ up_reads size (run (io_of (open_flow size)) d).value.0.known
unfolding io_of run
told size d = by (root_known (shown d 0))
  where
    nodes : Io Mem
    nodes = io_of (nodes_flow size (took 0 (shown d 0) (bare size)))

    named : Mem → Stored × ℕ
    named m = (record { known = true; label = label_at (shown d 0); mem = m }, last_node size + 1)

    both : Bool → Io (Stored × ℕ)
    both b = cond b (and_then nodes (λ m. answer (named m))) (answer (shut, 1))

    by : (b : Bool) → (run (both b) d).value.1 ≡ up_reads size (run (both b) d).value.0.known
    by true = let e = run-then nodes (λ m. answer (named m)) d in ap (λ x. x.value.1) e ∙ sym (ap (λ x. up_reads size x.value.0.known) e)
    by false = refl

-- ABOVE THE STORE nothing is read, and the files know what the store knows
abbrev cached : (size frames : ℕ) → Stored → Io (pages_below frames).Mem
cached size frames m = and_then (through store ((cache_layer frames).comes_up size) m) (λ x. answer (record { below = x.below; above = x.value }))

abbrev rest : (frames : ℕ) → (pages_below frames).Mem → Io (machine frames).Mem
rest frames m = and_then (through (pages_below frames) (plan_of page_replies up_flow) m) (λ x. answer (record { below = x.below; above = x.value }))

by-known : (size frames : ℕ) (k : Bool) (l : List ℕ) (t : Mem) (d : Device) →
    (reads_of (and_then (cached size frames (record { known = k; label = l; mem = t })) (rest frames)) d ≡ 0) × ((run (and_then (cached size frames (record { known = k; label = l; mem = t })) (rest frames)) d).value.above.known ≡ k)
unfolding io_of store_flow cache_flow replied told_in and_then through plan_of plan_then run reads_of
by-known size frames true l t d = (refl, refl)
by-known size frames false l t d = (refl, refl)

pub open-counted : (frames : ℕ) → OpenCounted frames
open-counted frames size d =
    let s = store.opens size in
    let v = (run s d).value in
    let f = (run s d).device in
    let p = and_then s (cached size frames) in
    let (none, knows) = by-known size frames v.known v.label v.mem f in
    let a = reads_then_lem _ _ p (rest frames) d in
    let b = reads_then_lem _ _ s (cached size frames) d in
    let c = reads_then_lem _ _ (cached size frames v) (rest frames) f in
    let e = run-then s (cached size frames) d in
    let i : reads_of (rest frames (run p d).value) (run p d).device ≡ reads_of (rest frames (run (cached size frames v) f).value) (run (cached size frames v) f).device = ap (λ (x : Ran (pages_below frames).Mem). reads_of (rest frames x.value) x.device) e in
    let j : (run ((machine frames).opens size) d).value.above.known ≡ v.known =
    ap (λ x. x.value.above.known) (run-then p (rest frames) d) ∙
    (ap (λ (x : Ran (pages_below frames).Mem). (run (rest frames x.value) x.device).value.above.known) e ∙ (sym (ap (λ x. x.value.above.known) (run-then (cached size frames v) (rest frames) f)) ∙ knows)) in
    let n : reads_of s d ≡ reads_of (io_of (open_flow size)) d = reads-named (io_of (open_flow size)) (λ x. x.0) d in
    let w : v ≡ (run (io_of (open_flow size)) d).value.0 = ap (λ x. x.value) (run-named (io_of (open_flow size)) (λ x. x.0) d) in
    let t = told size d in
    let q = up-soon.1 size d in
    let k : up_reads size (run ((machine frames).opens size) d).value.above.known ≡ up_reads size (run (io_of (open_flow size)) d).value.0.known = ap (up_reads size) (j ∙ ap (λ x. x.known) w) in
    let r : reads_of ((machine frames).opens size) d ≡ reads_of (io_of (open_flow size)) d = omega arith in
    r ∙ (sym q ∙ (t ∙ sym k))
