-- On a card of another form every call is refused.
-- Assumes nothing.
use Rattle.std.proofs.Common.{◌≡◌, ℕ, false, sym, refl, ap, ◌∙◌}
use Rattle.device.specs.Sectors.{Device, shown}
use Rattle.device.specs.Program.{Io, Ran, answer, run, and_then}
use Rattle.device.specs.Layer.{through}
use Rattle.device.specs.Plays.{io_of, plan_of, plan_then}
use Rattle.device.proofs.Programs.{run-then}
use Rattle.paging.specs.Layout.{numbers}
use Rattle.paging.specs.Pages.{blank_label, replied, told_in, page_replies}
use Rattle.paging.specs.Sectors.{root_known}
use Rattle.paging.specs.Store.{Stored, shut, store_flow, store}
use Rattle.paging.proofs.Foreign.{leaves-foreign}
use Rattle.model.specs.Calls.{Call, No}
use Rattle.calls_on_store.specs.Promise.{RefusesForeign}
use Rattle.caching.specs.Frames.{fresh}
use Rattle.caching.specs.Cache.{cache_flow, cache_layer}
use Rattle.calls_on_store.specs.Files.{up_flow, pages_below, machine}

abbrev refusing : (size frames : ℕ) → (machine frames).Mem
refusing size frames = record { below = record { below = shut; above = fresh (numbers size) frames }; above = record { known = false; label = blank_label } }

-- the cache comes up, and then the files
abbrev cached : (size frames : ℕ) → Stored → Io (pages_below frames).Mem
cached size frames m = and_then (through store ((cache_layer frames).comes_up size) m) (λ x. answer (record { below = x.below; above = x.value }))

abbrev rest : (frames : ℕ) → (pages_below frames).Mem → Io (machine frames).Mem
rest frames m = and_then (through (pages_below frames) (plan_of page_replies up_flow) m) (λ x. answer (record { below = x.below; above = x.value }))

at_once : (size frames : ℕ) (d : Device) → run (rest frames (record { below = shut; above = fresh (numbers size) frames })) d ≡ record { value = refusing size frames; device = d }
unfolding io_of store_flow cache_flow replied told_in and_then through plan_of plan_then run
at_once size frames d = refl

pages-up : (size frames : ℕ) (d : Device) → root_known (shown d 0) ≡ false → run ((pages_below frames).opens size) d ≡ record { value = record { below = shut; above = fresh (numbers size) frames }; device = d }
unfolding and_then through run
pages-up size frames d e =
    let (v, f, r) = leaves-foreign.0 size d e in
    let a : run (cached size frames (run (store.opens size) d).value) (run (store.opens size) d).device ≡ run (cached size frames shut) d = λ i. run (cached size frames (v i)) (f i) in
    run-then (store.opens size) (cached size frames) d ∙ a

up : (size frames : ℕ) (d : Device) → root_known (shown d 0) ≡ false → run ((machine frames).opens size) d ≡ record { value = refusing size frames; device = d }
up size frames d e =
    run-then ((pages_below frames).opens size) (rest frames) d ∙
    (ap (λ (x : Ran (pages_below frames).Mem). run (rest frames x.value) x.device) (pages-up size frames d e) ∙ at_once size frames d)

refused : (size frames : ℕ) (d : Device) (c : Call) → run ((machine frames).does c (refusing size frames)) d ≡ record { value = record { reply = No 19; mem = refusing size frames }; device = d }
unfolding and_then through plan_of plan_then run
refused size frames d c = refl

pub refuses-foreign : (frames : ℕ) → RefusesForeign (machine frames)
refuses-foreign frames size d e =
    let u = up size frames d e in
    let a = λ (c : Call). ap (λ (x : Ran (machine frames).Mem). run ((machine frames).does c x.value) d) u ∙ refused size frames d c in
    (ap (λ x. x.device) u, λ c. (ap (λ x. x.value.reply) (a c), ap (λ x. x.value.mem) (a c) ∙ sym (ap (λ x. x.value) u), ap (λ x. x.device) (a c)))
