-- A card of another form.
-- Assumes nothing.
use Rattle.std.proofs.Common.{◌≡◌, ℕ, ◌+◌, ◌-◌, Bool, true, false, cond, eqb, ltb, List, None, sym, refl, subst, subst₂}
use Rattle.std.proofs.lemmas.Bool.{true≢false}
use Rattle.device.specs.Sectors.{Device, shown}
use Rattle.device.specs.Program.{Io, answer, run, reads_of, and_then}
use Rattle.device.specs.Layer.{gives, asks, through}
use Rattle.device.specs.Plays.{io_of}
use Rattle.device.proofs.Programs.{run-then}
use Rattle.paging.specs.Layout.{numbers, home}
use Rattle.paging.specs.Pages.{PageCall, Get, Put, PutVolatile, PutThrough, Volatile, Spare, Left, Label, Sync, Told, PageReply, replied, blank_page}
use Rattle.paging.specs.Sectors.{root_known}
use Rattle.paging.specs.Store.{Stored, shut, store_flow, store, read_page}
use Rattle.paging.specs.Promise.{Refuses, LeavesForeign, ForeignStays}

-- the root alone is read
abbrev up : ℕ → Io (Stored × ℕ) → Bool → Io Stored
up size p b = and_then (cond b p (answer (shut, 1))) (λ x. answer x.0)

left_so : (size : ℕ) (d : Device) (p : Io (Stored × ℕ)) (b : Bool) → b ≡ false → ((run (up size p b) d).value ≡ shut) × ((run (up size p b) d).device ≡ d) × (1 + reads_of (up size p b) d ≡ 1)
unfolding run reads_of and_then
left_so size d p true e = absurd (true≢false e)
left_so size d p false e = (refl, refl, refl)

opened : (size : ℕ) (d : Device) → root_known (shown d 0) ≡ false → ((run (store.opens size) d).value ≡ shut) × ((run (store.opens size) d).device ≡ d) × (reads_of (store.opens size) d ≡ 1)
unfolding io_of run reads_of and_then
opened size d e = left_so size d _ (root_known (shown d 0)) e

-- each call answers at once
at_once : (c : PageCall) → (a : Told c) × (io_of (store_flow c shut) ≡ answer (a, shut)) × Refuses c (replied c a)
unfolding io_of store_flow replied
at_once (Get n) = (blank_page, go (ltb n (numbers 0)), refl)
  where
    go : (b : Bool) → cond {A = Io (List ℕ × Stored)} (eqb (cond b 0 0) 0) (answer (blank_page, shut)) (and_then (io_of (read_page (home 0 (cond b 0 0 - 1)))) (λ page. answer (page, shut))) ≡ answer (blank_page, shut)
    go true = refl
    go false = refl
at_once (Put n b) = (false, refl, refl)
at_once (PutVolatile n b) = (false, refl, refl)
at_once (PutThrough n b) = (false, refl, refl)
at_once (Volatile n) = (false, refl, refl)
at_once (Spare from) = (_, refl, (_, refl))
at_once Left = (0, refl, refl)
at_once Label = (None, refl, refl)
at_once (Sync label) = (tt, refl, refl)

called : (d : Device) (c : PageCall) →
    Refuses c (run (store.does c shut) d).value.reply × ((run (store.does c shut) d).value.mem ≡ shut) × ((run (store.does c shut) d).device ≡ d) × (reads_of (store.does c shut) d ≡ 0)
unfolding run reads_of and_then
called d c =
    let (a, e, r) = at_once c in
    subst (λ p. Refuses c (run (named p) d).value.reply × ((run (named p) d).value.mem ≡ shut) × ((run (named p) d).device ≡ d) × (reads_of (named p) d ≡ 0)) (sym e) (r, refl, refl, refl)
  where
    named : Io (Told c × Stored) → Io (record { reply : PageReply; mem : Stored })
    named p = and_then p (λ x. answer (record { reply = replied c x.0; mem = x.1 }))

pub leaves-foreign : LeavesForeign
leaves-foreign = (opened, called)

-- PLANS of calls
pub foreign-stays : (A : Type 0) → ForeignStays A
unfolding through run
foreign-stays A d (gives a) = (refl, refl)
foreign-stays A d (asks c k) =
    let (r, m, e, n) = called d c in
    let x = run (store.does c shut) d in
    subst (λ y. (y.device ≡ d) × (y.value.below ≡ shut)) (sym (run-then (store.does c shut) (λ x. through store (k x.reply) x.mem) d))
    (subst₂ (λ t f. ((run (through store (k x.value.reply) t) f).device ≡ d) × ((run (through store (k x.value.reply) t) f).value.below ≡ shut)) (sym m) (sym e) (foreign-stays A d (k x.value.reply)))
