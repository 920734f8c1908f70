-- Code that asks the store plays, on the device, what its flow does through the store's machine.
-- Assumes nothing.
use Rattle.std.proofs.Common.{ℕ}
use mathlib.Core.Path.{subst⁻¹}
use Rattle.device.specs.Program.{Io}
use Rattle.device.specs.Layer.{Plan, through}
use Rattle.device.specs.Flow.{Flow, Runs}
use Rattle.device.specs.Plays.{Asked, Plays, Follows, plan_of, io_of, among}
use Rattle.device.specs.Plays as device
use Rattle.device.proofs.Flows.{flow-plays, flow-follows}
use Rattle.device.proofs.Plays.{plays-then, plays-through}
use Rattle.paging.specs.Pages.{PageCall, PageReply, Told, replied, page_replies}
use Rattle.paging.specs.Store.{Stored, open_flow, store_flow, store}

module _ {S T : Type 0} (steps : S → (c : Asked) → device.Told c → S → Type 0) (dev : T → S) (stored : T → Stored) where
  -- what a call of the store does, as the code's contract has it
  abbrev pub Goes : T → (c : PageCall) → Told c → T → Type 0
  Goes s c r t = Runs steps (store_flow c (stored s)) (dev s) (dev t) (r, stored t)

  call-plays : (c : PageCall) (r : PageReply) (s t : T) → among page_replies Goes s c r t → Plays steps (store.does c (stored s)) (dev s) (dev t) (record { reply = r; mem = stored t })
  call-plays c r s t (x, e, q) =
      plays-then _ (flow-plays steps (store_flow c (stored s)) (dev s) (dev t) (x, stored t) q)
      (subst⁻¹ (λ y. Plays {A = record { reply : PageReply; mem : Stored }} steps (Io.answer (record { reply = replied c x; mem = stored t })) (dev t) (dev t) (record { reply = y; mem = stored t })) e Plays.ends)

  pub plan-plays : {A : Type 0} {p : Plan PageCall PageReply A} {s t : T} {a : A} → Follows (among page_replies Goes) p s t a → Plays steps (through store p (stored s)) (dev s) (dev t) (record { value = a; below = stored t })
  plan-plays q = plays-through store dev stored call-plays q

  pub flow-follows-store : {A : Type 0} (p : Flow PageCall Told A) (s t : T) (a : A) → Runs Goes p s t a → Follows (among page_replies Goes) (plan_of page_replies p) s t a
  flow-follows-store p s t a q = flow-follows page_replies Goes p s t a q

  -- coming up
  pub open-plays : (size n : ℕ) (d : S) (t : T) → Runs steps (open_flow size) d (dev t) (stored t, n) → Plays steps (store.opens size) d (dev t) (stored t)
  open-plays size n d t q = plays-then _ (flow-plays steps (open_flow size) d (dev t) (stored t, n) q) Plays.ends
