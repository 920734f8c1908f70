-- The machine that refuses every call keeps the promise.
-- Assumes nothing.
use Rattle.std.proofs.Common.{ℕ, false, List, refl, arith}
use mathlib.Core.List.{Memᴰ}
use Rattle.device.specs.Program.{reads_of, run, Fair}
use Rattle.device.specs.Machine.{Event, World, Trace, Allowed}
use Rattle.model.specs.Tree.{Fs, blank, swept}
use Rattle.model.specs.Calls.{Call, Reply, State, fresh}
use Rattle.model.specs.Answers.{Down, leaves, not_yet}
use Rattle.calls.specs.Promise.{files, Whole}
use Rattle.calls.specs.Files.{built, machine}

-- a state that may be after the events, and a tree that a cut may leave
pub record Stood (size : ℕ) (es : List (Event Call Reply)) : Type 0 where
  pub state : State
  pub allowed : Allowed (files built size) es state
  pub tree : Fs
  pub could : Memᴰ tree state.could

-- after a cut the tree is one that could be, with nothing open
fallen : (size : ℕ) (es es' : List (Event Call Reply)) → ((s u : State) → Allowed (files built size) es s → Down s u → Allowed (files built size) es' u) → Stood size es → Stood size es'
fallen size es es' cut q =
    let f = swept (λ n. false) q.tree in
    record { state = fresh f; allowed = cut q.state (fresh f) q.allowed (leaves q.state q.tree q.could); tree = f; could = Memᴰ.head refl }

pub stood : (size : ℕ) {es : List (Event Call Reply)} {w : World machine} → Trace machine size es w → Stood size es
unfolding run
stood size Trace.begin = record { state = fresh blank; allowed = Allowed.at_start; tree = blank; could = Memᴰ.head refl }
stood size (Trace.opened t) = stood size t
stood size (Trace.opening_cut t u x) = fallen size _ _ (λ s v h k. Allowed.came_opening h k) (stood size t)
stood size (Trace.answered c t) = let q = stood size t in record { state = q.state; allowed = Allowed.answers q.allowed (not_yet c q.state tt); tree = q.tree; could = q.could }
stood size (Trace.call_cut c t u x) = fallen size _ _ (λ s v h k. Allowed.was_lost h k) (stood size t)
stood size (Trace.between_cut t x) = fallen size _ _ (λ s v h k. Allowed.came_between h k) (stood size t)

pub whole : Whole built machine
unfolding reads_of
whole = (
  λ size low high es w t. let q = stood size t in (q.state, q.allowed),
  λ size low high. (λ es d t. Fair.ends _ d, λ es m d t c. Fair.ends _ d),
  λ size low high es d t. omega arith,
  λ size low high es m d t. let q = stood size t in (q.state, q.allowed, λ c. omega arith),
)
