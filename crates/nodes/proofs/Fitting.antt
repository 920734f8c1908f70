-- The longest front of entries that weighs at most so much.
-- Assumes nothing.
use Rattle.std.proofs.Common.{◌≡◌, ℕ, suc, ◌+◌, ◌-◌, ◌<◌, ◌≤◌, leb, List, [], ◌∷◌, ◌++◌, take, refl, ap, ◌∙◌, inl, inr, add-one, arith}
use Rattle.std.proofs.lemmas.Bool.{cases_lt, le-leb, lt-leb, cond-true, cond-false}
use Rattle.nodes.specs.Entries.{Entry, entry_weight, weight_of, fitting}
use Rattle.nodes.specs.Laws.{Longest, FittingIsLongest}

fitting-on : (room : ℕ) (e : Entry) (es : List Entry) → entry_weight e ≤ room → fitting room (e ∷ es) ≡ e ∷ fitting (room - entry_weight e) es
unfolding fitting
fitting-on room e es h = cond-true (leb (entry_weight e) room) (e ∷ fitting (room - entry_weight e) es) [] (le-leb (entry_weight e) room h)

fitting-off : (room : ℕ) (e : Entry) (es : List Entry) → room < entry_weight e → fitting room (e ∷ es) ≡ []
unfolding fitting
fitting-off room e es h = cond-false (leb (entry_weight e) room) (e ∷ fitting (room - entry_weight e) es) [] (lt-leb (entry_weight e) room h)

fitting-none : (room : ℕ) → fitting room [] ≡ []
unfolding fitting
fitting-none room = refl

pub fitting-all : (room : ℕ) (es : List Entry) → weight_of es ≤ room → fitting room es ≡ es
fitting-all room [] h = fitting-none room
fitting-all room (e ∷ es) h = fitting-on room e es (omega arith) ∙ ap (λ (xs : List Entry). e ∷ xs) (fitting-all (room - entry_weight e) es (omega arith))

-- it ends at the first entry that has no room
pub fitting-stops : (room : ℕ) (fs : List Entry) (e : Entry) (gs : List Entry) → weight_of fs ≤ room → room < weight_of fs + entry_weight e → fitting room (fs ++ (e ∷ gs)) ≡ fs
fitting-stops room [] e gs h k = fitting-off room e gs (omega arith)
fitting-stops room (f ∷ fs) e gs h k =
    fitting-on room f (fs ++ (e ∷ gs)) (omega arith) ∙ ap (λ (xs : List Entry). f ∷ xs) (fitting-stops (room - entry_weight f) fs e gs (omega arith) (omega arith))

longest : (room : ℕ) (es : List Entry) → (n : ℕ) × (fitting room es ≡ take n es) × Longest room es n
longest room [] = (0, fitting-none room, record { light = omega arith; most = λ h. absurd (omega arith) })
longest room (e ∷ es) =
    elim (cases_lt room (entry_weight e)) [
      | inl h ↦ (0, fitting-off room e es h, record { light = omega arith; most = λ _. omega arith })
      | inr h ↦
          let r = longest (room - entry_weight e) es in
          (suc r.0, fitting-on room e es h ∙ ap (λ (xs : List Entry). e ∷ xs) r.1, record { light = omega (arith, r.2.light); most = λ k. rw (add-one (suc r.0)) (let m : room - entry_weight e < weight_of (take (suc r.0) es) = rw (add-one r.0) at (r.2.most (omega arith)) in omega arith) })
    ]

pub fitting-is-longest : FittingIsLongest
fitting-is-longest room es = (longest room es, fitting-all room es)
