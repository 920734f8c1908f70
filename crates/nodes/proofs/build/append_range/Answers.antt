use Rattle.std.proofs.Common.{◌≡◌, List, [], ◌∷◌, ◌++◌, sym, refl, ap, ◌∙◌, append_assoc}
use Rattle.std.specs.List.{between}
use Rattle.std.proofs.lemmas.List.{append-nil}
use Rattle.std.proofs.lemmas.Result.{err_from_is_err_and}
use Rattle.nodes.specs.Entries.{Entry, entry_of}
use Rattle.nodes.specs.Page.{entries_of}
use Rattle.nodes.proofs.Appending.{room-left, all_in, cut_off}
use Rattle.nodes.proofs.Nodes.{as-entries, as-page}
use Rattle.nodes.proofs.build.append_range.Goals as goal

pub loop-key-preserved : goal.loop-key-preserved
loop-key-preserved c =
    let done : List Entry = c.loop-key.invariant.0 in
    let e : Entry = entry_of c.in-Some.key.now c.in-Some.value.now in (
      done ++ (e ∷ []),
      c.loop-key.invariant.1 ∙ ap (λ (xs : List Entry). done ++ xs) c.in-Some.ensures.steps ∙ sym (append_assoc done (e ∷ []) c.next.new.self),
      λ m es h. as-entries (append_assoc es done (e ∷ [])) ((c.in_ok-append.ensures.node m (es ++ done) (c.loop-key.invariant.2 m es h)).whole refl),
    )

pub returns-in_err-append : goal.returns-in_err-append
returns-in_err-append c =
    let done : List Entry = c.loop-key.invariant.0 in
    let e : Entry = entry_of c.in-Some.key.now c.in-Some.value.now in
    let t = c.in_err-append.ensures in
    let p = err_from_is_err_and c.from_residual.result c.from_residual.ensures.1 in
    rw p.1 (
    λ l es h.
    let n = c.loop-key.invariant.2 l es h in
    cut_off c.append.new.page l es done e c.next.new.self (between c.args.places.start c.args.places.end (entries_of c.args.src.now.page.now))
    (c.loop-key.invariant.1 ∙ ap (λ (xs : List Entry). done ++ xs) c.in-Some.ensures.steps)
    (as-page (t.kept refl) n)
    (room-left e n t.told))

pub returns : goal.returns
returns c =
    let done : List Entry = c.loop-key.invariant.0 in
    let all : between c.args.places.start c.args.places.end (entries_of c.args.src.now.page.now) ≡ done =
    c.loop-key.invariant.1 ∙ ap (λ (xs : List Entry). done ++ xs) c.in-None.ensures.steps.0 ∙ append-nil done in
    λ l es h.
    all_in c.loop-key.dst l es (between c.args.places.start c.args.places.end (entries_of c.args.src.now.page.now)) (as-entries (ap (λ (xs : List Entry). es ++ xs) (sym all)) (c.loop-key.invariant.2 l es h))
