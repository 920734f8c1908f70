use Rattle.std.proofs.Common.{length, ap, ◌∙◌, subst}
use Rattle.std.specs.Option.{option_map}
use Rattle.pages.specs.Serving.{words_of}
use Rattle.cache.specs.Opening.{ComesUp, store_below, frames_of}
use Rattle.calls_on_store.specs.Of.{raised, kept, device_below}
use Rattle.calls_on_store.proofs.Played.{fault, ok_before, plays-open, up-runs, up-told}
use Rattle.calls_on_store.proofs.FileSystem.open.Goals as goal

pub returns : goal.returns
returns g c =
    let steps = g.D.Device.steps in
    let sectors = c.args.sectors in
    let before = c.args.pages.now in
    let up = c.open.new.self in
    let after = c.label-label.new.self in
    let label = c.label-label.result in
    let reads = c.in_ok-reads.reads in
    let came = subst (λ r. ComesUp steps sectors before up r) (ok_before _ c.open.result reads c.in_ok-reads.ensures.cases) c.open.ensures in
    let (fine, ran) = came.0 in
    let bare = came.1 in (
      fault sectors (length c.args.work.now) (words_of (store_below before)) c.if-work-lt-WORK_PAGES.false ∙ ap (option_map raised) fine,
      plays-open steps (frames_of before) sectors reads (device_below before) up after (kept label) ran bare (up-runs steps up after label c.label-label.ensures),
      up-told steps sectors reads (device_below before) up after label ran c.label-label.ensures,
    )
