use Rattle.std.proofs.Common.{rules, refl, ◌<◌, ℕ, cond, count_by, arith}
use Rattle.std.proofs.lemmas.Iterator.{YieldsList-from_slice, YieldsList-from_map}
use Rattle.std.proofs.lemmas.Iterator.Consumers.{YieldsList-at, fits_by_from_yields_list}
use Rattle.std.proofs.lemmas.List.Sums.{count_by-le-length}
use Rattle.caching.specs.declared.Tag.{Tag}
use Rattle.caching.specs.Frames.{unwritten}
use Rattle.cache.proofs.frames.Frames.marks.Goals as goal

pub sum-marks-requires-clause-fits : goal.sum-marks-requires-clause-fits
sum-marks-requires-clause-fits c =
    let h : Tag → ℕ = λ t. cond (unwritten t) 1 0 in
    let xs = c.iter.result.rest.now in
    let b : count_by unwritten xs < 256 = omega (arith, count_by-le-length unwritten xs) in
    fits_by_from_yields_list h xs c.map.result _ (YieldsList-from_map _ h (YieldsList-at c.map.ensures.source (YieldsList-from_slice xs refl)) c.map.ensures.closure (λ x r q k. search rules)) b
