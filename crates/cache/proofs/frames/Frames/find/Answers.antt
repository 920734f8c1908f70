use Rattle.std.proofs.Common.{rules, ◌≡◌, ◌-◌, true, false, length, get_or, take, ap, ◌∙◌, arith}
use Rattle.std.proofs.lemmas.Grind.{common_steps}
use Rattle.caching.specs.declared.Tag.TheVariants.{Free}
use Rattle.caching.specs.Frames.{holds, count}
use Rattle.cache.specs.Of.{seen}
use Rattle.cache.proofs.Loops.{found, in_part, from-back}
use Rattle.cache.proofs.frames.Frames.find.Goals as goal

pub returns-clause-is : goal.returns-clause-is
returns-clause-is c =
    let s = c.args.self.now in
    let xs = c.iter.result.rest.now in
    let n = length xs in
    let t : xs ≡ take (count (seen s)) s.tags = c.iter.ensures.rest ∙ ap (λ k. take k s.tags) c.count.ensures in
    let m : length xs ≡ count (seen s) = omega arith in
    found s.tags c.args.n (count (seen s)) c.rposition.result (λ e k l. in_part s.tags xs (count (seen s)) k c.args.n false t l (grind (arith, common_steps)))
    (λ i e.
    let r = rw e at c.rposition.ensures.runs in
    let w : r.0.from.rest.now ≡ xs = ap (λ s. s.rest.now) r.1 in
    let v : length r.0.from.rest.now ≡ n = ap length w in
    let b = rw e at c.rposition.ensures.bound in
    let calls = r.2.1 (λ x y f p. search rules) in
    let q = c.iter.ensures.runs_back r.0 r.0.seen in
    let h : holds (get_or xs i Free) c.args.n ≡ true = from-back xs r.0.from.rest.now r.0.at i c.args.n true _ w (q.2 i Free (omega arith) (omega arith)) calls.0 (λ y z. search rules) in (
      omega arith,
      in_part s.tags xs (count (seen s)) i c.args.n true t (omega arith) h,
      λ k l j. in_part s.tags xs (count (seen s)) k c.args.n false t j (from-back xs r.0.from.rest.now r.0.at k c.args.n false _ w (q.2 k Free (omega arith) (omega arith)) (calls.1 (n - 1 - k) (omega arith)) (λ y z. search rules)),
    ))
