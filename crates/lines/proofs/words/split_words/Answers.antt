use Rattle.std.proofs.Common.{◌+◌, ◌-◌, ◌++◌, take, drop, vec_items, ap, ◌∙◌, arith}
use Rattle.lines.specs.Words.{cut}
use Rattle.lines.specs.Of.{words_in}
use Rattle.lines.proofs.Cuts.{space-turn, solid-turn, last_turn}
use Rattle.lines.proofs.words.split_words.Goals as goal
use Rattle.lines.proofs.words.split_words.Goals.{then-b-eq-SPACE+in_ok-end_word, else-b-eq-SPACE}

pub loop-i-preserved : goal.loop-i-preserved
loop-i-preserved c =
    let xs = c.without_return-line.result.now in
    elim c.if-b-eq-SPACE.branch [
      | then-b-eq-SPACE+in_ok-end_word w ↦ (
        omega (arith, w.start-is),
        space-turn (words_in (vec_items c.loop-i.words)) _ xs c.loop-i.start c.loop-i.i _ _ c.loop-i-test.true w.if-b-eq-SPACE.true w.start-is (ap (λ v. words_in (vec_items v)) w.words-is ∙ w.in_ok-end_word.ensures) c.loop-i.invariant.1,
      )
      | else-b-eq-SPACE w ↦ (
        omega (arith, w.start-is),
        ap (λ v. words_in (vec_items v) ++ cut (drop (c.loop-i.i + 1) xs) (take (c.loop-i.i + 1 - c.if-b-eq-SPACE.start) (drop c.if-b-eq-SPACE.start xs))) w.words-is ∙ solid-turn (words_in (vec_items c.loop-i.words)) xs c.loop-i.start c.loop-i.i _ _ c.loop-i.invariant.0 c.loop-i-test.true w.if-b-eq-SPACE.false w.start-is c.loop-i.invariant.1,
      )
    ]

pub returns : goal.returns
returns c =
    last_turn (words_in (vec_items c.loop-i.words)) _ c.without_return-line.result.now c.args.line.now c.loop-i.start c.loop-i.i c.loop-i-test.false c.loop-i.auto.i-end c.without_return-line.ensures c.in_ok-end_word-2.ensures c.loop-i.invariant.1
