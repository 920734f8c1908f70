use Rattle.std.proofs.Common.{◌≡◌, ℕ, ◌+◌, ◌-◌, List, get_or, drop, sym, ap, ◌∙◌, arith}
use Rattle.nodes.specs.Entries.{Entry, blank, entry_of, entry_weight, front_count}
use Rattle.nodes.specs.Page.{entries_of}
use Rattle.nodes.proofs.Entries.{next-entry}
use Rattle.nodes.proofs.Fronts.{front-on, front-none, front-enough, weight-more}
use Rattle.nodes.proofs.read.NodePage.front_count.Goals as goal

pub overflow_add-front-in-loop-key-2 : goal.overflow_add-front-in-loop-key-2
overflow_add-front-in-loop-key-2 c =
    let n = next-entry c.args.self.now.page.now c.loop-key.front.count (entry_of c.in-Some.key.now c.in-Some.value.now) c.next.new.self (sym c.loop-key.invariant.0 ∙ c.in-Some.ensures.steps) in
    omega (arith, n.light, c.args.self.now.whole)

pub overflow_add-front-in-loop-key-3 : goal.overflow_add-front-in-loop-key-3
overflow_add-front-in-loop-key-3 c =
    let n = next-entry c.args.self.now.page.now c.loop-key.front.count (entry_of c.in-Some.key.now c.in-Some.value.now) c.next.new.self (sym c.loop-key.invariant.0 ∙ c.in-Some.ensures.steps) in
    omega (arith, n.light, n.within, c.args.self.now.whole, c.loop-key.invariant.3)

pub loop-key-preserved : goal.loop-key-preserved
loop-key-preserved c =
    let es : List Entry = entries_of c.args.self.now.page.now in
    let i : ℕ = c.loop-key.front.count in
    let e : Entry = entry_of c.in-Some.key.now c.in-Some.value.now in
    let n = next-entry c.args.self.now.page.now i e c.next.new.self (sym c.loop-key.invariant.0 ∙ c.in-Some.ensures.steps) in
    let g : entry_weight e ≡ entry_weight (get_or es i blank) = ap entry_weight n.is in
    let a = front-on (c.args.target - c.loop-key.front.weight) es i n.within (omega arith) in
    let r : c.args.target - c.loop-key.front.weight - entry_weight (get_or es i blank) ≡ c.args.target - (c.loop-key.front.weight + entry_weight e) = omega (arith, g) in
    let s = ap (λ (t : ℕ). front_count t (drop (i + 1) es)) r in
    let m = weight-more es i n.within in
    (n.left, omega (arith, a, s, c.loop-key.invariant.1), omega (arith, m, g, c.loop-key.invariant.2), omega (arith, n.light, c.args.self.now.whole, c.loop-key.invariant.3), omega (arith, n.within))

pub returns-in-None-clause-count : goal.returns-in-None-clause-count
returns-in-None-clause-count c =
    let none = ap (front_count (c.args.target - c.loop-key.front.weight)) (sym c.loop-key.invariant.0 ∙ c.in-None.ensures.steps.0) in
    omega (arith, none, front-none (c.args.target - c.loop-key.front.weight), c.loop-key.invariant.1)

pub returns-then-front-target-clause-count : goal.returns-then-front-target-clause-count
returns-then-front-target-clause-count c =
    omega (arith, front-enough (c.args.target - c.loop-key.front.weight) (drop c.loop-key.front.count (entries_of c.args.self.now.page.now)) (omega arith), c.loop-key.invariant.1)
