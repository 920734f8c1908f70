use Rattle.std.proofs.Common.{◌≤◌, suc, ap, ◌∙◌, arith}
use Rattle.paging.specs.Layout.{one, rooms}
use Rattle.pages.specs.Of.{seen}
use Rattle.pages.proofs.Counts.{from-bool, one-le}
use Rattle.pages.proofs.Kept.{claimed-good, left-enough, left-small}
use Rattle.pages.proofs.memory.Memory.claim.Goals as goal

pub overflow_add-self : goal.overflow_add-self
overflow_add-self c = let a = left-small (seen c.args.self.now) c.args.self.now.places in let e = c.from.ensures ∙ from-bool c.is_vacant-will.result in let b = one-le c.is_vacant-will.result in omega (arith, c.args.self.now.words.card.size.1)

pub overflow_sub-self : goal.overflow_sub-self
overflow_sub-self c =
    let h : suc c.in-Some.p ≤ rooms c.args.self.now.words.card.sectors = rw c.in-Some.is at c.requires in
    let a = left-enough (seen c.args.self.now) c.in-Some.p c.args.self.now.places (omega arith) in
    let e = c.from-2.ensures ∙ (from-bool c.is_vacant-was.result ∙ ap one c.is_vacant-was.ensures) in
    omega arith

pub invariant_of-self : goal.invariant_of-self
invariant_of-self c =
    let h : suc c.in-Some.p ≤ rooms c.args.self.now.words.card.sectors = rw c.in-Some.is at c.requires in
    let g = claimed-good c.args.self.now c.set.new.self c.in-Some.p _ _ c.args.had _ _ c.is_vacant-was.ensures c.from.ensures c.from-2.ensures c.args.version c.owner.result c.owner.ensures h c.set.ensures c.is_vacant-will.ensures in
    record { places = g.0; inside = g.1 }

pub returns : goal.returns
returns c =
    let h : suc c.in-Some.p ≤ rooms c.args.self.now.words.card.sectors = rw c.in-Some.is at c.requires in
    let g = claimed-good c.args.self.now c.set.new.self c.in-Some.p _ _ c.args.had _ _ c.is_vacant-was.ensures c.from.ensures c.from-2.ensures c.args.version c.owner.result c.owner.ensures h c.set.ensures c.is_vacant-will.ensures in
    rw c.in-Some.is (record { is = g.2; size = c.set.ensures.size })
