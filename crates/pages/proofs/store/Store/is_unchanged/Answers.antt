use Rattle.std.proofs.Common.{Bool, not, ◌&&◌, sym, ap, ◌∙◌}
use Rattle.paging.specs.Pages.{same_bytes}
use Rattle.pages.specs.Of.{seen}
use Rattle.pages.proofs.Bytes.{can-put, same-is}
use Rattle.pages.proofs.Served.{unchanged-is}
use Rattle.pages.proofs.store.Store.is_unchanged.Goals as goal

pub returns-then-not-has : goal.returns-then-not-has
returns-then-not-has g c =
    let s = c.args.self.now in
    same-is c.args.label.now c.in-Some.last c.eq.result c.eq.ensures ∙ sym (unchanged-is s.label (seen s.memory) c.args.label.now c.in-Some.last c.has.result (can-put c.args.label.now 248 c.told-label c.fits-label) c.in-Some.is c.has.ensures ∙
    ap (λ (b : Bool). not b && same_bytes c.args.label.now c.in-Some.last) c.if-not-has.true)

pub returns-else-not-has : goal.returns-else-not-has
returns-else-not-has g c =
    let s = c.args.self.now in
    let e = unchanged-is s.label (seen s.memory) c.args.label.now c.in-Some.last c.has.result (can-put c.args.label.now 248 c.told-label c.fits-label) c.in-Some.is c.has.ensures in
    ap not c.if-not-has.false ∙ sym (e ∙ ap (λ (b : Bool). not b && same_bytes c.args.label.now c.in-Some.last) c.if-not-has.false)
