use Rattle.std.proofs.Common.{◌≡◌, Bool, ◌||◌, take, sym, ap, ◌∙◌}
use Rattle.std.proofs.lemmas.Bool.{or_left}
use Rattle.device.specs.Sectors.{blank_sector}
use Rattle.paging.specs.Pages.{same_bytes}
use Rattle.paging.specs.Sectors.{form_bytes}
use Rattle.pages.proofs.Bytes.{same-is, starts-is}
use Rattle.pages.proofs.sectors.root_known.Goals as goal

pub returns-then-starts_with : goal.returns-then-starts_with
returns-then-starts_with c =
    let e = starts-is c.args.root.now form_bytes c.starts_with.result c.starts_with.ensures.value in
    c.if-starts_with.true ∙ sym (or_left (same_bytes (take 8 c.args.root.now) form_bytes) (same_bytes c.args.root.now blank_sector) (sym e ∙ c.if-starts_with.true))

pub returns-else-starts_with : goal.returns-else-starts_with
returns-else-starts_with c =
    let e : c.starts_with.result ≡ same_bytes (take 8 c.args.root.now) form_bytes = starts-is c.args.root.now form_bytes c.starts_with.result c.starts_with.ensures.value in
    let f : c.eq.result ≡ same_bytes c.args.root.now blank_sector = same-is c.args.root.now blank_sector c.eq.result c.eq.ensures in
    f ∙ sym (ap (λ (b : Bool). b || same_bytes c.args.root.now blank_sector) (sym e ∙ c.if-starts_with.false))
