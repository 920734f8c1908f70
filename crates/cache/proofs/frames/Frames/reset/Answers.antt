use Rattle.std.proofs.Common.{◌≡◌, ℕ, length, replicate, List, ap}
use Rattle.paging.specs.Pages.{blank_page}
use Rattle.caching.specs.Frames.{Cache}
use Rattle.caching.specs.declared.Tag.TheVariants.{Free}
use Rattle.cache.proofs.Loops.{same-items}
use Rattle.cache.proofs.frames.Frames.reset.Goals as goal

pub returns : goal.returns
returns c =
    let s = c.args.self.now in
    let f : c.fill.new.self ≡ replicate (length s.bytes.now) blank_page = c.fill.ensures.after (λ y e. same-items _ _ e.whole) in
    let m : List (List ℕ) → Cache = λ b. record { numbers = c.args.numbers; frames = b; tags = replicate 128 Free; hand = 0 } in
    ap m f
