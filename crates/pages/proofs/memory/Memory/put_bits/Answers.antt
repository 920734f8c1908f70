use Rattle.std.proofs.Common.{ℕ, ◌+◌, ◌*◌, Bool, List, ◌++◌, take, ap, ◌∙◌, arith, rules}
use Rattle.paging.specs.Layout.{child}
use Rattle.paging.specs.Memory.{selected}
use Rattle.paging.specs.Sectors.{bits_to}
use Rattle.pages.specs.Of.{seen}
use Rattle.pages.proofs.Bytes.{made-at, bytes_are, second-half}
use Rattle.pages.proofs.memory.Memory.put_bits.Goals as goal

pub returns : goal.returns
returns c =
    let f : ℕ → Bool = λ b. selected (seen c.args.self.now) (child c.args.node b) in
    let made = made-at _ _ (λ t. bits_to 8 (λ i. f (8 * t + i))) (λ t y q e. (search rules, search rules)) _ 256 c.from_fn-bits.ensures.items in
    let e = bytes_are 256 c.from_fn-bits.result f c.from_fn-bits.ensures.items.long (λ t l. made t 0 l) in
    second-half c.args.sector.now c.copy_from_slice.new.self c.told-sector (omega arith) ∙ ap (λ (x : List ℕ). take 256 c.args.sector.now ++ x) (c.copy_from_slice.ensures.after ∙ e)
