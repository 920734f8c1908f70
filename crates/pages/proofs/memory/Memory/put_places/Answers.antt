use Rattle.std.proofs.Common.{ℕ, ◌+◌, [], ◌∙◌, rules}
use Rattle.paging.specs.Memory.{durable}
use Rattle.paging.specs.Sectors.{bytes_le}
use Rattle.pages.specs.Of.{seen}
use Rattle.pages.proofs.Bytes.{made-at, places_are}
use Rattle.pages.proofs.memory.Memory.put_places.Goals as goal

pub returns : goal.returns
returns c =
    let f : ℕ → ℕ = λ j. durable (seen c.args.self.now) (c.args.first + j) in
    let items = c.from_fn-places.ensures.items in
    let made = made-at _ _ (λ j. bytes_le 8 (f j)) (λ j y q e. (search rules, search rules)) _ 64 items in
    c.copy_from_slice.ensures.after ∙ (c.as_flattened.ensures.value ∙ places_are 64 c.from_fn-places.result f items.long (λ j l. made j [] l))
