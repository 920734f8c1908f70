use Rattle.std.proofs.Common.{◌≡◌, ℕ, ◌+◌, Bool, [], ◌∷◌, refl, sym, ap, ◌∙◌, rules}
use Rattle.std.proofs.lemmas.Fn.{fold_over}
use Rattle.std.specs.List.{fold}
use Rattle.std.specs.Iterator.Adapters.{rev_steps}
use Rattle.std.proofs.lemmas.List.Sums.{fold-append}
use Rattle.std.specs.declared.ops.Range.{Range}
use Rattle.paging.specs.Layout.{child}
use Rattle.paging.specs.Memory.{selected}
use Rattle.pages.specs.Of.{seen}
use Rattle.pages.proofs.Bytes.{bits_none, range-down, bits-down, bit_in, back, down}
use Rattle.pages.proofs.memory.Memory.bits_byte.Goals as goal

pub returns : goal.returns
returns c =
    let f : ℕ → Bool = λ i. selected (seen c.args.self.now) (child c.args.node (c.args.first + i)) in
    let r = c.rev.ensures.source in
    let d = range-down 8 c.rev.result (ap (λ (p : Range ℕ). p.start) r) (ap (λ (p : Range ℕ). p.end) r) in
    fold_over (rev_steps back) (λ x. x) _ (λ xs v. v ≡ fold (bit_in f) 0 xs) _ (λ ys a x b f' j k. (search rules ∙ ap (λ v. bit_in f v x) j ∙ sym (fold-append (bit_in f) 0 ys (x ∷ [])), search rules)) c.rev.result (down 8) 0 c.fold.result d refl c.fold.ensures.ran ∙ bits-down f 8 0 0 refl (bits_none _)
