use Rattle.std.proofs.Common.{refl}
use Rattle.pages.specs.Words.{ram}
use Rattle.pages.proofs.Setting.{flag-set}
use Rattle.pages.proofs.memory.Words.set.Goals as goal

pub returns : goal.returns
returns c =
    let s = c.args.self.now in
    record { is = λ l n. flag-set (ram s.card.sectors s.cells.now l n) c.args.flag c.args.i _ _ c.word.result c.bit.result c.args.on s.fits c.requires c.word.ensures.value refl c.bit.ensures.value c.with_bit.ensures; size = refl }
