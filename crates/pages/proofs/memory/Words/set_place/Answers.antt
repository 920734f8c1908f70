use Rattle.std.proofs.Common.{ℕ, ◌+◌, ◌*◌, ◌/◌, ap, refl, get_or}
use Rattle.pages.specs.Words.{ram}
use Rattle.pages.proofs.Setting.{place-set}
use Rattle.pages.proofs.memory.Words.set_place.Goals as goal

pub returns : goal.returns
returns c =
    let s = c.args.self.now in
    record {
      is = λ l n. place-set (ram s.card.sectors s.cells.now l n) c.args.version c.args.n _ _ c.word.result _ s.fits c.requires.0 c.word.ensures.value refl c.requires.1
          (ap (λ (v : ℕ). v + 274877906944 * (get_or s.cells.now (2 * c.args.n + c.word.result) 0 / 274877906944)) c.number_of.ensures);
      size = refl;
    }
