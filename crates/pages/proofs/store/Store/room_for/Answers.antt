use Rattle.std.proofs.Common.{◌≤◌, arith}
use Rattle.paging.specs.Layout.{rooms}
use Rattle.pages.specs.Flags.{as_place}
use Rattle.pages.specs.Of.{seen}
use Rattle.pages.proofs.Looks.{target-le}
use Rattle.pages.proofs.store.Store.room_for.Goals as goal

pub returns-clause-within : goal.returns-clause-within
returns-clause-within g c =
    let m = c.args.self.now.memory in
    let n : as_place c.place.result ≤ rooms m.words.card.sectors = omega (arith, c.place.ensures, m.places.0 c.args.n) in
    let r = target-le (seen m) (as_place c.place.result) n in
    omega (arith, c.target.ensures)
