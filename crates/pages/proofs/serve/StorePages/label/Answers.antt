use Rattle.std.proofs.Common.{refl}
use Rattle.paging.specs.Store.{store_flow}
use Rattle.pages.specs.Of.{seen}
use Rattle.pages.specs.Serving.{stored_of}
use Rattle.pages.proofs.Served.{label-told}
use Rattle.pages.proofs.serve.StorePages.label.Goals as goal

pub returns : goal.returns
unfolding store_flow
returns g c = let s = c.args.self.now in (refl, λ j. (label-told s.label (seen s.memory) j, stored_of s))
