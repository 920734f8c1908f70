use Rattle.paging.specs.Store.{store_flow}
use Rattle.pages.proofs.serve.StorePages.put_through.Goals as goal

pub returns : goal.returns
unfolding store_flow
returns g c = c.put.ensures
