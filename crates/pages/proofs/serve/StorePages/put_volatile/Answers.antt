use Rattle.paging.specs.Store.{store_flow}
use Rattle.pages.proofs.serve.StorePages.put_volatile.Goals as goal

pub returns : goal.returns
unfolding store_flow
returns g c = c.put_page.ensures
