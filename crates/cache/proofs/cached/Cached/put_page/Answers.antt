use Rattle.std.proofs.Common.{arith}
use Rattle.device.specs.Flow.{is}
use Rattle.device.proofs.Loops.{taken}
use Rattle.pages.proofs.Bytes.{can-put}
use Rattle.cache.specs.Serving.{cache_of}
use Rattle.cache.proofs.Served.{can}
use Rattle.cache.proofs.cached.Cached.put_page.Goals as goal

pub returns : goal.returns
returns g c =
    let b = c.args.bytes.now in
    taken (is _) (can c.args.n b (cache_of c.args.self.now) (omega arith) (can-put b 4096 c.told-bytes c.fits-bytes)) (c.left-left.result, c.left-left.new.self, c.left-left.ensures, c.put_with.ensures)
