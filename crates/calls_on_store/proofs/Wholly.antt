-- A layer on the cache and the store that is right above its judge, at prices within the bounds, keeps the whole promise.
-- Assumes nothing.
use Rattle.std.proofs.Common.{ℕ, ◌+◌, ◌*◌, ◌≤◌, Bool, arith}
use Rattle.device.specs.Layer.{Layer, over}
use Rattle.device.specs.Priced.{PricedLayer}
use Rattle.device.proofs.Prices.{keeps, within, tied, priced-over}
use Rattle.paging.specs.Layout.{last_node}
use Rattle.paging.specs.Pages.{PageCall, PageReply}
use Rattle.paging.specs.Store.{store}
use Rattle.paging.specs.Judge.{kept, price}
use Rattle.paging.specs.Judge as pages
use Rattle.paging.proofs.Store.{priced}
use Rattle.caching.specs.Cache.{cache_layer}
use Rattle.caching.proofs.Layers.{cache-kept}
use Rattle.model.specs.Calls.{Call, Reply, State}
use Rattle.calls.specs.Promise.{files, deepest, Whole}

module _ {can : Call → Bool} {l : Layer PageCall PageReply Call Reply} {opening : ℕ → ℕ} {price' : (size : ℕ) → State → Call → ℕ} {Off : (size : ℕ) → pages.State → State → Type 0} {On : (size : ℕ) → l.Mem → pages.State → State → Type 0}
    (layer : PricedLayer kept (files can) l opening price price' Off On)
    (soon : (size : ℕ) → 8192 ≤ size → 64 * (1 + last_node size + opening size) ≤ 4096 + size)
    (few : (size : ℕ) (s : State) (c : Call) → price' size s c ≤ 1048576 + 64 * deepest s.now s.now.nodes) where
  pub wholly : (frames : ℕ) → Whole can (over (over store (cache_layer frames)) l)
  wholly frames =
      let p = priced-over (priced-over priced (cache-kept frames)) layer in (
        keeps p,
        within p,
        λ size low high es d t.
            let (s, a, o) = tied p size low high t in
            let (f, on, r) = p.comes_up size low high d s o in
            let q = soon size low in
            omega arith,
        λ size low high es m d t.
            let (s, a, o) = tied p size low high t in (
              s,
              a,
              λ c.
                  let (f, r, more) = p.answers size m d s o c in
                  let q = few size s c in
                  omega arith,
            ),
      )
