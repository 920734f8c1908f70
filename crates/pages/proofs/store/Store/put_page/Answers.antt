use Rattle.std.proofs.Common.{sym, ◌∙◌}
use Rattle.pages.specs.Of.{seen}
use Rattle.pages.proofs.Bytes.{can-put}
use Rattle.pages.proofs.Served.{put-blank, put-near, put-far}
use Rattle.pages.proofs.store.Store.put_page.Goals as goal

pub returns-then-is_blank : goal.returns-then-is_blank
returns-then-is_blank g c =
    let s = c.args.self.now in
    put-blank g.D.Device.steps s.label (seen s.memory) s.device c.args.n c.args.bytes.now c.args.volatile (sym c.has.ensures ∙ c.if-not-has.false) (can-put c.args.bytes.now 4096 c.told-bytes c.fits-bytes) (seen c.move_page.new.self)
    c.is_blank.result c.is_blank.ensures c.if-is_blank.true c.move_page.ensures.is

pub returns-then-is_some : goal.returns-then-is_some
returns-then-is_some g c =
    let s = c.args.self.now in
    put-near g.D.Device.steps s.label (seen s.memory) s.device c.args.n c.args.bytes.now c.args.volatile (sym c.has.ensures ∙ c.if-not-has.false) (can-put c.args.bytes.now 4096 c.told-bytes c.fits-bytes) c.is_blank.result c.is_blank.ensures
    c.if-is_blank.false c.room_for-near.result c.room_for-near.ensures.is c.put_into.new.self.device _ (sym c.is_some.ensures ∙ c.if-is_some.true) c.put_into.ensures

pub returns : goal.returns
returns g c =
    let s = c.args.self.now in
    let t = c.reclaim_pages.new.self in
    put-far g.D.Device.steps s.label (seen s.memory) s.device c.args.n c.args.bytes.now c.args.volatile (sym c.has.ensures ∙ c.if-not-has.false) (can-put c.args.bytes.now 4096 c.told-bytes c.fits-bytes) c.is_blank.result c.is_blank.ensures
    c.if-is_blank.false c.room_for-near.result c.room_for-near.ensures.is t.label c.room_for-far.result t.device c.put_into-2.new.self.device (seen t.memory)
    _ (sym c.is_some.ensures ∙ c.if-is_some.false) c.reclaim_pages.ensures.label c.reclaim_pages.ensures.runs c.room_for-far.ensures.is c.put_into-2.ensures
