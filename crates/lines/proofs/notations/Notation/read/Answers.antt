use Rattle.std.proofs.Common.{true, false, None, Ok, Err, vec_items, sym, ap, ◌∙◌}
use Rattle.lines.proofs.Readings.{turn, none_read, same, bytes_read, read-end, read-fails}
use Rattle.lines.proofs.notations.Notation.read.Goals as goal

pub returns-then-eq : goal.returns-then-eq
returns-then-eq c =
    let w = c.args.word.now in
    none_read c.args.self w (same w _ _ _ true c.eq.ensures (c.as_bytes.ensures.value ∙ c.no_bytes.ensures) c.if-eq.true) ∙ ap Ok (sym c.new-bytes.ensures.items)

pub loop-byte-preserved : goal.loop-byte-preserved
loop-byte-preserved c = turn c.args.self _ _ c.loop-byte.rest.now (c.in-Some.byte, c.in-Some.after.now) _ (sym c.in-Some.ensures) c.in_ok-push.ensures.items c.loop-byte.invariant

pub returns-then-is_empty : goal.returns-then-is_empty
returns-then-is_empty c =
    let w = c.args.word.now in
    let d = same w _ _ _ false c.eq.ensures (c.as_bytes.ensures.value ∙ c.no_bytes.ensures) c.if-eq.false in
    bytes_read c.args.self w _ d (read-end c.args.self (vec_items c.loop-byte.bytes) c.loop-byte.rest.now _ (sym c.if-is_empty.ensures) c.loop-byte.invariant)

pub returns-else-is_empty : goal.returns-else-is_empty
returns-else-is_empty c =
    let w = c.args.word.now in
    let d = same w _ _ _ false c.eq.ensures (c.as_bytes.ensures.value ∙ c.no_bytes.ensures) c.if-eq.false in
    let e = bytes_read c.args.self w None d (read-fails c.args.self _ c.loop-byte.rest.now _ (sym c.if-is_empty.ensures) c.in_default.ensures c.loop-byte.invariant) in
    rw c.into.ensures (e ∙ ap Err (sym c.fault.ensures))
