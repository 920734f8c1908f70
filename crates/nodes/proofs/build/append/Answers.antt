use Rattle.std.proofs.Common.{◌≡◌, ℕ, ◌+◌, ◌≤◌, List, [], ◌∷◌, length, sym, refl, ap, ◌∙◌, arith}
use Rattle.std.proofs.lemmas.List.{append-nil}
use Rattle.nodes.specs.Entries.{Entry, entry_of, entry_weight, weight_of}
use Rattle.nodes.specs.Page.{entries_of, weight_at, has_room}
use Rattle.nodes.proofs.Appending.{room-taken, room-left, all_in, cut_off}
use Rattle.nodes.proofs.Encode.{weight-append}
use Rattle.nodes.proofs.Nodes.{as-entries, entries-of, weight-at}
use Rattle.nodes.proofs.Puts.{append-steps}
use Rattle.nodes.proofs.build.append.Goals as goal

pub returns-then-not-has_room-clause-node : goal.returns-then-not-has_room-clause-node
returns-then-not-has_room-clause-node c =
    let e : Entry = entry_of c.args.key.now c.args.value.now in
    λ l es h.
    let w = ap weight_of (append-nil es) in
    cut_off c.args.page.now l es [] e [] (e ∷ []) refl (as-entries (sym (append-nil es)) h) (omega (arith, room-left e h (c.if-not-has_room.ensures ∙ ap (λ (p : List ℕ). has_room p e) c.new-node.ensures)))

pub returns-clause-node : goal.returns-clause-node
returns-clause-node c =
    let e : Entry = entry_of c.args.key.now c.args.value.now in
    let room = room-taken c.args.page.now e (c.if-not-has_room.ensures ∙ ap (λ (p : List ℕ). has_room p e) c.new-node.ensures) in
    λ l es h.
    let n : c.count-n.result ≡ length es = c.count-n.ensures ∙ ap (λ (p : List ℕ). length (entries_of p)) c.new-node.ensures ∙ ap length (entries-of h) in
    let w : c.from-w.result ≡ weight_of es = c.from-w.ensures ∙ c.weight.ensures.says ∙ ap weight_at c.new-node.ensures ∙ weight-at h in
    let f : weight_of es + entry_weight e ≤ 4088 = omega (arith, room.1, weight-at h) in
    all_in c.put_word-3.new.page l es (e ∷ [])
    (record {
      bytes = append-steps l c.count-n.result c.from-w.result es e c.args.page.now c.put_entry.new.page c.put_word.new.page c.put_word-2.new.page c.put_word-3.new.page
          h.bytes n w f c.put_entry.ensures c.put_word.ensures c.put_word-2.ensures c.put_word-3.ensures;
      fits = omega (arith, weight-append es (e ∷ []), f);
    })
