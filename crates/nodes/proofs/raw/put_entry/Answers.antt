use Rattle.std.proofs.Common.{◌≡◌, ℕ, ◌+◌, List, ◌++◌, length, ap, ◌∙◌, append_assoc, arith, length-append}
use Rattle.nodes.specs.Page.{two_bytes, put_at}
use Rattle.nodes.proofs.Puts.{put_at-put_at}
use Rattle.nodes.proofs.raw.put_entry.Goals as goal

pub returns : goal.returns
returns c =
    let p : List ℕ = c.args.page.now in
    let k : List ℕ = c.args.key.now in
    let v : List ℕ = c.args.value.now in
    let at : ℕ = c.args.at in
    let a : c.put.new.page ≡ put_at at (two_bytes (length k) ++ k) p =
    c.put.ensures ∙ ap (put_at (at + 2) k) c.put_word.ensures ∙ put_at-put_at p (two_bytes (length k)) k at (at + 2) (omega arith) (omega arith) in
    let b : c.put_word-2.new.page ≡ put_at at ((two_bytes (length k) ++ k) ++ two_bytes (length v)) p =
    c.put_word-2.ensures ∙ ap (put_at (at + 2 + length k) (two_bytes (length v))) a ∙ put_at-put_at p (two_bytes (length k) ++ k) (two_bytes (length v)) at (at + 2 + length k) (omega arith) (omega arith) in
    let d : c.put-2.new.page ≡ put_at at (((two_bytes (length k) ++ k) ++ two_bytes (length v)) ++ v) p =
    c.put-2.ensures ∙ ap (put_at (at + 2 + length k + 2) v) b ∙ put_at-put_at p ((two_bytes (length k) ++ k) ++ two_bytes (length v)) v at (at + 2 + length k + 2) (omega arith) (omega (arith, length-append (two_bytes (length k) ++ k) (two_bytes (length v)))) in
    d ∙ ap (λ (x : List ℕ). put_at at x p) (append_assoc (two_bytes (length k) ++ k) (two_bytes (length v)) v ∙ append_assoc (two_bytes (length k)) k (two_bytes (length v) ++ v))
