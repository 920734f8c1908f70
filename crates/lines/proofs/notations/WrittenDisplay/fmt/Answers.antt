use Rattle.std.proofs.Common.{◌≡◌, List, ℕ, ◌++◌, ap, ◌∙◌, sym, append_assoc, rules}
use Rattle.std.proofs.Output.{has_written_append}
use Rattle.std.proofs.lemmas.List.Concat.{flat_map-append}
use Rattle.lines.specs.declared.notations.Notation.{Notation}
use Rattle.lines.specs.Bytes.{byte_text, all_text}
use Rattle.lines.proofs.notations.WrittenDisplay.fmt.Goals as goal

-- the text of a part is written too
part-written : (n : Notation) (part rest all done text whole : List ℕ) → all ≡ part ++ rest → text ≡ all_text n part → done ++ all_text n all ≡ whole → (done ++ text) ++ all_text n rest ≡ whole
part-written n part rest all done text whole p t e =
    append_assoc done text (all_text n rest) ∙ ap (λ (u : List ℕ). done ++ u) (ap (λ (u : List ℕ). u ++ all_text n rest) t ∙ sym (flat_map-append (byte_text n) part rest) ∙ ap (all_text n) (sym p)) ∙ e

pub loop-bytes-preserved : goal.loop-bytes-preserved
loop-bytes-preserved g c =
    let steps = c.in-Some.ensures.steps in (
      search rules,
      tt,
      steps.0 ∙ c.loop-bytes.invariant.2,
      λ plain.
          let so_far = c.loop-bytes.invariant.3 plain in (
            so_far.0 ++ c.in-Ok.text.now,
            has_written_append _ _ _ _ _ _ so_far.1 (search rules),
            part-written c.args.self.now.notation _ _ _ so_far.0 c.in-Ok.text.now _ steps.1.0 (c.in-Ok.ensures.cases.0 ∙ c.put_all-end.ensures.text) so_far.2,
          ),
    )
