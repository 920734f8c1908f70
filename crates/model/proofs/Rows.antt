-- The worked examples, computed.
-- Assumes nothing.
use Rattle.std.proofs.Common.{List, [], ◌∷◌, sym, refl, subst}
use mathlib.Core.List.{Memᴰ}
use Rattle.model.specs.Tree.{some, every, keep, same_name, less_name, body_in, put_body, entries_of, is_folder, is_file, is_link, bytes_of, parent_of, lookup, insert_entry, count_entries, count_names, is_above, entries_weight, data_weight, name_weight}
use Rattle.model.specs.Walk.{components, components_fit, target_of, start_of, at_end, by_link, by_entry, step, came, steps}
use Rattle.model.specs.Calls.{handle_of, lowest_free, written, is_empty, opens, closes, reads, writes, resizes, told_of, stats, stats_open, makes_folder, removes, removes_folder, next_in, next_names, renames, joins, makes_link, reads_link, last_component, follows, does}
use Rattle.model.specs.Answers.{synced}
use Rattle.model.specs.Examples.{replies, after, table, cut_table, weight_table, Answered, Left, Weighed, ExamplesHold}

abbrev All : {A : Type 0} → (A → Type 0) → List A → Type 0
All P [] = Unit
All P (x ∷ xs) = P x × All P xs

computed : All Answered table × All Left cut_table × All Weighed weight_table
unfolding some every keep same_name less_name body_in put_body entries_of is_folder is_file is_link bytes_of parent_of lookup insert_entry count_entries count_names is_above components components_fit target_of start_of at_end by_link by_entry step came steps handle_of lowest_free written is_empty opens closes reads writes resizes told_of stats stats_open makes_folder removes removes_folder next_in next_names renames joins makes_link reads_link last_component follows does replies after entries_weight data_weight name_weight synced
computed = (
  (refl, (refl, (refl, (refl, (refl, (refl, (refl, (refl, (refl, (refl, (refl, (refl, (refl, (refl, (refl, (refl, (refl, (refl, (refl, tt))))))))))))))))))),
  (refl, (refl, (refl, (refl, tt)))),
  ((refl, refl, refl), ((refl, refl, refl), ((refl, refl, refl), ((refl, refl, refl), ((refl, refl, refl), ((refl, refl, refl), tt)))))),
)

each : {A : Type 0} (P : A → Type 0) (xs : List A) → All P xs → (x : A) → Memᴰ x xs → P x
each P [] h x i = elim i [ ]
each P (y ∷ xs) h x (Memᴰ.head e) = subst P (sym e) h.0
each P (y ∷ xs) h x (Memᴰ.tail i) = each P xs h.1 x i

pub examples_hold_lem : ExamplesHold
examples_hold_lem = (each Answered table computed.0, each Left cut_table computed.1, each Weighed weight_table computed.2)
