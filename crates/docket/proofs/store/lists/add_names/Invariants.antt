use Rattle.std.proofs.Common.{◌≡◌, ◌≤◌, ◌-◌, take, drop, true}
use Rattle.std.specs.List.{list_all}
use Rattle.csv.specs.Records.{fields_of}
use Rattle.docket.specs.Lists.{AreWalked}
use Rattle.docket_names.specs.Words.{is_name}
use Rattle.docket.proofs.store.lists.add_names.Given as goal

abbrev pub invariant-loop-field_index : goal.invariant-loop-field_index
invariant-loop-field_index l = AreWalked l.fn.name_texts l.fn.name_numbers.items l.fn.new_names l.name_texts l.name_numbers.items l.new_names (take (l.field_index - 2) (drop 2 (fields_of l.row))) × (2 ≤ l.field_index)
    × (list_all is_name (take (l.field_index - 2) (drop 2 (fields_of l.row))) ≡ true)
