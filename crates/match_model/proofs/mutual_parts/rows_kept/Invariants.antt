use Rattle.std.proofs.Common.{◌≡◌, [], false, length, take, vec_len}
use Rattle.std.specs.List.{sum_by}
use Rattle.match_model.specs.Draft.{lists_left, are_over}
use Rattle.match_model.specs.Owners.{kept_lists}
use Rattle.match_model.proofs.mutual_parts.rows_kept.Given as goal

abbrev pub invariant-loop-owner : goal.invariant-loop-owner
invariant-loop-owner l = record {
  ended : l.kept_rows.rows ≡ take l.owner (kept_lists (lists_left l.lists l.withdrawn) l.rows.rows);
  none_begun : l.kept_rows.begun ≡ [];
  within : are_over l.most_items (sum_by length (take l.owner (kept_lists (lists_left l.lists l.withdrawn) l.rows.rows))) ≡ false;
  room : vec_len l.places ≡ l.other_count;
}
