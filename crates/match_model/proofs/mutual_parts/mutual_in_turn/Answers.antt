use Rattle.std.proofs.Common.{◌≡◌, ◌∙◌, ℕ, List, [], ltb, true, length, sym, subst, ap}
use Rattle.std.specs.List.{All, list_all, sum_by}
use Rattle.match_model.specs.Draft.{lists_left, AreLists}
use Rattle.match_model.specs.Owners.{AreOwners, AreRows, AreChoices, kept_lists}
use Rattle.match_model.specs.Rows.{RowLists}
use Rattle.match_model.specs.declared.fault.ModelFault.TheVariants.{Memory}
use Rattle.match_model.proofs.Mutual.{length-lists_left}
use Rattle.match_model.proofs.Entered.{AreRows-owners, kept_are_mutual, kept_covered, length-kept_lists}
use Rattle.match_model.proofs.Gathered.{memory_alone, same_err}
use Rattle.match_model.proofs.mutual_parts.mutual_in_turn.Goals as goal

pub owners_of_rows-requires-clause-below : goal.owners_of_rows-requires-clause-below
owners_of_rows-requires-clause-below c = subst (λ (n : ℕ). All (λ list. list_all (λ x. ltb x n) list ≡ true) c.args.other_rows.now.rows) (sym c.len.ensures) c.requires.below

pub rows_kept-requires-clause-lists : goal.rows_kept-requires-clause-lists
rows_kept-requires-clause-lists c = subst (AreLists c.args.own_lists.now) (sym c.len-2.ensures) c.requires.lists

pub rows_kept-requires-clause-rows : goal.rows_kept-requires-clause-rows
rows_kept-requires-clause-rows c =
    let rows : List (List ℕ) = c.in_ok-rows.rows.rows in
    let owned : AreOwners (length c.args.own_lists.now) (length c.args.other_rows.now.rows) c.args.other_rows.now.rows rows = subst (λ (n : ℕ). AreOwners n (length c.args.other_rows.now.rows) c.args.other_rows.now.rows rows) c.len.ensures c.in_ok-rows.ensures in
    subst (λ (n : ℕ). AreRows (length c.args.own_lists.now) n rows) (sym c.len-2.ensures)
    (AreRows-owners (length c.args.own_lists.now) (length c.args.other_rows.now.rows) c.args.other_rows.now.rows rows owned)

pub returns-clause-lists : goal.returns-clause-lists
returns-clause-lists c =
    let rows : List (List ℕ) = c.in_ok-rows.rows.rows in
    let left : List (List ℕ) = lists_left c.args.own_lists.now c.args.own_withdrawn.now in
    let owned : AreOwners (length left) (length c.args.other_rows.now.rows) c.args.other_rows.now.rows rows =
    subst (λ (n : ℕ). AreOwners n (length c.args.other_rows.now.rows) c.args.other_rows.now.rows rows) (c.len.ensures ∙ sym (length-lists_left c.args.own_lists.now c.args.own_withdrawn.now)) c.in_ok-rows.ensures in
    c.in_ok-kept_rows.ensures.lists ∙ ap (λ (lists : List (List ℕ)). record { rows = lists; begun = [] }) (kept_are_mutual left c.args.other_rows.now.rows rows owned)

pub returns-clause-choices : goal.returns-clause-choices
returns-clause-choices c =
    let rows : List (List ℕ) = c.in_ok-rows.rows.rows in
    let left : List (List ℕ) = lists_left c.args.own_lists.now c.args.own_withdrawn.now in
    let kept = ap (λ (t : RowLists ℕ). t.rows) c.in_ok-kept_rows.ensures.lists in
    subst (λ (lists : List (List ℕ)). AreChoices lists rows) (sym kept) (record {
      one_row_each = c.in_ok-rows.ensures.one_each ∙ c.len.ensures ∙ sym (length-kept_lists left rows ∙ length-lists_left c.args.own_lists.now c.args.own_withdrawn.now);
      covered = kept_covered left rows;
      rising = (AreRows-owners c.len.result (length c.args.other_rows.now.rows) c.args.other_rows.now.rows rows c.in_ok-rows.ensures).rising;
    })

pub returns-in_err-kept_rows-clause-cause : goal.returns-in_err-kept_rows-clause-cause
returns-in_err-kept_rows-clause-cause c =
    let rows : List (List ℕ) = c.in_ok-rows.rows.rows in
    same_err c.from_residual-in_err-kept_rows.result c.in_err-kept_rows.field-0.0 (λ fault. fault ≡ Memory) c.from_residual-in_err-kept_rows.ensures.1
    (memory_alone (sum_by length (kept_lists (lists_left c.args.own_lists.now c.args.own_withdrawn.now) rows)) c.in_err-kept_rows.field-0.0 c.in_err-kept_rows.ensures.cause)
