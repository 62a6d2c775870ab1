use Rattle.std.proofs.Common.{◌≡◌, ℕ, List, [], ltb, true, length, sym, subst}
use Rattle.std.specs.List.{All, list_all, sum_by}
use Rattle.std.specs.Prelude.{Some, false, OnOk, IfOk, IfErr}
use Rattle.match_model.specs.Draft.{lists_left, are_over, IsGatherFault, AreLists}
use Rattle.match_model.specs.Owners.{AreOwners, AreRows}
use Rattle.match_model.proofs.Mutual.{left_below, left_distinct}
use Rattle.match_model.proofs.Entered.{AreRows-owners, made_is}
use Rattle.match_model.proofs.mutual_parts.mutual.Goals as goal

pub owners-requires-clause-below : goal.owners-requires-clause-below
owners-requires-clause-below c =
    subst (λ (n : ℕ). All (λ list. list_all (λ x. ltb x n) list ≡ true) (lists_left c.args.other_lists.now c.args.other_withdrawn.now)) (sym c.len.ensures)
    (left_below c.args.other_lists.now c.args.other_withdrawn.now (length c.args.own_lists.now) c.requires.others)

pub owners-requires-clause-distinct : goal.owners-requires-clause-distinct
owners-requires-clause-distinct c = left_distinct c.args.other_lists.now c.args.other_withdrawn.now (length c.args.own_lists.now) c.requires.others

pub rows_kept-requires-clause-lists : goal.rows_kept-requires-clause-lists
rows_kept-requires-clause-lists c = subst (AreLists c.args.own_lists.now) (sym c.len-2.ensures) c.requires.lists

pub rows_kept-requires-clause-rows : goal.rows_kept-requires-clause-rows
rows_kept-requires-clause-rows c =
    let left : List (List ℕ) = lists_left c.args.other_lists.now c.args.other_withdrawn.now in
    let owned : AreOwners (length c.args.own_lists.now) (length c.args.other_lists.now) left c.in_ok-rows.rows.rows = subst (λ (n : ℕ). AreOwners n (length c.args.other_lists.now) left c.in_ok-rows.rows.rows) c.len.ensures c.in_ok-rows.ensures in
    subst (λ (n : ℕ). AreRows (length c.args.own_lists.now) n c.in_ok-rows.rows.rows) (sym c.len-2.ensures) (AreRows-owners (length c.args.own_lists.now) (length c.args.other_lists.now) left c.in_ok-rows.rows.rows owned)

pub returns-clause-lists : goal.returns-clause-lists
returns-clause-lists c =
    let left : List (List ℕ) = lists_left c.args.other_lists.now c.args.other_withdrawn.now in
    let owned : AreOwners (length c.args.own_lists.now) (length c.args.other_lists.now) left c.in_ok-rows.rows.rows = subst (λ (n : ℕ). AreOwners n (length c.args.other_lists.now) left c.in_ok-rows.rows.rows) c.len.ensures c.in_ok-rows.ensures in
    let made = made_is c.args.own_lists.now c.args.other_lists.now c.args.own_withdrawn.now c.args.other_withdrawn.now c.in_ok-rows.rows.rows owned in
    subst (λ (lists : List (List ℕ)). IfOk c.rows_kept.result (λ made. made ≡ record { rows = lists; begun = [] })) made c.rows_kept.ensures.lists

pub returns-clause-within : goal.returns-clause-within
returns-clause-within c =
    let left : List (List ℕ) = lists_left c.args.other_lists.now c.args.other_withdrawn.now in
    let owned : AreOwners (length c.args.own_lists.now) (length c.args.other_lists.now) left c.in_ok-rows.rows.rows = subst (λ (n : ℕ). AreOwners n (length c.args.other_lists.now) left c.in_ok-rows.rows.rows) c.len.ensures c.in_ok-rows.ensures in
    let made = made_is c.args.own_lists.now c.args.other_lists.now c.args.own_withdrawn.now c.args.other_withdrawn.now c.in_ok-rows.rows.rows owned in
    subst (λ (lists : List (List ℕ)). OnOk c.rows_kept.result (are_over (Some c.args.most_items) (sum_by length lists) ≡ false)) made c.rows_kept.ensures.within

pub returns-clause-cause : goal.returns-clause-cause
returns-clause-cause c =
    let left : List (List ℕ) = lists_left c.args.other_lists.now c.args.other_withdrawn.now in
    let owned : AreOwners (length c.args.own_lists.now) (length c.args.other_lists.now) left c.in_ok-rows.rows.rows = subst (λ (n : ℕ). AreOwners n (length c.args.other_lists.now) left c.in_ok-rows.rows.rows) c.len.ensures c.in_ok-rows.ensures in
    let made = made_is c.args.own_lists.now c.args.other_lists.now c.args.own_withdrawn.now c.args.other_withdrawn.now c.in_ok-rows.rows.rows owned in
    subst (λ (lists : List (List ℕ)). IfErr c.rows_kept.result (IsGatherFault (Some c.args.most_items) (sum_by length lists))) made c.rows_kept.ensures.cause
