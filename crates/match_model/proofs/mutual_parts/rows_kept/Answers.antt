use Rattle.std.proofs.Common.{◌≡◌, ◌∙◌, ◌+◌, ℕ, List, [], ltb, true, length, subst, sym, ap, arith, refl, inr}
use Rattle.std.specs.List.{list_all, sum_by}
use Rattle.std.proofs.lemmas.List.{take_all}
use Rattle.match_model.specs.Draft.{lists_left, has_no_repeats, are_over}
use Rattle.match_model.specs.Owners.{kept_lists}
use Rattle.match_model.specs.Rows.{RowLists}
use Rattle.match_model.proofs.Mutual.{length-lists_left, left_below}
use Rattle.match_model.proofs.Entered.{row_below, row_distinct, length-kept_lists}
use Rattle.match_model.proofs.Gathered.{over_none, kept_more, over_in_all}
use Rattle.match_model.proofs.mutual_parts.rows_kept.Goals as goal

pub note_places-requires-clause-below : goal.note_places-requires-clause-below
note_places-requires-clause-below c =
    let room : length c.deref_mut.result.now ≡ c.args.other_count = omega (arith, c.deref_mut.ensures.len, c.loop-owner.invariant.room) in
    subst (λ (m : ℕ). list_all (λ x. ltb x m) c.row-row.result.now ≡ true) (sym room)
    (subst (λ (xs : List ℕ). list_all (λ x. ltb x c.args.other_count) xs ≡ true) (sym c.row-row.ensures)
    (row_below c.args.rows.now.rows (length c.args.lists.now) c.args.other_count c.loop-owner.owner c.requires.rows (omega (arith, c.loop-owner-test.true, c.len-owner-end.ensures))))

pub note_places-requires-clause-distinct : goal.note_places-requires-clause-distinct
note_places-requires-clause-distinct c =
    subst (λ (xs : List ℕ). has_no_repeats xs ≡ true) (sym c.row-row.ensures)
    (row_distinct c.args.rows.now.rows (length c.args.lists.now) c.args.other_count c.loop-owner.owner c.requires.rows (omega (arith, c.loop-owner-test.true, c.len-owner-end.ensures)))

pub keep-requires-clause-below : goal.keep-requires-clause-below
keep-requires-clause-below c =
    let all : List (List ℕ) = lists_left c.args.lists.now c.args.withdrawn.now in
    let room : length c.deref.result.now ≡ c.args.other_count = omega (arith, c.deref.ensures.len, c.loop-owner.invariant.room) in
    let below = left_below c.args.lists.now c.args.withdrawn.now c.args.other_count c.requires.lists c.loop-owner.owner [] (omega (arith, c.loop-owner-test.true, c.len-owner-end.ensures, length-lists_left c.args.lists.now c.args.withdrawn.now)) in
    subst (λ (m : ℕ). list_all (λ x. ltb x m) c.remaining-items.result.now ≡ true) (sym room)
    (subst (λ (xs : List ℕ). list_all (λ x. ltb x c.args.other_count) xs ≡ true) (sym c.remaining-items.ensures) below)

pub loop-owner-init : goal.loop-owner-init
loop-owner-init c =
    let empty = c.in_ok-kept_rows.ensures in
    record { ended = ap (λ (t : RowLists ℕ). t.rows) empty; none_begun = ap (λ (t : RowLists ℕ). t.begun) empty; within = over_none c.args.most_items; room = c.in_ok-places.ensures.len }

pub loop-owner-preserved : goal.loop-owner-preserved
loop-owner-preserved c =
    let i : ℕ = c.loop-owner.owner in
    let all : List (List ℕ) = lists_left c.args.lists.now c.args.withdrawn.now in
    let many = length-lists_left c.args.lists.now c.args.withdrawn.now in
    let more = kept_more all c.args.rows.now.rows i (omega arith) c.remaining-items.result.now c.row-row.result.now c.remaining-items.ensures c.row-row.ensures c.loop-owner.kept_rows c.keep.new.kept_rows c.end_row.new.self
    c.loop-owner.invariant.ended c.loop-owner.invariant.none_begun c.in_ok-keep.ensures c.in_ok-end_row.ensures c.item_count-in-loop-owner.result c.item_count-in-loop-owner.ensures in
    record {
      ended = more.ended;
      none_begun = more.none_begun;
      within = ap (are_over c.args.most_items) (sym more.counted) ∙ sym c.is_over.ensures ∙ c.if-is_over.false;
      room = c.loop-owner.invariant.room;
    }

pub returns-then-is_over-clause-cause : goal.returns-then-is_over-clause-cause
returns-then-is_over-clause-cause c =
    let i : ℕ = c.loop-owner.owner in
    let all : List (List ℕ) = lists_left c.args.lists.now c.args.withdrawn.now in
    let many = length-lists_left c.args.lists.now c.args.withdrawn.now in
    let more = kept_more all c.args.rows.now.rows i (omega arith) c.remaining-items.result.now c.row-row.result.now c.remaining-items.ensures c.row-row.ensures c.loop-owner.kept_rows c.keep.new.kept_rows c.end_row.new.self
    c.loop-owner.invariant.ended c.loop-owner.invariant.none_begun c.in_ok-keep.ensures c.in_ok-end_row.ensures c.item_count-in-loop-owner.result c.item_count-in-loop-owner.ensures in
    inr (refl, over_in_all c.args.most_items (kept_lists all c.args.rows.now.rows) c.item_count-in-loop-owner.result (i + 1) more.counted (sym c.is_over.ensures ∙ c.if-is_over.true))

pub returns-clause-lists : goal.returns-clause-lists
returns-clause-lists c =
    let made : List (List ℕ) = kept_lists (lists_left c.args.lists.now c.args.withdrawn.now) c.args.rows.now.rows in
    let whole = take_all c.loop-owner.owner made (omega (arith, length-kept_lists (lists_left c.args.lists.now c.args.withdrawn.now) c.args.rows.now.rows, length-lists_left c.args.lists.now c.args.withdrawn.now)) in
    let ended = c.loop-owner.invariant.ended ∙ whole in
    let none = c.loop-owner.invariant.none_begun in
    λ i. record { rows = ended i; begun = none i }

pub returns-clause-within : goal.returns-clause-within
returns-clause-within c =
    let made : List (List ℕ) = kept_lists (lists_left c.args.lists.now c.args.withdrawn.now) c.args.rows.now.rows in
    let whole = take_all c.loop-owner.owner made (omega (arith, length-kept_lists (lists_left c.args.lists.now c.args.withdrawn.now) c.args.rows.now.rows, length-lists_left c.args.lists.now c.args.withdrawn.now)) in
    ap (λ (ls : List (List ℕ)). are_over c.args.most_items (sum_by length ls)) (sym whole) ∙ c.loop-owner.invariant.within
