use Rattle.std.proofs.Common.{arith}
use Rattle.csv.specs.Records.{fields_of}
use Rattle.docket.specs.Lists.{list_entry}
use Rattle.docket.proofs.ListWalkFacts.{entry_added, text_kept}
use Rattle.docket.proofs.store.lists.Lists.add_list.Goals as goal

pub returns-in_ok-push_row-clause-kept : goal.returns-in_ok-push_row-clause-kept
returns-in_ok-push_row-clause-kept c named =
    let number = rw (c.in-Some.is, c.field.ensures) at c.in_ok-owner.ensures.number in
    let joined = rw c.field.ensures at c.in_ok-owner.ensures.joined in
    rw (← c.self.view_is, c.in_ok-push_row.ensures.pushed)
    (record {
      kept = λ few. entry_added c.args.name_texts.now c.number_name.new.name_texts c.add_names.new.name_texts c.self.inside.name_numbers.items c.add_names.new.name_numbers.items c.self.inside.rows.items c.self.inside.new_names
          c.number_name.new.new_names c.add_names.new.new_names (list_entry c.args.record_no c.args.side (fields_of c.args.row.now)) c.in-Some.owner c.len-names_start.result c.len-names_end.result c.self.invariant joined number
          (c.in_ok-owner.ensures.counted few) (c.in_ok-add_names.ensures.walked c.if-not-branch.false) (omega arith) (omega arith);
      cut = λ over. absurd (omega (arith, over));
    })

pub returns-else-not-was_cut-clause-owner : goal.returns-else-not-was_cut-clause-owner
returns-else-not-was_cut-clause-owner c =
    let number = rw (c.in-Some.is, c.field.ensures) at c.in_ok-owner.ensures.number in
    text_kept c.number_name.new.name_texts c.add_names.new.name_texts c.in-Some.owner _ c.in_ok-add_names.ensures.texts number
