use Rattle.std.proofs.Common.{arith}
use Rattle.csv.specs.Records.{fields_of}
use Rattle.docket.specs.Lists.{gone_entry}
use Rattle.docket.proofs.ListWalkFacts.{entry_added, walked_none}
use Rattle.docket.proofs.store.lists.Lists.add_withdrawal.Goals as goal

pub returns-in_ok-push_row-clause-kept : goal.returns-in_ok-push_row-clause-kept
returns-in_ok-push_row-clause-kept c named =
    let number = rw (c.in-Some.is, c.field.ensures) at c.in_ok-owner.ensures.number in
    let joined = rw c.field.ensures at c.in_ok-owner.ensures.joined in
    rw (← c.self.view_is, c.in_ok-push_row.ensures.pushed)
    (record {
      kept = λ few. entry_added c.args.name_texts.now c.number_name.new.name_texts c.number_name.new.name_texts c.self.inside.name_numbers.items c.self.inside.name_numbers.items c.self.inside.rows.items c.self.inside.new_names
          c.number_name.new.new_names c.number_name.new.new_names (gone_entry c.args.record_no c.args.side (fields_of c.args.row.now)) c.in-Some.owner c.len-names_end.result c.len-names_end.result c.self.invariant joined number
          (c.in_ok-owner.ensures.counted few) (walked_none c.number_name.new.name_texts c.self.inside.name_numbers.items c.number_name.new.new_names) (omega arith) (omega arith);
      cut = λ over. absurd (omega (arith, over));
    })
