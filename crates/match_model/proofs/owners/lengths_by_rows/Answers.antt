use Rattle.std.proofs.Common.{arith}
use Rattle.match_model.proofs.Entered.{counts_few, counts_more}
use Rattle.match_model.proofs.owners.lengths_by_rows.Goals as goal

pub count_items-requires-clause-few : goal.count_items-requires-clause-few
count_items-requires-clause-few c = counts_few c.args.member_count c.loop-owner.owner c.args.lists.now.rows c.loop-owner.counts.items c.deref_mut.result.now c.deref_mut.ensures.value c.loop-owner.invariant (omega (arith, c.loop-owner-test.true, c.requires.few))

pub loop-owner-preserved : goal.loop-owner-preserved
loop-owner-preserved c = counts_more c.args.member_count c.loop-owner.owner c.args.lists.now.rows c.row.result.now c.loop-owner.counts c.deref_mut.result.now c.count_items.new.counts c.row.ensures c.deref_mut.ensures.value c.deref_mut.ensures.len c.count_items.ensures c.loop-owner.invariant
