use Rattle.std.proofs.Common.{◌≡◌, ◌<◌, Some, length, arith, rules, sym, ap, ◌∙◌}
use Rattle.match_model.specs.Placement.{programme_of}
use Rattle.docket.proofs.WriteFacts.{read_within, counts_next_none, counts_next_read}
use Rattle.docket.proofs.write.sheet.member_counts.Goals as goal
use Rattle.docket.proofs.write.sheet.member_counts.Goals.{in-Some, in_default}

pub overflow_add-index_mut : goal.overflow_add-index_mut
overflow_add-index_mut c =
    let some : programme_of c.args.assignment.now c.loop-r.r ≡ Some c.programme.inside.0 = sym c.get.ensures ∙ (c.in-Some.is ∙ ap Some (sym c.programme.view_is)) in
    let within : c.loop-r.r < length c.args.assignment.now = omega (arith, c.len-r-end.ensures) in
    let read = read_within _ _ _ _ _ _ c.loop-r.invariant within (c.requires _ _ some) c.index_mut.ensures.value in
    search rules

pub loop-r-preserved : goal.loop-r-preserved
loop-r-preserved c =
    let within : c.loop-r.r < length c.args.assignment.now = omega (arith, c.len-r-end.ensures) in
    elim c.match-get.branch [
      | in-Some w ↦
          let some : programme_of c.args.assignment.now c.loop-r.r ≡ Some w.programme.inside.0 = sym c.get.ensures ∙ (w.in-Some.is ∙ ap Some (sym w.programme.view_is)) in
          rw w.counts-is (counts_next_read _ _ _ _ _ _ c.loop-r.invariant within some (c.requires _ _ some) w.index_mut.ensures.value)
      | in_default w ↦ rw w.counts-is (counts_next_none _ _ _ _ c.loop-r.invariant within (sym c.get.ensures ∙ w.in_default.is))
    ]
