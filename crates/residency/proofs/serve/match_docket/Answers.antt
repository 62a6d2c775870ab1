use Rattle.residency.proofs.Outcomes.{names_members, sheet_of, closed_run}
use Rattle.residency.proofs.serve.match_docket.Goals as goal

pub write_match-requires-clause-sheet : goal.write_match-requires-clause-sheet
write_match-requires-clause-sheet g c =
    let inst = c.instance-inst.ensures.instance in
    let run = c.in-Ok.ensures.run.settled c.in-Closed.is in
    sheet_of c.args.docket.now c.in-Ok.finished_run.assignment c.instance-inst.ensures.whole (rw inst at c.residents-instance.ensures.instance) (rw inst at run.stable)

pub write_match-requires-clause-journal : goal.write_match-requires-clause-journal
write_match-requires-clause-journal g c =
    let inst = c.instance-inst.ensures.instance in
    rw (c.deref.ensures.value, ← inst) (names_members c.instance-inst.result.now c.args.options.now.capacity c.in-Ok.finished_run.journal.items c.in-Ok.ensures.run.legal)

pub returns-in-Ok-write_match-clause-text : goal.returns-in-Ok-write_match-clause-text
returns-in-Ok-write_match-clause-text g c =
    let admitted = c.in-Ok.ensures.admitted in
    record {
      run = closed_run _ _ c.instance-inst.result.now _ _ c.in-Ok.finished_run.entered.items _ c.instance-inst.ensures.instance c.law_one_settled.ensures
          (record { some_worker = admitted.0; few_workers = admitted.1; capacity = admitted.2 }) c.in-Ok.ensures.run.legal (c.in-Ok.ensures.run.closed.0 c.in-Closed.is)
          c.in-Ok.ensures.run.assigned (c.in-Ok.ensures.run.settled c.in-Closed.is) c.in-Ok.ensures.run.counts;
      appended = rw c.deref.ensures.value at c.in-Ok-write_match.ensures.text;
    }

pub returns-clause-fault : goal.returns-clause-fault
returns-clause-fault g c =
    let admitted = c.in-Ok.ensures.admitted in (
      closed_run _ _ c.instance-inst.result.now _ _ c.in-Ok.finished_run.entered.items _ c.instance-inst.ensures.instance c.law_one_settled.ensures
          (record { some_worker = admitted.0; few_workers = admitted.1; capacity = admitted.2 }) c.in-Ok.ensures.run.legal (c.in-Ok.ensures.run.closed.0 c.in-Closed.is)
          c.in-Ok.ensures.run.assigned (c.in-Ok.ensures.run.settled c.in-Closed.is) c.in-Ok.ensures.run.counts,
      c.in-Err-write_match.ensures.fault,
    )
