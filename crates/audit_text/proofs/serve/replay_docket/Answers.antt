use Rattle.std.proofs.Common.{rules}
use Rattle.audit_text.proofs.serve.replay_docket.Goals as goal

pub returns-in-Ok-clause-answer : goal.returns-in-Ok-clause-answer
returns-in-Ok-clause-answer g c = record {
  replay = record { journal = c.in-Some.journal.now; has_journal = search rules; answer = c.match-sheet.replay_result; answers = search rules };
  tells = search rules;
  appended = search rules;
}

pub returns-in-Ok-2-clause-answer : goal.returns-in-Ok-2-clause-answer
returns-in-Ok-2-clause-answer g c = record {
  replay = record { journal = c.in-Some.journal.now; has_journal = search rules; answer = c.match-sheet.replay_result; answers = search rules };
  tells = search rules;
  appended = search rules;
}
