use Rattle.std.specs.Prelude.{codes}
use Rattle.docket.specs.Texts.{resident_name}
use Rattle.records.specs.Lines.{Grows}
use Rattle.audit_files.specs.Rows.{withdrawn_rows}
use Rattle.audit_files.proofs.facts.put_residents.Given as goal

abbrev pub invariant-loop-r : goal.invariant-loop-r
invariant-loop-r l = Grows l.fn.facts_text l.facts_text (withdrawn_rows (codes "R") (resident_name l.docket) l.docket.instance.residents_withdrawn l.r)
