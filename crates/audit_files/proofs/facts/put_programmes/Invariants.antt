use Rattle.std.specs.Prelude.{codes}
use Rattle.docket.specs.Texts.{programme_name}
use Rattle.records.specs.Lines.{Grows}
use Rattle.audit_files.specs.Rows.{withdrawn_rows}
use Rattle.audit_files.proofs.facts.put_programmes.Given as goal

abbrev pub invariant-loop-p : goal.invariant-loop-p
invariant-loop-p l = Grows l.fn.facts_text l.facts_text (withdrawn_rows (codes "P") (programme_name l.docket) l.docket.instance.programmes_withdrawn l.p)
