use Rattle.std.specs.Prelude.{codes}
use Rattle.audit_files.proofs.GrowFacts.{withdrawn_none, withdrawn_more}
use Rattle.audit_files.proofs.facts.put_programmes.Goals as goal

pub loop-p-init : goal.loop-p-init
loop-p-init c = withdrawn_none (codes "P") _ _ c.args.facts_text.now

pub loop-p-preserved : goal.loop-p-preserved
loop-p-preserved c =
    withdrawn_more (codes "P") _ _ c.loop-p.p c.args.facts_text.now c.loop-p.facts_text c.put_programme.new.facts_text c.loop-p.invariant c.in_ok-put_programme.ensures
