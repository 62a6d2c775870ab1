use Rattle.std.specs.Prelude.{codes}
use Rattle.audit_files.proofs.GrowFacts.{withdrawn_none, withdrawn_more}
use Rattle.audit_files.proofs.facts.put_residents.Goals as goal

pub loop-r-init : goal.loop-r-init
loop-r-init c = withdrawn_none (codes "R") _ _ c.args.facts_text.now

pub loop-r-preserved : goal.loop-r-preserved
loop-r-preserved c =
    withdrawn_more (codes "R") _ _ c.loop-r.r c.args.facts_text.now c.loop-r.facts_text c.put_resident.new.facts_text c.loop-r.invariant c.in_ok-put_resident.ensures
