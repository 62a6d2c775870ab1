use Rattle.std.proofs.lemmas.Result.{on_ok_weaker}
use Rattle.audit_files.proofs.GrowFacts.{grows_six}
use Rattle.audit_files.proofs.facts.put_facts.Goals as goal

pub returns : goal.returns
returns c =
    on_ok_weaker c.put_residents.result (λ h. grows_six c.args.facts_text.now c.put_digest.new.facts_text c.put_digest-2.new.facts_text c.put_journal_digest.new.facts_text c.put_members.new.facts_text c.put_programmes.new.facts_text c.put_residents.new.facts_text _ _ _ _ _ _ c.in_ok-put_digest.ensures c.in_ok-put_digest-2.ensures c.in_ok-put_journal_digest.ensures c.in_ok-put_members.ensures c.in_ok-put_programmes.ensures h) c.put_residents.ensures
