use Rattle.std.proofs.Common.{◌∙◌, sym, subst, List}
use Rattle.match_audit.specs.declared.load.Load.{Load}
use Rattle.match_audit.specs.Loads.{AreLoads}
use Rattle.match_audit.proofs.auditor.audit.Goals as goal

pub returns-clause-report : goal.returns-clause-report
returns-clause-report c = record {
  is_instance = c.residents.ensures.instance;
  one_place_each = sym c.len.ensures ∙ c.if-len-residents.false ∙ c.residents.ensures.count;
  unacceptable = c.in_ok-unacceptable_pairs.ensures;
  over = c.in_ok-over_quota.ensures c.args.assignment.now
      (subst (λ (xs : List Load). AreLoads c.args.inst.now c.args.assignment.now xs) (sym c.deref.ensures.value) c.in_ok-loads.ensures);
  blocking = c.in_ok-blocking_pairs.ensures;
}
