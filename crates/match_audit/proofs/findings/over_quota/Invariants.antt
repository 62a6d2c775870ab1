use Rattle.std.proofs.Common.{List, ℕ}
use Rattle.std.specs.Prelude.{Option}
use Rattle.match_audit.specs.Listing.{Lists}
use Rattle.match_audit.specs.Loads.{AreLoads}
use Rattle.match_audit.specs.Report.{IsOver}
use Rattle.match_audit.proofs.Listings.{upto}
use Rattle.match_audit.proofs.findings.over_quota.Given as goal

abbrev pub invariant-loop-p : goal.invariant-loop-p
invariant-loop-p l = (m : List (Option ℕ)) → AreLoads l.inst m l.loads → Lists (upto l.p (IsOver l.inst m)) l.programmes_over.items
