use Rattle.match_audit.specs.Listing.{Lists}
use Rattle.match_audit.specs.Report.{IsUnacceptable}
use Rattle.match_audit.proofs.Listings.{upto}
use Rattle.match_audit.proofs.findings.unacceptable_pairs.Given as goal

abbrev pub invariant-loop-r : goal.invariant-loop-r
invariant-loop-r l = Lists (upto l.r (IsUnacceptable l.inst l.assignment)) l.pairs.items
