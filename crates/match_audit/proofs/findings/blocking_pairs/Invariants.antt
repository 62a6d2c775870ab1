use Rattle.match_audit.specs.Listing.{Lists}
use Rattle.settle_law.specs.Stable.{Blocks}
use Rattle.match_audit.proofs.Listings.{upto}
use Rattle.match_audit.proofs.findings.blocking_pairs.Given as goal

abbrev pub invariant-loop-r : goal.invariant-loop-r
invariant-loop-r l = Lists (upto l.r (Blocks l.inst l.assignment)) l.pairs.items
