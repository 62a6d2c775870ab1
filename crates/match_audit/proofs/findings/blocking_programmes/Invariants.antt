use Rattle.std.proofs.Common.{take}
use Rattle.settle_law.specs.Stable.{HasRoomFor}
use Rattle.match_audit.proofs.Kept.{Keeps}
use Rattle.match_audit.proofs.findings.blocking_programmes.Given as goal

abbrev pub invariant-loop-programme : goal.invariant-loop-programme
invariant-loop-programme l = Keeps (λ p. HasRoomFor l.inst l.assignment p l.resident) (take l.programme-index l.programme-items) l.programmes.items
