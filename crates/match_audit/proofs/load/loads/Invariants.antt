use Rattle.std.proofs.Common.{take, ◌≡◌, length}
use Rattle.match_audit.specs.Loads.{AreLoads}
use Rattle.match_audit.proofs.load.loads.Given as goal

abbrev pub invariant-loop-r : goal.invariant-loop-r
invariant-loop-r l = record {
  loads : AreLoads l.inst (take l.r l.assignment) l.loads.items;
  programmes : l.programmes ≡ length l.inst.quotas;
}
