use Rattle.std.proofs.Common.{◌<◌, take}
use Rattle.std.specs.List.{All}
use Rattle.library_tests.proofs.audit.counts_are.Given as goal

abbrev pub invariant-loop-worker : goal.invariant-loop-worker
invariant-loop-worker l = All (λ w. w < l.workers) (take l.worker-index l.event_workers)
