use Rattle.std.proofs.Common.{◌≡◌, ◌≤◌, length}
use Rattle.std.specs.Prelude.{vec_capacity}
use Rattle.match_pool.proofs.drive.start_all.Given as goal

-- each tally taken so far has a handle, and the handles have room for all tallies
abbrev pub invariant-loop-tally : goal.invariant-loop-tally
invariant-loop-tally g l = (length l.handles.items ≡ length l.yielded) × (length l.fn.tallies.items ≤ vec_capacity l.handles)
