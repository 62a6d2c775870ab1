use Rattle.std.proofs.Common.{◌≡◌, ◌<◌, ◌^◌, IfSome}
use Rattle.receipt_check.specs.Pair.{last_within}
use Rattle.receipt_check.specs.Receipt.{members}
use Rattle.receipt_check.specs.Shown.{content, fields_in}
use Rattle.receipt_check.proofs.side.last_position.Given as goal

abbrev pub invariant-loop-k : goal.invariant-loop-k
invariant-loop-k l = (l.last_member_position ≡ last_within (fields_in l.contents.list.now) (members (content l.contents)) l.k) × IfSome l.last_member_position (λ k. k < 2 ^ 63)
