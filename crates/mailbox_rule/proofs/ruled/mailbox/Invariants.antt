use Rattle.std.proofs.Common.{true, false, []}
use Rattle.crossbeam_channel.specs.Ends.{sends_on, ruled_capacity}
use Rattle.mailbox_rule.specs.Rule.{known}
use Rattle.mailbox_rule.proofs.ruled.mailbox.Given as goal

-- the capacity that the proof knows is the channel's own
abbrev pub ghosts-another : goal.ghosts-another
ghosts-another g a = record { left = λ h. known true false (ruled_capacity (sends_on a.self.now)) h.puts []; right = λ h. known false true 0 [] h.taken }
