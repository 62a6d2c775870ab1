-- What a contract says for each reply that a desk gets from its mailbox.
use Rattle.match_agents.specs.declared.heard.Heard.{Heard}
use Rattle.match_agents.specs.declared.heard.Heard.TheVariants as heard

module _ {M : Type 0} where
  -- one property for each reply: a message was taken, no message waits, no sender is left, or the log is
  -- full
  abbrev pub MatchHeard : Heard M → (M → Type 0) → Type 0 → Type 0 → Type 0 → Type 0
  MatchHeard (heard.Got m) got nothing gone full = got m
  MatchHeard heard.Nothing got nothing gone full = nothing
  MatchHeard heard.Gone got nothing gone full = gone
  MatchHeard heard.LogFull got nothing gone full = full
