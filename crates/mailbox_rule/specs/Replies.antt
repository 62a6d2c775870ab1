-- What a contract says for each reply of a mailbox.
use Rattle.mailbox_rule.specs.declared.ends.PutReply.{PutReply}
use Rattle.mailbox_rule.specs.declared.ends.PutReply.TheVariants as put
use Rattle.mailbox_rule.specs.declared.ends.TakeReply.{TakeReply}
use Rattle.mailbox_rule.specs.declared.ends.TakeReply.TheVariants as take

module _ {M : Type 0} where
  -- One property for each reply: the message was put, there was no room, or no receiver is left. The last two are
  -- about the message that came back.
  abbrev pub MatchPut : PutReply M → Type 0 → (M → Type 0) → (M → Type 0) → Type 0
  MatchPut put.Done done full gone = done
  MatchPut (put.Full m) done full gone = full m
  MatchPut (put.Gone m) done full gone = gone m

  -- one property for each reply: a message was taken, no message waits, or no sender is left
  abbrev pub MatchTake : TakeReply M → (M → Type 0) → Type 0 → Type 0 → Type 0
  MatchTake (take.Got m) got nothing gone = got m
  MatchTake take.Nothing got nothing gone = nothing
  MatchTake take.Gone got nothing gone = gone
