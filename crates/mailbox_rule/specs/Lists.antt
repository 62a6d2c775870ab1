-- What contracts see of the two ends of a mailbox in memory.
use Rattle.std.specs.Prelude.{ℕ, List}

-- a sending end: how many messages it accepts, and the messages that it has put
pub record PutList (M : Type 0) : Type 0 where
  pub room : ℕ
  pub puts : List M

-- a receiving end: the messages that were taken from it, and those that can still be taken
pub record TakeList (M : Type 0) : Type 0 where
  pub taken : List M
  pub left : List M
