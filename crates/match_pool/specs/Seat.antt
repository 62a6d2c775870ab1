-- What the lock of a desk protects.
use Rattle.std.specs.Prelude.{Bool}

-- the agent of a desk, and whether the ledger is asked before the desk's mailbox
pub record Seated (A : Type 0) : Type 0 where
  pub agent : A
  pub asks_first : Bool
