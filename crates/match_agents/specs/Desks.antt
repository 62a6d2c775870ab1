-- What clauses see of an agent's desk.
use Rattle.std.specs.Prelude.{ℕ, Bool, Option, List}
use Rattle.exchange_core.specs.Mail.{Answered}

-- A programme's desk: the programme's number, the desk's receiving end, the answers that the desk heard, its room for
-- answers, and the number of its offers.
pub record ProgrammeDesk (T : Type 0) : Type 0 where
  pub programme : ℕ
  pub end : T
  pub heard : List Answered
  pub room : ℕ
  pub offered : ℕ

-- A resident's desk: the resident's number, the desk's receiving end, the offers that the desk took, and its room for
-- offers. `undecided` says that the last offer still waits for a decision. `due` has the answers due. `best` has the
-- best decided offer with its rank.
pub record ResidentDesk (T : Type 0) : Type 0 where
  pub resident : ℕ
  pub end : T
  pub taken : List ℕ
  pub room : ℕ
  pub undecided : Bool
  pub due : List Answered
  pub best : Option (ℕ × ℕ)
