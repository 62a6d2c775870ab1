-- The answers due at a resident's desk.
use Rattle.std.proofs.Common.{◌≡◌, Option, Some, None, drop, refl}
use Rattle.exchange_core.specs.Mail.{Answered}
use Rattle.exchange_core.specs.Seats.{due_of}

-- the answers that remain due after the first due answer is given
pub due_after_first : (first : Answered) (second : Option Answered) → due_of second None ≡ drop 1 (due_of (Some first) second)
due_after_first first None = refl
due_after_first first (Some second) = refl
