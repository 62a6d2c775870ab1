-- How a call answers when it finds a fault or runs out of memory, for every type of fault.
use Rattle.std.specs.Prelude.{◌≡◌, ◌⊎◌, Option, Some, None, Result, Ok, Err}

-- the error is this fault, or out of memory
abbrev pub Refuses : {E : Type 0} → E → Option E → E → Type 0
Refuses memory fault e = (e ≡ memory) ⊎ (fault ≡ Some e)

-- the answer is Ok only if there is no fault; an error is the fault, or out of memory
abbrev pub Answers : {T E : Type 0} → E → Option E → Result T E → Type 0
Answers memory fault (Ok v) = fault ≡ None
Answers memory fault (Err e) = Refuses memory fault e

-- the answer is Ok exactly if there is no fault; an error is the fault
abbrev pub AnswersExactly : {T E : Type 0} → Option E → Result T E → Type 0
AnswersExactly fault (Ok v) = fault ≡ None
AnswersExactly fault (Err e) = fault ≡ Some e
