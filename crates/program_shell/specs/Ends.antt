-- How a program ends.
use Rattle.std.specs.Prelude.{◌≡◌, ◌⊎◌, ℕ, Option, Result, Ok, Err, IsOkAnd, List, map, string_bytes}
use Rattle.std.specs.Prelude.{String}
use Rattle.std.specs.Global.{Vec}
use Rattle.clap.specs.Words.{Text}
use Rattle.program_shell.specs.Status.{usage_status_of}
use Rattle.program_shell.specs.declared.fault.LineFault.{LineFault}
use Rattle.program_shell.specs.declared.fault.LineFault.TheVariants.{Memory}
use Rattle.program_shell.specs.declared.fault.UsageFault.{UsageFault}
use Rattle.program_shell.specs.declared.fault.UsageFault.TheVariants.{NoText, Line}

-- why words are not texts: one of the words is no text, or memory ran out before they were read
abbrev pub IsTextFaultOf : {A E : Type 0} → Result (Vec (String A)) E → UsageFault → Type 0
IsTextFaultOf (Ok texts) fault = ⊥
IsTextFaultOf (Err error) fault = (fault ≡ NoText) ⊎ (fault ≡ Line Memory)

-- why the words give no order: they are texts that the parser refuses, or one is no text, or memory ran out
abbrev pub IsUsageFaultOf : {A E : Type 0} → (List Text → LineFault → Type 0) → Result (Vec (String A)) E → UsageFault → Type 0
IsUsageFaultOf Refuses (Ok texts) NoText = ⊥
IsUsageFaultOf Refuses (Ok texts) (Line fault) = Refuses (map string_bytes texts.items) fault
IsUsageFaultOf Refuses (Err error) fault = (fault ≡ NoText) ⊎ (fault ≡ Line Memory)

-- the words are texts that give the order
abbrev pub IsOrderOf : {A E O : Type 0} → (List Text → O → Type 0) → Result (Vec (String A)) E → O → Type 0
IsOrderOf Orders words order = IsOkAnd words (λ texts. Orders (map string_bytes texts.items) order)

-- the status after words without an order: that of their fault, or 1 if the help or the version was asked for and
-- could not be written
abbrev pub IsRefusedStatus : UsageFault → ℕ → Type 0
IsRefusedStatus fault status = (status ≡ usage_status_of fault) ⊎ ((usage_status_of fault ≡ 0) × (status ≡ 1))

-- the words give no order, nothing was written, and the status says why
pub record EndsRefused {A E : Type 0} (Refuses : List Text → LineFault → Type 0) (words : Result (Vec (String A)) E) (old new : Option (List ℕ))
    (status : ℕ) : Type 0 where
  pub fault : UsageFault
  pub refused : IsUsageFaultOf Refuses words fault
  pub nothing : new ≡ old
  pub tells : IsRefusedStatus fault status

-- a file of the order was not read, nothing was written, and the status is 1
pub record EndsUnread (old new : Option (List ℕ)) (status : ℕ) : Type 0 where
  pub nothing : new ≡ old
  pub tells : status ≡ 1

-- an order was answered: what was written fits the answer, and the status is that of the answer
pub record EndsAnswered {Answer : Type 0} (Appends : Answer → Type 0) (status_of : Answer → ℕ) (status : ℕ) : Type 0 where
  pub answer : Answer
  pub appends : Appends answer
  pub tells : status ≡ status_of answer

-- a file of the order was not read, or the order was answered
abbrev pub EndsServed : {Answer : Type 0} → (Answer → Type 0) → (Answer → ℕ) → Option (List ℕ) → Option (List ℕ) → ℕ → Type 0
EndsServed Appends status_of old new status = EndsUnread old new status ⊎ EndsAnswered Appends status_of status

-- the words give no order, or the program served the order that they give
abbrev pub EndsAs : {A E O : Type 0} → (List Text → LineFault → Type 0) → (List Text → O → Type 0) → (O → Type 0) → Result (Vec (String A)) E
    → Option (List ℕ) → Option (List ℕ) → ℕ → Type 0
EndsAs Refuses Orders Serves words old new status = EndsRefused Refuses words old new status ⊎ ((order : _) × (IsOrderOf Orders words order × Serves order))
