-- With which exit status the program ends, given its words, its input and what it has written.
use Rattle.std.specs.Prelude.{◌≡◌, ℕ, Option, Some, Result, List}
use Rattle.std.specs.Prelude.{String}
use Rattle.std.specs.Global.{Vec}
use Rattle.program_shell.specs.Ends.{EndsAnswered, EndsAs}
use Rattle.command_line.specs.declared.options.Order.{Order}
use Rattle.command_line.specs.Line.{Orders, Refuses}
use Rattle.command_line.specs.Options.{IsOrder}
use Rattle.match_model.specs.declared.limits.Limits.{Limits}
use Rattle.match_model.specs.declared.limits.Limits.TheVariants.{Standard}
use Rattle.residency.specs.Serving.{IsAnswerWithin}
use Rattle.residency.specs.Status.{exit_status_within_of}

-- The order was answered within these limits, and the status is that of the answer. If the bytes of
-- the input are known, the answer is right for them.
abbrev pub EndsServingWithin : Limits → Order → Option (List ℕ) → Option (List ℕ) → Option (List ℕ) → ℕ → Type 0
EndsServingWithin limits order input old new status =
    EndsAnswered (λ answer. (bytes : List ℕ) → input ≡ Some bytes → IsAnswerWithin limits order bytes old new answer) exit_status_within_of status

-- the order was answered within the standard limits, as `EndsServingWithin` says
abbrev pub EndsServing : Order → Option (List ℕ) → Option (List ℕ) → Option (List ℕ) → ℕ → Type 0
EndsServing order input old new status = EndsServingWithin Standard order input old new status

-- with which status the program ends within these limits, given its words, its input, and its
-- output before and after
abbrev pub EndsWithin : {A E : Type 0} → Limits → Result (Vec (String A)) E → Option (List ℕ) → Option (List ℕ) → Option (List ℕ) → ℕ → Type 0
EndsWithin limits words input old new status =
    EndsAs Refuses Orders (λ order. IsOrder order × EndsServingWithin limits order input old new status) words old new status

-- with which status the program ends within the standard limits, given its words, its input, and
-- its output before and after
abbrev pub Ends : {A E : Type 0} → Result (Vec (String A)) E → Option (List ℕ) → Option (List ℕ) → Option (List ℕ) → ℕ → Type 0
Ends words input old new status = EndsWithin Standard words input old new status
