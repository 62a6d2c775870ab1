-- With which exit status the program ends, given its words, its input and what it has written.
use Rattle.std.specs.Prelude.{◌≡◌, ◌≢◌, ℕ, Option, Some, None, Result, List, MatchResult, is_some}
use Rattle.std.specs.Prelude.{String}
use Rattle.std.specs.Global.{Vec}
use Rattle.docket.specs.declared.fault.DocketFault.TheVariants as docket
use Rattle.match_model.specs.declared.limits.Limits.{Limits}
use Rattle.match_model.specs.declared.limits.Limits.TheVariants.{Standard}
use Rattle.program_shell.specs.Ends.{EndsAs, EndsServed}
use Rattle.program_shell.specs.Loading.{AreInput}
use Rattle.reasons_text.specs.Faults.{IsServeFaultWithin}
use Rattle.reasons_text.specs.Files.{AnswersFilesWithin, IsFilesFaultWithin}
use Rattle.reasons_text.specs.Line.{Asks, Refuses}
use Rattle.reasons_text.specs.Status.{exit_status_of}
use Rattle.reasons_text.specs.Texts.{AnswersWithin, AppendsText}
use Rattle.reasons_text.specs.declared.fault.WhyFault.{WhyFault}
use Rattle.reasons_text.specs.declared.fault.WhyFault.TheVariants.{Docket}
use Rattle.reasons_text.specs.declared.question.Question.{Question}

-- whether there is an answer, and if not, why
abbrev pub Answer : Type 0
Answer = Result (Unit {0}) WhyFault

-- a text with this property was appended, or a fault with this property occurred; nothing was written before a fault
-- other than the writer's
abbrev pub AppendsOrFails : (List ℕ → Type 0) → (WhyFault → Type 0) → Option (List ℕ) → Option (List ℕ) → Answer → Type 0
AppendsOrFails Wanted IsFault old new answer = MatchResult answer
    (λ _. AppendsText Wanted old new)
    (λ fault. IsFault fault × (fault ≢ Docket docket.Write → new ≡ old))

-- the answer over the docket in the input and the sheet in a file of its own, within these limits
pub record AnswersBeside (limits : Limits) (question : Question) (input key old new : Option (List ℕ)) (answer : Answer) : Type 0 where
  pub docket : List ℕ
  pub sheet : List ℕ
  pub docket_is : AreInput input docket
  pub answers : AppendsOrFails (AnswersFilesWithin limits docket sheet key question.asked question.without_ranks)
      (IsFilesFaultWithin limits docket sheet key question.asked) old new answer

-- The answer to the question over the input. If the question names a sheet's file, it is the answer over the input and
-- this file.
abbrev pub AnswersOver : {A : Type 0} → Limits → Option A → Question → Option (List ℕ) → Option (List ℕ) → Option (List ℕ) → Option (List ℕ) → Answer
    → Type 0
AnswersOver limits None question input key old new answer =
    AppendsOrFails (AnswersWithin limits input key question.asked question.without_ranks) (IsServeFaultWithin limits input key question.asked) old new answer
AnswersOver limits (Some path) question input key old new answer = AnswersBeside limits question input key old new answer

-- The answer to the question within these limits. The key has the bytes of the file that the question names, and there is
-- none if it names none.
pub record AnswersQuestion (limits : Limits) (question : Question) (input old new : Option (List ℕ)) (answer : Answer) : Type 0 where
  pub key : Option (List ℕ)
  pub keyed : is_some key ≡ is_some question.key
  pub answers : AnswersOver limits question.sheet question input key old new answer

-- a file of the question was not read, or the question was answered within these limits
abbrev pub Serves : Limits → Option (List ℕ) → Option (List ℕ) → Option (List ℕ) → ℕ → Question → Type 0
Serves limits input old new status question = EndsServed (AnswersQuestion limits question input old new) exit_status_of old new status

-- with which status the program ends within these limits, given its words, its input, and its output before and after
abbrev pub EndsWithin : {A E : Type 0} → Limits → Result (Vec (String A)) E → Option (List ℕ) → Option (List ℕ) → Option (List ℕ) → ℕ → Type 0
EndsWithin limits words input old new status = EndsAs Refuses Asks (Serves limits input old new status) words old new status

-- with which status the program ends within the standard limits, given its words, its input, and its output before
-- and after
abbrev pub Ends : {A E : Type 0} → Result (Vec (String A)) E → Option (List ℕ) → Option (List ℕ) → Option (List ℕ) → ℕ → Type 0
Ends words input old new status = EndsWithin Standard words input old new status
