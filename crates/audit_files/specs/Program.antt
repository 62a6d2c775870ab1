-- With which exit status the program ends, given its words, its input and what it has written.
use Rattle.std.specs.Prelude.{◌≡◌, ◌≢◌, ℕ, Option, Result, List, MatchResult, String}
use Rattle.std.specs.Global.{Vec}
use Rattle.std.specs.Io.KnownBytes.{Appends}
use Rattle.program_shell.specs.Ends.{EndsAs, EndsServed}
use Rattle.audit_files.specs.Answer.{AnswersFiles, IsServingFault}
use Rattle.audit_files.specs.Line.{Orders, Refuses}
use Rattle.audit_files.specs.Loading.{AreFiles, NamesInput}
use Rattle.audit_files.specs.Status.{exit_status_of}
use Rattle.audit_files.specs.declared.fault.FilesFault.{FilesFault}
use Rattle.audit_files.specs.declared.fault.FilesFault.TheVariants.{Write}
use Rattle.audit_files.specs.declared.order.Order.{Order}
use Rattle.audit_files.specs.declared.serve.Verdict.{Verdict}

-- The files that the order names have these bytes. Either the answer was appended to the output, or this fault
-- says why not.
pub record AnswersOrder (order : Order) (input old new : Option (List ℕ)) (answer : Result Verdict FilesFault) : Type 0 where
  pub docket : List ℕ
  pub sheet : List ℕ
  pub journal : Option (List ℕ)
  pub files : AreFiles order input docket sheet journal
  pub answers : MatchResult answer
      (λ verdict. (text : List ℕ) × AnswersFiles order.facts docket sheet journal verdict text × Appends old new text)
      (λ fault. IsServingFault docket sheet journal fault × (fault ≢ Write → new ≡ old))

-- A file of the order was not read, or the order was answered. If no file of the order is standard input, nothing
-- was read from it.
pub record Serves (input left old new : Option (List ℕ)) (status : ℕ) (order : Order) : Type 0 where
  pub kept : (NamesInput order → ⊥) → left ≡ input
  pub ends : EndsServed (AnswersOrder order input old new) exit_status_of old new status

-- with which status the program ends, given its words, its input before and after, and its output before and after
abbrev pub Ends : {A E : Type 0} → Result (Vec (String A)) E → Option (List ℕ) → Option (List ℕ) → Option (List ℕ) → Option (List ℕ) → ℕ → Type 0
Ends words input left old new status = EndsAs Refuses Orders (Serves input left old new status) words old new status
