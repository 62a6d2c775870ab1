-- How the program ends, from its words, its input and its output.
use Rattle.std.specs.Prelude.{◌≡◌, ◌≢◌, ◌⊎◌, ℕ, Option, Some, None, Result, List, MatchResult, String, is_some, option_map}
use Rattle.std.specs.Global.{Vec}
use Rattle.std.specs.Io.KnownBytes.{Appends}
use Rattle.audit_files.specs.declared.fault.FilesFault.TheVariants.{Write}
use Rattle.program_shell.specs.Ends.{EndsAs, EndsServed}
use Rattle.program_shell.specs.Loading.{AreInput}
use Rattle.receipt_check.specs.Faults.{digest_of, receipt_fault}
use Rattle.receipt_check.specs.Good.{IsReceiptFault}
use Rattle.receipt_check.specs.Told.{told_of}
use Rattle.receipt_check.specs.declared.wrong.ReceiptFault.{ReceiptFault}
use Rattle.receipt_check.specs.declared.wrong.ReceiptFault.TheVariants as receipt
use Rattle.seal_text.specs.Compared.{EndsPair, EndsPairs}
use Rattle.seal_text.specs.Line.{OrdersSeal, RefusesSeal}
use Rattle.seal_text.specs.Serving.{IsSealFault, IsServed}
use Rattle.seal_text.specs.Status.{receipt_status_of, seal_status_of}
use Rattle.seal_text.specs.declared.fault.SealFault.{SealFault}
use Rattle.seal_text.specs.declared.fault.SealFault.TheVariants as seal
use Rattle.seal_text.specs.declared.line.Sources.{Sources}
use Rattle.seal_text.specs.declared.line.Order.{Order}
use Rattle.seal_text.specs.declared.line.Order.TheVariants.{Seal, Check, Pair, Pairs}
use Rattle.seal_text.specs.declared.line.Roots.{Roots}
use Rattle.seal_text.specs.declared.serve.Wanted.{Wanted}

-- The docket is standard input, and there is a sheet exactly if one is named, and a key exactly if one is named. Either
-- the wanted text was appended, or this fault says why it was not.
pub record AnswersSeal (wanted : Wanted) (files : Sources) (input old new : Option (List ℕ)) (answer : Result (Unit {0}) SealFault) : Type 0 where
  pub docket : List ℕ
  pub sheet : Option (List ℕ)
  pub key : Option (List ℕ)
  pub secret : List ℕ
  pub docket_is : AreInput input docket
  pub sheet_is : is_some sheet ≡ is_some files.sheet
  pub key_is : is_some key ≡ is_some files.key
  pub answers : MatchResult answer
      (λ _. (text : List ℕ) × IsServed wanted docket sheet key secret text × Appends old new text)
      (λ fault. IsSealFault wanted docket sheet key secret fault × (fault ≢ seal.Files Write → new ≡ old))

-- The receipt is standard input. Either what it shows was appended, or the answer is a fault that says why not.
pub record AnswersCheck (lists : List ℕ) (outcome : Option (List ℕ)) (input old new : Option (List ℕ)) (answer : Result (Unit {0}) ReceiptFault)
    : Type 0 where
  pub bytes : List ℕ
  pub bytes_are : AreInput input bytes
  pub answers : MatchResult answer
      (λ _. (receipt_fault lists outcome bytes ≡ None) × Appends old new (told_of outcome bytes))
      (λ fault. IsReceiptFault lists outcome bytes fault × (fault ≢ receipt.Write → new ≡ old))

-- the result's root, if its digits are given: `Some None` means that the digits write no root
abbrev pub outcome_of : Roots → Option (Option (List ℕ))
outcome_of roots = option_map (λ digits. digest_of digits.now) roots.outcome

-- a root isn't 64 small hexadecimal digits, nothing was written, and the status is 2
pub record EndsBadRoot (roots : Roots) (old new : Option (List ℕ)) (status : ℕ) : Type 0 where
  pub bad : (digest_of roots.lists.now ≡ None) ⊎ (outcome_of roots ≡ Some None)
  pub nothing : new ≡ old
  pub tells : status ≡ 2

-- the digits write these roots, of which that of the result is there exactly if its digits are given, and the receipt was
-- not read, or was checked against these roots
pub record EndsChecked (roots : Roots) (input old new : Option (List ℕ)) (status : ℕ) : Type 0 where
  pub lists : List ℕ
  pub outcome : Option (List ℕ)
  pub lists_are : digest_of roots.lists.now ≡ Some lists
  pub outcome_is : outcome_of roots ≡ option_map Some outcome
  pub ends : EndsServed (AnswersCheck lists outcome input old new) receipt_status_of old new status

-- what the order asks for was done, or a file or directory that it names was not read
abbrev pub ServesSeal : Option (List ℕ) → Option (List ℕ) → Option (List ℕ) → ℕ → Order → Type 0
ServesSeal input old new status (Seal wanted files) = EndsServed (AnswersSeal wanted files input old new) seal_status_of old new status
ServesSeal input old new status (Check roots) = EndsBadRoot roots old new status ⊎ EndsChecked roots input old new status
ServesSeal input old new status (Pair rows two) = EndsPair rows old new status
ServesSeal input old new status (Pairs rows directory) = EndsPairs rows old new status

-- with which status the program ends, given its words, its input, and its output before and after
abbrev pub EndsSeal : {A E : Type 0} → Result (Vec (String A)) E → Option (List ℕ) → Option (List ℕ) → Option (List ℕ) → ℕ → Type 0
EndsSeal words input old new status = EndsAs RefusesSeal OrdersSeal (ServesSeal input old new status) words old new status
