-- How the program ends when it compares receipts.
use Rattle.std.specs.Prelude.{◌≡◌, ◌≢◌, ◌⊎◌, ℕ, Option, Some, None, Result, Ok, Err, List, Bool, true, false, MatchResult, is_some, not, option_map}
use Rattle.std.specs.Io.KnownBytes.{Appends}
use Rattle.program_shell.specs.Ends.{EndsServed}
use Rattle.receipt_check.specs.Compared.{IsCompareFault, pair_fault}
use Rattle.receipt_check.specs.Folder.{contents_of, folder_fault, folder_text, is_stable}
use Rattle.receipt_check.specs.Pair.{content_of, difference, pair_words}
use Rattle.receipt_check.specs.Published.{published_in, row_of}
use Rattle.receipt_check.specs.declared.published.Published.{Published}
use Rattle.receipt_check.specs.declared.wrong.CompareFault.{CompareFault}
use Rattle.receipt_check.specs.declared.wrong.CompareFault.TheVariants as faults
use Rattle.seal_text.specs.Status.{compare_status_of}
use Rattle.seal_text.specs.declared.compare_line.PublishedRows.{PublishedRows}

-- The two files have these bytes. Either the sentence on their receipts was appended, and the answer says whether the
-- receipts agree; or the answer is the fault.
pub record AnswersPair (lists outcome : Published) (old new : Option (List ℕ)) (answer : Result Bool CompareFault) : Type 0 where
  pub resident : List ℕ
  pub programme : List ℕ
  pub answers : MatchResult answer
      (λ agree. (pair_fault lists outcome resident programme ≡ None)
      × Appends old new (pair_words (content_of resident) (content_of programme))
      × (agree ≡ not (is_some (difference (content_of resident) (content_of programme)))))
      (λ fault. IsCompareFault (pair_fault lists outcome resident programme) fault × (fault ≢ faults.Write → new ≡ old))

-- The files of the directory have these bytes. Either the text on their receipts was appended, and the answer says
-- whether the placement is stable; or the answer is the fault.
pub record AnswersFolder (lists outcome : Published) (old new : Option (List ℕ)) (answer : Result Bool CompareFault) : Type 0 where
  pub files : List (List ℕ)
  pub answers : MatchResult answer
      (λ stable. (folder_fault lists outcome files ≡ None)
      × Appends old new (folder_text lists.members (contents_of files))
      × (stable ≡ is_stable lists.members (contents_of files)))
      (λ fault. IsCompareFault (folder_fault lists outcome files) fault × (fault ≢ faults.Write → new ≡ old))

-- one of the two rows isn't a number, a comma and 64 small hexadecimal digits; nothing was written, and the status
-- is 2
pub record EndsBadRow (rows : PublishedRows) (old new : Option (List ℕ)) (status : ℕ) : Type 0 where
  pub bad : (published_in rows.lists.now ≡ None) ⊎ (published_in rows.outcome.now ≡ None)
  pub nothing : new ≡ old
  pub tells : status ≡ 2

-- the rows write these two roots with their numbers of members, and receipts were compared under them, or a file was
-- not read
pub record EndsCompared (Answers : Published → Published → Result Bool CompareFault → Type 0) (rows : PublishedRows) (old new : Option (List ℕ)) (status : ℕ)
    : Type 0 where
  pub lists : Published
  pub outcome : Published
  pub lists_are : published_in rows.lists.now ≡ Some (row_of lists)
  pub outcome_is : published_in rows.outcome.now ≡ Some (row_of outcome)
  pub ends : EndsServed (Answers lists outcome) compare_status_of old new status

-- how the program ends when it compares two receipts; `EndsPairs` says it of the receipts of a directory
abbrev pub EndsPair : PublishedRows → Option (List ℕ) → Option (List ℕ) → ℕ → Type 0
EndsPair rows old new status =
    EndsBadRow rows old new status ⊎ EndsCompared (λ lists outcome. AnswersPair lists outcome old new) rows old new status

abbrev pub EndsPairs : PublishedRows → Option (List ℕ) → Option (List ℕ) → ℕ → Type 0
EndsPairs rows old new status =
    EndsBadRow rows old new status ⊎ EndsCompared (λ lists outcome. AnswersFolder lists outcome old new) rows old new status
