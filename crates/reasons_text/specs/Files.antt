-- The answer over a docket's file and a sheet's file, each read as its own part.
use Rattle.std.specs.Prelude.{◌≡◌, ◌⊎◌, ℕ, Bool, Option, Some, None, List, []}
use Rattle.docket.specs.Contents.{Contents}
use Rattle.docket.specs.Parts.{IsInFilesWithLists, Tells, fault_of_files}
use Rattle.docket.specs.declared.part.Part.{Part}
use Rattle.docket.specs.declared.file_fault.FileFault.{FileFault}
use Rattle.docket.specs.declared.records_fault.RecordsFault.{RecordsFault}
use Rattle.docket.specs.declared.records_fault.RecordsFault.TheVariants as rf
use Rattle.docket.specs.declared.fault.DocketFault.TheVariants as df
use Rattle.match_model.specs.Written.{Written}
use Rattle.match_model.specs.declared.limits.Limits.{Limits}
use Rattle.match_model.specs.declared.limits.Limits.TheVariants.{Standard}
use Rattle.reasons_text.specs.Answers.{CaseParts}
use Rattle.reasons_text.specs.Faults.{IsTextFault}
use Rattle.reasons_text.specs.Texts.{Answers}
use Rattle.reasons_text.specs.declared.fault.WhyFault.{WhyFault}
use Rattle.reasons_text.specs.declared.fault.WhyFault.TheVariants.{Docket, EmptySheet, Records}
use Rattle.reasons_text.specs.declared.question.Asked.{Asked}

-- the case of the docket and the sheet in these files, within these limits
pub record IsCaseInFiles (limits : Limits) (docket sheet : List ℕ) (c : CaseParts) : Type 0 where
  pub read : IsInFilesWithLists limits docket sheet [] c.docket c.written
  pub has_sheet : c.docket.sheet ≡ Some c.sheet

-- the text answers the question over the docket and the sheet of these files within these limits
pub record AnswersFilesWithin (limits : Limits) (docket sheet : List ℕ) (key : Option (List ℕ)) (question : Asked) (without_ranks : Bool)
    (text : List ℕ) : Type 0 where
  pub case : CaseParts
  pub read : IsCaseInFiles limits docket sheet case
  pub answers : Answers case key question without_ranks text

-- the text answers the question over the docket and the sheet of these files within the standard limits
abbrev pub AnswersFiles : List ℕ → List ℕ → Option (List ℕ) → Asked → Bool → List ℕ → Type 0
AnswersFiles docket sheet key question without_ranks text = AnswersFilesWithin Standard docket sheet key question without_ranks text

-- a fault of this file's records; out of memory is no file's fault
abbrev pub told_in : Part → RecordsFault → WhyFault
told_in file (rf.Docket df.Memory) = Docket df.Memory
told_in file fault = Records file fault

-- a fault of the files, with its file
abbrev pub in_its_file : FileFault → WhyFault
in_its_file there = told_in there.file there.fault

-- the files have this fault within these limits; or memory ran out, or the machine had no random bytes for the reader
pub record HasFileFault (limits : Limits) (docket sheet : List ℕ) (fault : WhyFault) : Type 0 where
  pub first : FileFault
  pub is_first : Tells (fault_of_files limits docket sheet []) first
  pub is_told : fault ≡ in_its_file first

-- the files are a docket without a sheet within these limits
pub record HasEmptySheet (limits : Limits) (docket sheet : List ℕ) : Type 0 where
  pub contents : Contents
  pub written : Written
  pub read : IsInFilesWithLists limits docket sheet [] contents written
  pub none : contents.sheet ≡ None

-- why no docket with a sheet was read from the files within these limits
abbrev pub IsFilesCaseFault : Limits → List ℕ → List ℕ → WhyFault → Type 0
IsFilesCaseFault limits docket sheet fault = (fault ≡ Docket df.Memory)
    ⊎ (HasFileFault limits docket sheet fault ⊎ ((fault ≡ EmptySheet) × HasEmptySheet limits docket sheet))

-- why no answer was given over the files within these limits
abbrev pub IsFilesTellFault : Limits → List ℕ → List ℕ → Option (List ℕ) → Asked → WhyFault → Type 0
IsFilesTellFault limits docket sheet key question fault = IsFilesCaseFault limits docket sheet fault
    ⊎ ((c : CaseParts) × (IsCaseInFiles limits docket sheet c × IsTextFault c key question fault))

-- why no complete answer over files was written, within these limits
abbrev pub IsFilesFaultWithin : Limits → List ℕ → List ℕ → Option (List ℕ) → Asked → WhyFault → Type 0
IsFilesFaultWithin limits docket sheet key question fault = (fault ≡ Docket df.Write) ⊎ IsFilesTellFault limits docket sheet key question fault

-- why no complete answer over files was written, within the standard limits
abbrev pub IsFilesFault : List ℕ → List ℕ → Option (List ℕ) → Asked → WhyFault → Type 0
IsFilesFault docket sheet key question fault = IsFilesFaultWithin Standard docket sheet key question fault
