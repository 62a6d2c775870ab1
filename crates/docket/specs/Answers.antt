-- How a call answers when it finds a fault.
use Rattle.std.specs.Prelude.{ℕ, Option, Result}
use Rattle.docket.specs.declared.fault.DocketFault.{DocketFault}
use Rattle.docket.specs.declared.fault.DocketFault.TheVariants.{Memory, Model}
use Rattle.docket.specs.declared.records_fault.RecordsFault.{RecordsFault}
use Rattle.docket.specs.declared.records_fault.RecordsFault.TheVariants.{Docket}
use Rattle.match_model.specs.Fault as answers
use Rattle.match_model.specs.declared.fault.ModelFault.{ModelFault}
use Rattle.match_model.specs.declared.fault.ModelFault.TheVariants as model

-- the error is out of memory, or this fault of the docket if there is one
abbrev pub Refuses : Option DocketFault → DocketFault → Type 0
Refuses fault e = answers.Refuses Memory fault e

-- the answer is Ok only if there is no fault of the docket; an error is this fault, or out of
-- memory
abbrev pub Answers : {T : Type 0} → Option DocketFault → Result T DocketFault → Type 0
Answers fault r = answers.Answers Memory fault r

-- an error of reading records is this fault, or out of memory; `StopsAt` says so of the error in a
-- result
abbrev pub Stops : Option RecordsFault → RecordsFault → Type 0
Stops fault e = answers.Refuses (Docket Memory) fault e

abbrev pub StopsAt : {T : Type 0} → Option RecordsFault → Result T RecordsFault → Type 0
StopsAt fault r = answers.Answers (Docket Memory) fault r

-- the builder's fault as a fault of the docket at record n; out of memory names no record
abbrev pub at_record : ℕ → ModelFault → DocketFault
at_record n model.TooManyProgrammes = Model n model.TooManyProgrammes
at_record n model.TooManyResidents = Model n model.TooManyResidents
at_record n model.QuotaTooLarge = Model n model.QuotaTooLarge
at_record n model.NoSuchMember = Model n model.NoSuchMember
at_record n model.ListGivenTwice = Model n model.ListGivenTwice
at_record n model.ListedTwice = Model n model.ListedTwice
at_record n model.TooManyPairs = Model n model.TooManyPairs
at_record n model.Memory = Memory
at_record n model.WithdrawnTwice = Model n model.WithdrawnTwice
