-- In which file a fault is, and at which record of this file.
use Rattle.std.specs.Prelude.{ℕ, ◌-◌, zero, nat_le, Bool, true, false, if◌then◌else◌}
use Rattle.docket.specs.declared.part.Part.{Part}
use Rattle.docket.specs.declared.part.Part.TheVariants as part
use Rattle.docket.specs.declared.file_fault.FileFault.{FileFault}
use Rattle.docket.specs.declared.fault.DocketFault.{DocketFault}
use Rattle.docket.specs.declared.records_fault.RecordsFault.{RecordsFault}
use Rattle.docket.specs.declared.records_fault.RecordsFault.TheVariants as records
use Rattle.docket.specs.declared.fault.DocketFault.TheVariants.{Read, TooManyRecords, UnknownKind, FieldCount, BadName, BadQuota, DeclaredTwice, UnknownName, Model, BadEvent, BadSheet, Memory, Write, BadVersion, BadWithdrawal}

-- the number of the record at fault, or 0 if the fault names none
abbrev pub number_of : DocketFault → ℕ
number_of (Read place) = place
number_of (TooManyRecords place) = place
number_of (UnknownKind place) = place
number_of (FieldCount place) = place
number_of (BadName place) = place
number_of (BadQuota place) = place
number_of (DeclaredTwice place) = place
number_of (UnknownName place) = place
number_of (Model place fault) = place
number_of (BadEvent place) = place
number_of (BadSheet place) = place
number_of Memory = zero
number_of Write = zero
number_of (BadVersion place) = place
number_of (BadWithdrawal place) = place

-- the same kind of fault at the record with this number; a reader's fault is unchanged, since its record is
-- already counted in its own file
abbrev pub at_place : ℕ → DocketFault → DocketFault
at_place place (Read other) = Read other
at_place place (TooManyRecords other) = TooManyRecords place
at_place place (UnknownKind other) = UnknownKind place
at_place place (FieldCount other) = FieldCount place
at_place place (BadName other) = BadName place
at_place place (BadQuota other) = BadQuota place
at_place place (DeclaredTwice other) = DeclaredTwice place
at_place place (UnknownName other) = UnknownName place
at_place place (Model other fault) = Model place fault
at_place place (BadEvent other) = BadEvent place
at_place place (BadSheet other) = BadSheet place
at_place place Memory = Memory
at_place place Write = Write
at_place place (BadVersion other) = BadVersion place
at_place place (BadWithdrawal other) = BadWithdrawal place

-- the fault with its record counted in its own file, if `before` records of other files come before that file
abbrev pub there_is : ℕ → RecordsFault → RecordsFault
there_is before (records.Docket fault) = records.Docket (at_place (number_of fault - before) fault)
there_is before (records.TooManyListed place) = records.TooManyListed (place - before)
there_is before (records.AnotherPart place) = records.AnotherPart (place - before)

-- the fault of this file: its record is counted in this file, which comes after `before` records of other files
abbrev pub there : Part → ℕ → RecordsFault → FileFault
there file before fault = record { file = file; fault = there_is before fault }

-- the last file that can have such a fault: the docket for a fault of a list, the sheet for a fault of the sheet,
-- and else the journal
abbrev pub last_file : DocketFault → Part
last_file (Model place fault) = part.Docket
last_file (BadSheet place) = part.Sheet
last_file fault = part.Journal

-- whether a part of a market's files is the docket; `is_sheet` says whether a part is the sheet
abbrev pub is_docket : Part → Bool
is_docket part.Docket = true
is_docket part.Sheet = false
is_docket part.Journal = false

abbrev pub is_sheet : Part → Bool
is_sheet part.Docket = false
is_sheet part.Sheet = true
is_sheet part.Journal = false

-- The file of a record, and the record's number in that file, from its number among all records. `docket` and `sheet`
-- are the numbers of records up to the end of the docket and up to the end of the sheet. A number past the last file
-- that can have the fault means the last record of that file.
abbrev pub in_file : ℕ → ℕ → Part → ℕ → Part × ℕ
in_file docket sheet last place =
    if nat_le place docket then (part.Docket, place)
    else if is_docket last then (part.Docket, docket)
    else if nat_le place sheet then (part.Sheet, place - docket)
    else if is_sheet last then (part.Sheet, sheet - docket)
    else (part.Journal, place - sheet)

-- this kind of fault, at this record of this file
abbrev pub fault_there : DocketFault → Part × ℕ → FileFault
fault_there fault at = record { file = at.0; fault = records.Docket (at_place at.1 fault) }

-- a fault that a later pass finds in the records of all files together, as a fault of one file
abbrev pub located : ℕ → ℕ → DocketFault → FileFault
located docket sheet fault = fault_there fault (in_file docket sheet (last_file fault) (number_of fault))
