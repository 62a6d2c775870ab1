-- A fault of the docket's reader as a fault of the audit over files.
use Rattle.docket.specs.declared.part.Part.{Part}
use Rattle.docket.specs.declared.file_fault.FileFault.{FileFault}
use Rattle.docket.specs.declared.records_fault.RecordsFault.{RecordsFault}
use Rattle.docket.specs.declared.records_fault.RecordsFault.TheVariants as records
use Rattle.docket.specs.declared.fault.DocketFault.TheVariants as docket
use Rattle.audit_files.specs.declared.fault.FilesFault.{FilesFault}
use Rattle.audit_files.specs.declared.fault.FilesFault.TheVariants as files

-- a fault of this file's records; out of memory is no file's fault
abbrev pub told_in : Part → RecordsFault → FilesFault
told_in file (records.Docket docket.Memory) = files.Memory
told_in file fault = files.Docket file fault

-- a fault of the docket's reader, as a fault of the audit over files
abbrev pub told : FileFault → FilesFault
told there = told_in there.file there.fault
