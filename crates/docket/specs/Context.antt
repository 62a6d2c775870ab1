-- Faults of a record that depend on the records before it.
use Rattle.std.specs.Prelude.{List, Option}
use Rattle.std.specs.Option.{option_or}
use Rattle.match_model.specs.declared.limits.Limits.{Limits}
use Rattle.records.specs.Reading.{Fields}
use Rattle.docket.specs.Passes.{repeat_fault, limit_fault}
use Rattle.docket.specs.declared.fault.DocketFault.{DocketFault}

-- the fault that a record has only because of the records before it: a repetition, or a limit that
-- it exceeds
abbrev pub context_fault : Limits → List Fields → Fields → Option DocketFault
context_fault limits before row = option_or (repeat_fault before row) (limit_fault limits before row)
