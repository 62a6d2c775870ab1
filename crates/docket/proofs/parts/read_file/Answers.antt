use Rattle.std.proofs.Common.{refl}
use Rattle.records.specs.Reading.{rows_of}
use Rattle.docket.proofs.PartFacts.{file_told}
use Rattle.docket.proofs.parts.read_file.Goals as goal

pub returns-in-Err-clause-fault : goal.returns-in-Err-clause-fault
returns-in-Err-clause-fault c = λ kept p.
    rw c.fault_in_file.ensures
    (file_told c.args.file c.args.reading.now.declared.builder.limits kept (rows_of c.args.bytes.now) c.args.reading.now c.args.reading.now.records _ p refl (c.in-Err.ensures.fault kept p))
