use Rattle.std.proofs.Common.{◌∙◌, ◌++◌, []}
use Rattle.std.proofs.lemmas.Result.{err_from_is_err_and}
use Rattle.std.specs.Prelude.{Some}
use Rattle.records.specs.Reading.{rows_of}
use Rattle.docket.specs.declared.part.Part.TheVariants.{Docket, Sheet, Journal}
use Rattle.docket.proofs.PartFacts.{all_passed, file_own, files_none, passed_empty, passed_on, tells_first, tells_later, within}
use Rattle.docket.proofs.parts.read_three.Goals as goal

pub returns-in_err-read_file-clause-fault : goal.returns-in_err-read_file-clause-fault
returns-in_err-read_file-clause-fault c =
    let p = err_from_is_err_and c.from_residual.result c.from_residual.ensures.1 in
    rw (p.1, p.2) (tells_first _ _ _ (c.in_err-read_file.ensures.fault [] (passed_empty c.args.reading.now c.requires.empty)))

pub read_file-requires-2 : goal.read_file-requires-2
read_file-requires-2 c =
    let first = c.in_ok-read_file.ensures.passed [] (passed_empty c.args.reading.now c.requires.empty) in
    let one = passed_on (Some Docket) [] (rows_of c.args.docket.now) c.read_file.new.reading first in
    record { within = within _ _ one; workers = c.in_ok-read_file.ensures.workers }

pub returns-in_err-read_file-2-clause-fault : goal.returns-in_err-read_file-2-clause-fault
returns-in_err-read_file-2-clause-fault c =
    let p = err_from_is_err_and c.from_residual-in_err-read_file-2.result c.from_residual-in_err-read_file-2.ensures.1 in
    let first = c.in_ok-read_file.ensures.passed [] (passed_empty c.args.reading.now c.requires.empty) in
    let one = passed_on (Some Docket) [] (rows_of c.args.docket.now) c.read_file.new.reading first in
    let own = file_own Docket c.args.reading.now.declared.builder.limits [] (rows_of c.args.docket.now) c.read_file.new.reading c.in_ok-read_file.ensures.limits first in
    let raw = c.in_err-read_file-2.ensures.fault (rows_of c.args.docket.now) one in
    let here = rw c.in_ok-read_file.ensures.limits at raw in
    rw (p.1, p.2) (tells_later _ _ _ own (tells_first _ _ _ here))

pub read_file-requires-3 : goal.read_file-requires-3
read_file-requires-3 c =
    let first = c.in_ok-read_file.ensures.passed [] (passed_empty c.args.reading.now c.requires.empty) in
    let one = passed_on (Some Docket) [] (rows_of c.args.docket.now) c.read_file.new.reading first in
    let second = c.in_ok-read_file-2.ensures.passed (rows_of c.args.docket.now) one in
    let two = passed_on (Some Sheet) (rows_of c.args.docket.now) (rows_of c.args.sheet.now) c.read_file-2.new.reading second in
    record { within = within _ _ two; workers = c.in_ok-read_file-2.ensures.workers }

pub returns-in_err-read_file-3-clause-fault : goal.returns-in_err-read_file-3-clause-fault
returns-in_err-read_file-3-clause-fault c =
    let p = err_from_is_err_and c.from_residual-in_err-read_file-3.result c.from_residual-in_err-read_file-3.ensures.1 in
    let first = c.in_ok-read_file.ensures.passed [] (passed_empty c.args.reading.now c.requires.empty) in
    let one = passed_on (Some Docket) [] (rows_of c.args.docket.now) c.read_file.new.reading first in
    let second = c.in_ok-read_file-2.ensures.passed (rows_of c.args.docket.now) one in
    let two = passed_on (Some Sheet) (rows_of c.args.docket.now) (rows_of c.args.sheet.now) c.read_file-2.new.reading second in
    let own = file_own Docket c.args.reading.now.declared.builder.limits [] (rows_of c.args.docket.now) c.read_file.new.reading c.in_ok-read_file.ensures.limits first in
    let lim = c.in_ok-read_file-2.ensures.limits ∙ c.in_ok-read_file.ensures.limits in
    let later = file_own Sheet c.args.reading.now.declared.builder.limits (rows_of c.args.docket.now) (rows_of c.args.sheet.now) c.read_file-2.new.reading lim second in
    let raw = c.in_err-read_file-3.ensures.fault (rows_of c.args.docket.now ++ rows_of c.args.sheet.now) two in
    let here = rw lim at raw in
    rw (p.1, p.2) (tells_later _ _ _ own (tells_later _ _ _ later here))

pub returns-clause-own : goal.returns-clause-own
returns-clause-own c =
    let first = c.in_ok-read_file.ensures.passed [] (passed_empty c.args.reading.now c.requires.empty) in
    let one = passed_on (Some Docket) [] (rows_of c.args.docket.now) c.read_file.new.reading first in
    let second = c.in_ok-read_file-2.ensures.passed (rows_of c.args.docket.now) one in
    let two = passed_on (Some Sheet) (rows_of c.args.docket.now) (rows_of c.args.sheet.now) c.read_file-2.new.reading second in
    let own = file_own Docket c.args.reading.now.declared.builder.limits [] (rows_of c.args.docket.now) c.read_file.new.reading c.in_ok-read_file.ensures.limits first in
    let lim = c.in_ok-read_file-2.ensures.limits ∙ c.in_ok-read_file.ensures.limits in
    let later = file_own Sheet c.args.reading.now.declared.builder.limits (rows_of c.args.docket.now) (rows_of c.args.sheet.now) c.read_file-2.new.reading lim second in
    let third = c.in_ok-read_file-3.ensures.passed (rows_of c.args.docket.now ++ rows_of c.args.sheet.now) two in
    files_none _ _ _ own later (file_own Journal c.args.reading.now.declared.builder.limits (rows_of c.args.docket.now ++ rows_of c.args.sheet.now) (rows_of c.args.journal.now) c.read_file-3.new.reading (c.in_ok-read_file-3.ensures.limits ∙ lim) third)

pub returns-clause-passed : goal.returns-clause-passed
returns-clause-passed c =
    let first = c.in_ok-read_file.ensures.passed [] (passed_empty c.args.reading.now c.requires.empty) in
    let one = passed_on (Some Docket) [] (rows_of c.args.docket.now) c.read_file.new.reading first in
    let second = c.in_ok-read_file-2.ensures.passed (rows_of c.args.docket.now) one in
    let two = passed_on (Some Sheet) (rows_of c.args.docket.now) (rows_of c.args.sheet.now) c.read_file-2.new.reading second in
    let third = c.in_ok-read_file-3.ensures.passed (rows_of c.args.docket.now ++ rows_of c.args.sheet.now) two in
    all_passed ((rows_of c.args.docket.now ++ rows_of c.args.sheet.now) ++ rows_of c.args.journal.now) c.read_file-3.new.reading
    (passed_on (Some Journal) (rows_of c.args.docket.now ++ rows_of c.args.sheet.now) (rows_of c.args.journal.now) c.read_file-3.new.reading third)

pub returns-clause-ends : goal.returns-clause-ends
returns-clause-ends c =
    let first = c.in_ok-read_file.ensures.passed [] (passed_empty c.args.reading.now c.requires.empty) in
    let one = passed_on (Some Docket) [] (rows_of c.args.docket.now) c.read_file.new.reading first in
    let second = c.in_ok-read_file-2.ensures.passed (rows_of c.args.docket.now) one in
    let two = passed_on (Some Sheet) (rows_of c.args.docket.now) (rows_of c.args.sheet.now) c.read_file-2.new.reading second in
    record { docket_end = one.reading_is.records; sheet_end = two.reading_is.records }
