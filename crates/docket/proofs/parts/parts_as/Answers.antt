use Rattle.std.proofs.lemmas.Result.{err_from_is_err_and}
use Rattle.docket.proofs.PartFacts.{tells_first}
use Rattle.docket.proofs.PassedFacts.{some_passed}
use Rattle.docket.proofs.parts.parts_as.Goals as goal

pub docket_from-requires : goal.docket_from-requires
docket_from-requires g c = record { passed = some_passed _ _ c.in_ok-ends.ensures.passed }

pub returns-in_err-ends-clause-fault : goal.returns-in_err-ends-clause-fault
returns-in_err-ends-clause-fault g c =
    let p = err_from_is_err_and c.from_residual.result c.from_residual.ensures.1 in
    let raw = c.in_err-ends.ensures.fault in
    let here = rw c.new-reading.ensures.limits at raw in
    rw (p.1, p.2) (tells_first _ _ _ here)
