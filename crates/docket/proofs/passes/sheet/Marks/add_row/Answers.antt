use Rattle.docket.proofs.passes.sheet.Marks.add_row.Goals as goal

pub returns-in-Matched-clause-marked : goal.returns-in-Matched-clause-marked
returns-in-Matched-clause-marked c = rw c.in-Matched.is c.add_matched.ensures.marked

pub returns-in-Matched-clause-fault : goal.returns-in-Matched-clause-fault
returns-in-Matched-clause-fault c = λ texts all before row h marked. c.add_matched.ensures.fault texts all before row (rw c.in-Matched.is at h) marked

pub returns-in-Unmatched-clause-marked : goal.returns-in-Unmatched-clause-marked
returns-in-Unmatched-clause-marked c = rw c.in-Unmatched.is (c.add_unmatched.ensures.marked c.args.programmes.now)

pub returns-in-Unmatched-clause-fault : goal.returns-in-Unmatched-clause-fault
returns-in-Unmatched-clause-fault c = λ texts all before row h marked. c.add_unmatched.ensures.fault c.args.programmes.now texts all before row (rw c.in-Unmatched.is at h) marked

pub returns-in-Filled-clause-marked : goal.returns-in-Filled-clause-marked
returns-in-Filled-clause-marked c = rw c.in-Filled.is (c.add_filled.ensures.marked c.in-Filled.filled c.in-Filled.quota c.args.residents.now)

pub returns-in-Filled-clause-fault : goal.returns-in-Filled-clause-fault
returns-in-Filled-clause-fault c = λ texts all before row h marked. c.add_filled.ensures.fault c.in-Filled.filled c.in-Filled.quota c.args.residents.now texts all before row (rw c.in-Filled.is at h) marked
