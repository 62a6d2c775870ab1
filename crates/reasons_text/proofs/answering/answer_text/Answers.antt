use Rattle.reasons_text.proofs.answering.answer_text.Goals as goal

pub returns-in-AllResidents : goal.returns-in-AllResidents
returns-in-AllResidents c = rw c.in-AllResidents.is c.table_of.ensures

pub returns-in-Resident : goal.returns-in-Resident
returns-in-Resident c = rw c.in-Resident.is c.lines_of.ensures

pub returns-in-Pair : goal.returns-in-Pair
returns-in-Pair c = rw c.in-Pair.is c.line_of.ensures
