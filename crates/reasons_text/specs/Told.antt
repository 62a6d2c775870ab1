-- Which members a question is about.
use Rattle.match_model.specs.Instance.{Instance, IsProgramme, IsResident}
use Rattle.reasons_text.specs.declared.answering.AskedMembers.{AskedMembers as Told}
use Rattle.reasons_text.specs.declared.answering.AskedMembers.TheVariants.{AllResidents, Resident, Pair}

-- each member that a question names belongs to the instance
abbrev pub IsTold : Instance → Told → Type 0
IsTold inst AllResidents = Unit {0}
IsTold inst (Resident r) = IsResident inst r
IsTold inst (Pair r p) = IsResident inst r × IsProgramme inst p
