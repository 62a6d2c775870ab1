-- Without a key, a name means the docket's member of this name.
use Rattle.reasons_text.specs.Naming.{IsKeyless, Naming}
use Rattle.reasons_text.specs.Texts.{Asks, AsksByDocket}
use Rattle.reasons_text.specs.declared.answering.AskedMembers.{AskedMembers as Told}
use Rattle.reasons_text.specs.declared.answering.AskedMembers.TheVariants.{AllResidents, Resident, Pair}
use Rattle.reasons_text.specs.declared.question.Asked.{Asked}
use Rattle.reasons_text.specs.declared.question.Asked.TheVariants as asked
use Rattle.reasons_text.specs.declared.side.Side.TheVariants.{Programmes, Residents}
use Rattle.reasons_text.proofs.MeantFacts.{by_docket}

-- if there is no key, a question means members by their names in the docket
pub asked_keyless : (names : Naming) (question : Asked) (told : Told) → IsKeyless names → Asks names question told → AsksByDocket names.docket question told
asked_keyless names asked.AllResidents AllResidents none h = tt
asked_keyless names asked.AllResidents (Resident r) none h = absurd h
asked_keyless names asked.AllResidents (Pair r p) none h = absurd h
asked_keyless names (asked.Resident name) AllResidents none h = absurd h
asked_keyless names (asked.Resident name) (Resident r) none h = by_docket names Residents name.now r none.0 h.is_meant
asked_keyless names (asked.Resident name) (Pair r p) none h = absurd h
asked_keyless names (asked.Pair resident programme) AllResidents none h = absurd h
asked_keyless names (asked.Pair resident programme) (Resident r) none h = absurd h
asked_keyless names (asked.Pair resident programme) (Pair r p) none h =
    (by_docket names Residents resident.now r none.0 h.0.is_meant, by_docket names Programmes programme.now p none.1 h.1.is_meant)
