-- The laws about the placement of a closed exchange, proved from what legal lists of events show.
use Rattle.exchange_core.specs.Left.{given}
use Rattle.settle_law.specs.SettledLaws.{NeverRejectsLaw, SettledLaw, SameResidentsLaw}
use Rattle.settle_law.proofs.FromLegal.{offered, taken, never_rejects, closing_of_closed}
use Rattle.settle_law.proofs.AtClose.{given_is_stable}
use Rattle.settle_law.proofs.SameResidents.{given_is_settled, same_matched, same_numbers}

pub spares_achievable : NeverRejectsLaw
spares_achievable inst cap j good legal r = never_rejects inst cap good j legal r

pub closed_settles : SettledLaw
closed_settles inst cap j good legal closed =
    let c = closing_of_closed inst cap good j legal closed in
    (given_is_stable inst good (offered j) (taken j) (given inst j) c, given_is_settled inst good (offered j) (taken j) (given inst j) c)

pub closed_same_residents : SameResidentsLaw
closed_same_residents inst cap j good legal closed m st =
    let c = closing_of_closed inst cap good j legal closed in
    (same_matched inst good (offered j) (taken j) (given inst j) c m st, same_numbers inst good (offered j) (taken j) (given inst j) c m st)
