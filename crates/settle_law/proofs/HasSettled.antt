-- Every instance has a settled assignment: the placement of a closed list of events that continues the empty list.
use Rattle.std.proofs.Common.{[], refl}
use Rattle.match_model.specs.Instance.{Instance, IsInstance}
use Rattle.exchange_core.specs.declared.event.Event.{Event}
use Rattle.exchange_core.specs.declared.event.Capacity.TheVariants.{Full}
use Rattle.exchange_core.specs.Left.{given}
use Rattle.exchange_core.proofs.Legal.{legal_nil}
use Rattle.settle_law.specs.ListLaws.{GoesOn}
use Rattle.settle_law.specs.SettledLaws.{HasSettledLaw}
use Rattle.settle_law.proofs.Going.{closes}
use Rattle.settle_law.proofs.Settles.{closed_settles}

pub has_settled : HasSettledLaw
has_settled inst is_instance =
    let on : GoesOn inst Full [] = closes inst Full [] is_instance refl (legal_nil inst Full) in
    let settles = closed_settles inst Full on.rest is_instance on.legal on.closed in
    (given inst on.rest, settles.0, settles.1)
