-- What is still to be done at a desk, as the core counts it.
use Rattle.std.specs.Prelude.{◌≡◌, ◌&&◌, nat_lt, not, Bool, false, []}
use Rattle.exchange_core.specs.Left.{ResidentLeft, ProgrammeLeft}
use Rattle.exchange_core.specs.Refusal.{is_nil}

-- whether offers wait at the desk
abbrev pub has_offers : ResidentLeft → Bool
has_offers seat = not (is_nil seat.waiting)

-- whether the desk owes an answer
abbrev pub has_due : ResidentLeft → Bool
has_due seat = not (is_nil seat.due)

-- whether answers wait at the desk
abbrev pub has_answers : ProgrammeLeft → Bool
has_answers seat = not (is_nil seat.waiting)

-- no offer waits at the desk, and the desk owes no answer
abbrev pub IsQuiet : ResidentLeft → Type 0
IsQuiet seat = (seat.waiting ≡ []) × (seat.due ≡ [])

-- whether the desk has a free quota place, and a next resident for an offer
abbrev pub has_wish : ProgrammeLeft → Bool
has_wish seat = nat_lt seat.out seat.places && nat_lt seat.offered seat.listed

-- no answer waits at the desk, and the desk has no offer to make
abbrev pub IsContent : ProgrammeLeft → Type 0
IsContent seat = (seat.waiting ≡ []) × (has_wish seat ≡ false)
