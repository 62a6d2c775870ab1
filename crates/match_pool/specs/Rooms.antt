-- How much room the mailboxes of a run have.
use Rattle.std.specs.Prelude.{ℕ, List, [], ◌≡◌, ◌*◌, length, max, min}
use Rattle.match_model.specs.Instance.{Instance, list_of_resident, list_of_programme}
use Rattle.exchange_core.specs.declared.event.Capacity.{Capacity}
use Rattle.exchange_core.specs.declared.event.Capacity.TheVariants.{Full, Each}

-- The room of a mailbox that gets at most this many messages. With the capacity `full` it is this many, else this
-- many up to the capacity. It is at least one, if the capacity is.
abbrev pub room_of : Capacity → ℕ → ℕ
room_of Full most = max most 1
room_of (Each n) most = min n (max most 1)

-- the room of a resident's mailbox, for one offer from each programme on the resident's list
abbrev pub offer_room_of : Instance → Capacity → ℕ → ℕ
offer_room_of inst cap r = room_of cap (length (list_of_resident inst r))

-- the room of a programme's mailbox, for two answers from each resident on the programme's list
abbrev pub answer_room_of : Instance → Capacity → ℕ → ℕ
answer_room_of inst cap p = room_of cap (2 * length (list_of_programme inst p))

-- the sending end has put nothing, and has the room of its desk's mailbox
abbrev pub IsNew : {P N : Type 0} → (P → List N) → (P → ℕ) → (ℕ → ℕ) → ℕ → P → Type 0
IsNew puts room rooms desk end = (puts end ≡ []) × (room end ≡ rooms desk)
