-- The words of a docket for a capacity, for workers, for a kind of answer, and for a side.
use Rattle.std.specs.Prelude.{ℕ, nat_le, nat_lt, ◌&&◌, if◌then◌else◌, Option, Some, None, List, codes, bytes_eq, option_and_then}
use Rattle.docket_names.specs.Words.{number_of}
use Rattle.exchange_core.specs.Shown.{is_capacity}
use Rattle.exchange_core.specs.declared.event.AnswerKind.{AnswerKind}
use Rattle.exchange_core.specs.declared.event.AnswerKind.TheVariants.{Hold, Decline, Release}
use Rattle.exchange_core.specs.declared.event.Capacity.{Capacity}
use Rattle.exchange_core.specs.declared.event.Capacity.TheVariants.{Full, Each}
use Rattle.docket.specs.declared.vocabulary.Side.{Side}
use Rattle.docket.specs.declared.vocabulary.Side.TheVariants.{Programmes, Residents}

-- the capacity of a mailbox for n messages; none unless n is from 1 to 1,024
abbrev pub each_of : ℕ → Option Capacity
each_of n = if is_capacity (Each n) then Some (Each n) else None

-- the capacity that a text stands for: `full`, or a number from 1 to 1,024
unfoldable pub capacity_of : List ℕ → Option Capacity
capacity_of text = if bytes_eq text (codes "full") then Some Full else option_and_then each_of (number_of text)

-- the number of workers, from 1 to 8, that a text stands for
unfoldable pub workers_of : List ℕ → Option ℕ
workers_of text = option_and_then (λ n. if nat_le 1 n && nat_le n 8 then Some n else None) (number_of text)

-- the worker's number that a text stands for; none unless the number is below the number of workers
unfoldable pub worker_of : ℕ → List ℕ → Option ℕ
worker_of workers text = option_and_then (λ n. if nat_lt n workers then Some n else None) (number_of text)

-- the kind of answer that a word stands for
unfoldable pub answer_of : List ℕ → Option AnswerKind
answer_of word =
    if bytes_eq word (codes "hold") then Some Hold
    else if bytes_eq word (codes "decline") then Some Decline
    else if bytes_eq word (codes "release") then Some Release
    else None

-- the side that a text stands for
unfoldable pub side_of : List ℕ → Option Side
side_of text = if bytes_eq text (codes "P") then Some Programmes else if bytes_eq text (codes "R") then Some Residents else None
