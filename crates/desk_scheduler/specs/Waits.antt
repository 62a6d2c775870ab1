-- Which desks wait for room in which mailbox, in which order, and which of them were called.
use Rattle.std.specs.Prelude.{◌≡◌, ℕ, zero, suc, ◌<◌, ◌≤◌, ◌==◌, Bool, false, List, [], ◌∷◌, ◌++◌, Option, Some, None, length, slice_index_or, slice_set, sum_by, cond}
use Rattle.desk_scheduler.specs.Desks.{one_for}

-- For each mailbox, its first and last waiting desk. For each desk, the mailbox for which it waits, the desks before
-- and behind it, and whether it was called.
pub record Waits : Type 0 where
  pub first : List (Option ℕ)
  pub last : List (Option ℕ)
  pub mailbox : List (Option ℕ)
  pub before : List (Option ℕ)
  pub behind : List (Option ℕ)
  pub called : List Bool

-- the entry of a row at this number; none past the row's end
abbrev pub linked_at : List (Option ℕ) → ℕ → Option ℕ
linked_at row n = slice_index_or row n None

-- whether a desk was called and has not come yet
abbrev pub was_called : List Bool → ℕ → Bool
was_called called desk = slice_index_or called desk false

-- 1 for a desk that waits, else 0
abbrev pub one_waits : Option ℕ → ℕ
one_waits (Some mailbox) = 1
one_waits None = 0

-- 1 for a desk that waits for room in this mailbox, else 0
abbrev pub one_waits_at : ℕ → Option ℕ → ℕ
one_waits_at m (Some mailbox) = cond (mailbox == m) 1 0
one_waits_at m None = 0

-- this desk and the desks behind it, in order, but at most this many
abbrev pub waiting_from : List (Option ℕ) → ℕ → Option ℕ → List ℕ
waiting_from behind zero desk = []
waiting_from behind (suc most) None = []
waiting_from behind (suc most) (Some desk) = desk ∷ waiting_from behind most (linked_at behind desk)

-- the desks that wait for room in a mailbox, in order
abbrev pub queue_of : Waits → ℕ → List ℕ
queue_of w m = waiting_from w.behind (length w.mailbox) (linked_at w.first m)

-- the first desk of a list; `last_of` is the last one
abbrev pub first_of : List ℕ → Option ℕ
first_of [] = None
first_of (d ∷ ds) = Some d

abbrev pub last_from : Option ℕ → List ℕ → Option ℕ
last_from o [] = o
last_from o (d ∷ ds) = last_from (Some d) ds

abbrev pub last_of : List ℕ → Option ℕ
last_of ds = last_from None ds

-- a list of desks, without this desk
abbrev pub without : ℕ → List ℕ → List ℕ
without d [] = []
without d (x ∷ xs) = cond (x == d) (without d xs) (x ∷ without d xs)

-- the links of a row after this desk's link is set; unchanged without a desk
abbrev pub linked_to : List (Option ℕ) → Option ℕ → Option ℕ → List (Option ℕ)
linked_to row None to = row
linked_to row (Some desk) to = slice_set row desk to

-- the first or last desks of all queues, with `to` for mailbox m; unchanged if there is a neighbour desk
abbrev pub ended_at : List (Option ℕ) → Option ℕ → ℕ → Option ℕ → List (Option ℕ)
ended_at row None m to = slice_set row m to
ended_at row (Some desk) m to = row

-- the rows after a desk that waits for no mailbox joins the end of this mailbox's queue
abbrev pub joined_rows : Waits → ℕ → ℕ → Waits
joined_rows w m desk = record {
  first = ended_at w.first (linked_at w.last m) m (Some desk);
  last = slice_set w.last m (Some desk);
  mailbox = slice_set w.mailbox desk (Some m);
  before = slice_set w.before desk (linked_at w.last m);
  behind = slice_set (linked_to w.behind (linked_at w.last m) (Some desk)) desk None;
  called = w.called;
}

-- the rows after a desk leaves this mailbox's queue: the desks before and behind it are linked
abbrev pub left_rows : Waits → ℕ → ℕ → Waits
left_rows w m desk = record {
  first = ended_at w.first (linked_at w.before desk) m (linked_at w.behind desk);
  last = ended_at w.last (linked_at w.behind desk) m (linked_at w.before desk);
  mailbox = slice_set w.mailbox desk None;
  before = linked_to w.before (linked_at w.behind desk) (linked_at w.before desk);
  behind = linked_to w.behind (linked_at w.before desk) (linked_at w.behind desk);
  called = w.called;
}

-- a desk is linked to the last of the desks before it, and to the first of those behind it
pub record Linked (w : Waits) (xs : List ℕ) (d : ℕ) (ys : List ℕ) : Type 0 where
  pub before : linked_at w.before d ≡ last_of xs
  pub behind : linked_at w.behind d ≡ first_of ys

-- These desks wait for room in mailbox m, in this order. The mailbox's ends are the first and the last of them. Each
-- is linked to its neighbours. A desk stands in the queue once if its row names m, and else not at all.
pub record IsQueue (w : Waits) (m : ℕ) (queue : List ℕ) : Type 0 where
  pub first : linked_at w.first m ≡ first_of queue
  pub last : linked_at w.last m ≡ last_of queue
  pub links : (xs : List ℕ) (d : ℕ) (ys : List ℕ) → queue ≡ xs ++ d ∷ ys → Linked w xs d ys
  pub once : (d : ℕ) → sum_by (one_for d) queue ≡ one_waits_at m (linked_at w.mailbox d)
  pub as_many : length queue ≡ sum_by (one_waits_at m) w.mailbox

-- all rows but that of called desks have the same length
pub record AreRows (w : Waits) : Type 0 where
  pub last : length w.last ≡ length w.first
  pub mailbox : length w.mailbox ≡ length w.first
  pub before : length w.before ≡ length w.first
  pub behind : length w.behind ≡ length w.first

-- Each mailbox has its queue, and `count` is the number of all waiting desks. A desk that waits for a mailbox that
-- does not exist has no links.
pub record AreQueues (w : Waits) (count : ℕ) : Type 0 where
  pub counted : count ≡ sum_by one_waits w.mailbox
  pub rows : AreRows w
  pub unlinked : (d m : ℕ) → linked_at w.mailbox d ≡ Some m → length w.first ≤ m → Linked w [] d []
  pub queued : (m : ℕ) → m < length w.first → IsQueue w m (queue_of w m)
