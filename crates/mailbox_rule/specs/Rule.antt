-- The rule of a mailbox, about its queue (oldest message first) and about what the owner of each pass knows.
use Rattle.std.specs.Prelude.{◌≡◌, ℕ, ◌≤◌, Bool, true, List, ◌++◌, length}
use mathlib.Core.Option.{some}
use lib.ListN.{get_elem?}
use Rattle.mailbox_rule.specs.declared.rule.Known.{Known}

module _ {M : Type 0} where
  abbrev pub known : Bool → Bool → ℕ → List M → List M → Known M
  known may_put may_take room puts taken = record { may_put = may_put; may_take = may_take; room = room; puts = puts; taken = taken }

  -- What the owner of a pass knows is right. Only the pass `putter` may put; its owner knows the capacity and the
  -- messages put. Only the pass `taker` may take; its owner knows the messages taken.
  abbrev pub Fits : ℕ → ℕ → ℕ → List M → List M → ℕ → Known M → Type 0
  Fits putter taker room puts taken pass h =
      (h.may_put ≡ true → (pass ≡ putter) × (h.room ≡ room) × (h.puts ≡ puts)) × (h.may_take ≡ true → (pass ≡ taker) × (h.taken ≡ taken))

  -- the messages put are the messages taken, followed by the queue; the queue is no longer than the capacity
  abbrev pub IsInOrder : List M → List (Known M) → Type 0
  IsInOrder items views = (putter : ℕ) × (taker : ℕ) × (room : ℕ) × (puts : List M) × (taken : List M) × (puts ≡ taken ++ items) × (length items ≤ room)
      × ((pass : ℕ) (h : Known M) → get_elem? views pass ≡ some h → Fits putter taker room puts taken pass h)
