-- Every legal list of events can be continued to a closed list. A list that isn't closed has a next event. A legal list
-- has at most six events for each acceptable pair, and one close. So the number of events that can still follow falls
-- with each event.
use Rattle.std.proofs.Common.{◌≡◌, ℕ, zero, suc, ◌+◌, ◌*◌, ◌≤◌, Bool, true, false, List, [], ◌∷◌, ◌++◌, length, refl, sym, ap, ◌∙◌, subst, arith, append_assoc, append-nil, length-append}
use Rattle.std.specs.Prelude.{IsTrue}
use Rattle.match_model.specs.Instance.{Instance, IsInstance, pair_count}
use Rattle.exchange_core.specs.declared.event.Event.{Event}
use Rattle.exchange_core.specs.declared.event.Capacity.{Capacity}
use Rattle.exchange_core.specs.Legal.{IsLegal, IsClosed, MayFollow, is_closed}
use Rattle.exchange_core.specs.Shown.{IsCapacity}
use Rattle.exchange_core.proofs.Legal.{legal_push}
use Rattle.exchange_core.proofs.NoJam.{next_event}
use Rattle.settle_law.proofs.EventCount.{bound}
use Rattle.settle_law.specs.ListLaws.{GoesOn, ClosesLaw}

module _ (inst : Instance) (cap : Capacity) (is_instance : IsInstance inst) (admitted : IsCapacity cap) where
  -- a closed list of events is continued by no event
  nothing : (j : List Event) → IsLegal inst cap j → is_closed j ≡ true → GoesOn inst cap j
  nothing j legal closed = record { rest = []; legal = rw append-nil legal; closed = rw append-nil closed }

  -- if a list of events with one more event can be continued to a close, the list without this event can be continued
  one_more : (j : List Event) (e : Event) → GoesOn inst cap (j ++ e ∷ []) → GoesOn inst cap j
  one_more j e g = record {
    rest = e ∷ g.rest;
    legal = subst (IsLegal inst cap) (append_assoc j (e ∷ []) g.rest) g.legal;
    closed = subst IsClosed (append_assoc j (e ∷ []) g.rest) g.closed;
  }

  -- a list of events that isn't closed has a next event, and can be continued if the list with this event can
  step : (fuel : ℕ) (j : List Event) → IsLegal inst cap j → 6 * pair_count inst + 2 ≤ length j + suc fuel
      → ((k : List Event) → IsLegal inst cap k → 6 * pair_count inst + 2 ≤ length k + fuel → GoesOn inst cap k)
      → (b : Bool) → is_closed j ≡ b → GoesOn inst cap j
  step fuel j legal enough on true closed = nothing j legal closed
  step fuel j legal enough on false still_open =
      let e = next_event inst cap j is_instance admitted legal still_open in
      one_more j e.0 (on (j ++ e.0 ∷ []) (legal_push inst cap j e.0 legal e.1) (omega (arith, enough, length-append j (e.0 ∷ []))))

  -- if at most `fuel` events can still follow, the list of events can be continued to a close
  pub goes_on : (fuel : ℕ) (j : List Event) → IsLegal inst cap j → 6 * pair_count inst + 2 ≤ length j + fuel → GoesOn inst cap j
  goes_on zero j legal enough = absurd (let b = bound inst cap j legal in omega (arith, b, enough))
  goes_on (suc fuel) j legal enough = step fuel j legal enough (goes_on fuel) (is_closed j) refl

pub closes : ClosesLaw
closes inst cap j is_instance admitted legal =
    goes_on inst cap is_instance admitted (6 * pair_count inst + 2) j legal (omega arith)
