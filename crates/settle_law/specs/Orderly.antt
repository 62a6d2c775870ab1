-- The order in which a list of events sends, takes and answers.
use mathlib.Core.List.{IsPrefix}
use Rattle.std.specs.Prelude.{◌≡◌, ℕ, ◌+◌, ◌≤◌, Some, List, length, take, slice_get}
use Rattle.match_model.specs.Instance.{Instance, quota, list_of_programme, list_of_resident}
use Rattle.exchange_core.specs.declared.event.Event.{Event}
use Rattle.exchange_core.specs.declared.event.Event.TheVariants.{Close}
use Rattle.exchange_core.specs.Mail.{offers_of, offers_to, takes, answers_of, answers_to, hears}
use Rattle.exchange_core.specs.Calls.{calls, rejections, out}

-- The messages that a desk took are the first of those that were sent to the desk. The answers that a resident gave are
-- the first of those that the resident owed. A programme's offers out are from 0 to its quota.
pub record IsInOrder (inst : Instance) (j : List Event) : Type 0 where
  pub offers_follow_the_ranking : (p : ℕ) → IsPrefix (offers_of p j) (list_of_programme inst p)
  pub takes_follow_the_offers : (r : ℕ) → IsPrefix (takes r j) (offers_to r j)
  pub answers_follow_the_calls : (r : ℕ) → IsPrefix (answers_of r j) (calls (list_of_resident inst r) (takes r j))
  pub hears_follow_the_answers : (p : ℕ) → IsPrefix (hears p j) (answers_to p j)
  pub rejections_within_offers : (p : ℕ) → rejections (hears p j) ≤ length (offers_of p j)
  pub out_within_quota : (p : ℕ) → out p j ≤ quota inst p

-- every beginning of the list of events is in order, and no event stands after a close
pub record IsOrderly (inst : Instance) (j : List Event) : Type 0 where
  pub every_front : (n : ℕ) → IsInOrder inst (take n j)
  pub close_is_last : (i : ℕ) → slice_get j i ≡ Some Close → i + 1 ≡ length j
