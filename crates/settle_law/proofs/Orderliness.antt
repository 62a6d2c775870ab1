-- Every legal list is orderly.
use Rattle.std.proofs.Common.{List, take}
use Rattle.match_model.specs.Instance.{Instance}
use Rattle.exchange_core.specs.declared.event.Event.{Event}
use Rattle.exchange_core.specs.declared.event.Capacity.{Capacity}
use Rattle.exchange_core.specs.Legal.{IsLegal}
use Rattle.exchange_core.proofs.Legal as legality
use Rattle.exchange_core.proofs.InOrder as order
use Rattle.exchange_core.proofs.Rejections as rejections
use Rattle.settle_law.specs.Orderly.{IsInOrder}
use Rattle.settle_law.specs.ListLaws.{OrderlyLaw}

pub in_order : (inst : Instance) (cap : Capacity) (j : List Event) → IsLegal inst cap j → IsInOrder inst j
in_order inst cap j legal = record {
  offers_follow_the_ranking = order.offers_in_order inst cap j legal;
  takes_follow_the_offers = order.takes_in_order inst cap j legal;
  answers_follow_the_calls = order.answers_in_order inst cap j legal;
  hears_follow_the_answers = order.hears_in_order inst cap j legal;
  rejections_within_offers = rejections.heard_rejections_offered inst cap j legal;
  out_within_quota = rejections.out_within_quota inst cap j legal;
}

pub orderly : OrderlyLaw
orderly inst cap j legal = record {
  every_front = λ n. in_order inst cap (take n j) (legality.legal_take inst cap n j legal);
  close_is_last = legality.close_is_last inst cap j legal;
}
