use Rattle.match_pool.proofs.open.RunStart.exchange.Goals as goal

pub open-requires-clause-offer_ends : goal.open-requires-clause-offer_ends
open-requires-clause-offer_ends g c = λ r end at. (c.requires.offer_puts.has r end at).0

pub open-requires-clause-answer_ends : goal.open-requires-clause-answer_ends
open-requires-clause-answer_ends g c = λ p end at. (c.requires.answer_puts.has p end at).0
