use Rattle.match_pool.proofs.OutOfStep.{still_refused}
use Rattle.match_pool.proofs.exchange.Exchange.close_or_find.Goals as goal

pub invariant_of-self : goal.invariant_of-self
invariant_of-self g c = still_refused _ _ _ _ _ _ _ _ _ _ c.close_and_tell.result c.close_and_tell.ensures.entered c.close_and_tell.ensures.unchanged c.self.invariant
