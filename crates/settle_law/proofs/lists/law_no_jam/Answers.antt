use Rattle.exchange_core.proofs.NoJam.{next_event}
use Rattle.settle_law.proofs.lists.law_no_jam.Goals as goal

pub returns : goal.returns
returns c = next_event
