use Rattle.exchange_core.specs.declared.event.Capacity.TheVariants.{Full}
use Rattle.library_tests.proofs.agents.by_hand.by_hand.Given as goal

abbrev pub ghosts-exchange-J-Ledger : goal.ghosts-exchange-J-Ledger
ghosts-exchange-J-Ledger g a = record { name = a.blank.name; parts = a.blank.parts }

abbrev pub ghosts-exchange-J-ExchangeIdentity : goal.ghosts-exchange-J-ExchangeIdentity
ghosts-exchange-J-ExchangeIdentity g a = record { inst = a.inst.now; cap = Full; workers = 1 }
