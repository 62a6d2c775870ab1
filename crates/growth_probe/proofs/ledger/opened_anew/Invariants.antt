use Rattle.growth_probe.proofs.ledger.opened_anew.Given as goal

abbrev pub ghosts-ledger_opened_as-J-Ledger : goal.ghosts-ledger_opened_as-J-Ledger
ghosts-ledger_opened_as-J-Ledger a = record { name = a.blank.name; parts = a.blank.parts }

abbrev pub ghosts-ledger_opened_as-J-ExchangeIdentity : goal.ghosts-ledger_opened_as-J-ExchangeIdentity
ghosts-ledger_opened_as-J-ExchangeIdentity a = record { inst = a.inst.now; cap = a.cap; workers = 2 }
