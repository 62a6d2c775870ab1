use Rattle.library_tests.proofs.ledger.small_does.Given as goal

abbrev pub ghosts-does-J-Ledger : goal.ghosts-does-J-Ledger
ghosts-does-J-Ledger a = record { name = a.blank.name; parts = a.blank.parts }

abbrev pub ghosts-does-J-ExchangeIdentity : goal.ghosts-does-J-ExchangeIdentity
ghosts-does-J-ExchangeIdentity a = record { inst = a.inst.now; cap = a.cap; workers = a.workers }
