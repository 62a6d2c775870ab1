use Rattle.library_tests.proofs.ledger.over_mailboxes.Given as goal

abbrev pub ghosts-enters_posted-J-Ledger : goal.ghosts-enters_posted-J-Ledger
ghosts-enters_posted-J-Ledger g a = record { name = a.blank.name; parts = a.blank.parts }

abbrev pub ghosts-enters_posted-J-ExchangeIdentity : goal.ghosts-enters_posted-J-ExchangeIdentity
ghosts-enters_posted-J-ExchangeIdentity g a = record { inst = a.inst.now; cap = a.cap; workers = 1 }
