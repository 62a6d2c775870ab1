use Rattle.match_pool.proofs.pool.run_over.Given as goal

abbrev pub ghosts-run_named-J-Ledger : goal.ghosts-run_named-J-Ledger
ghosts-run_named-J-Ledger g a = record { name = a.blanks.entries.name; parts = a.blanks.entries.parts }

abbrev pub ghosts-run_named-J-ExchangeIdentity : goal.ghosts-run_named-J-ExchangeIdentity
ghosts-run_named-J-ExchangeIdentity g a = record { inst = a.inst.now; cap = a.cap; workers = a.workers }

abbrev pub ghosts-run_named-J-WorkersIdentity : goal.ghosts-run_named-J-WorkersIdentity
ghosts-run_named-J-WorkersIdentity g a = record { holding_ledger = a.blanks.workers.holding.name; looking_ledger = a.blanks.workers.looking.name; resting_ledger = a.blanks.workers.resting.name; rank_ledger = a.blanks.workers.ranks.name }
