use Rattle.thread_tests.proofs.stations.a_journal_of_one_row_is_full.Given as goal

abbrev pub ghosts-limited-K-Named : goal.ghosts-limited-K-Named
ghosts-limited-K-Named g a = record { config = a.config.now.value; id = 0; signer = a.signer; limit = 1 }

abbrev pub ghosts-limited-K-Ledger : goal.ghosts-limited-K-Ledger
ghosts-limited-K-Ledger g a = record { name = a.blank.name; parts = a.blank.parts }
