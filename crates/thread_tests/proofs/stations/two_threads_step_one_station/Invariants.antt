use Rattle.thread_tests.proofs.stations.two_threads_step_one_station.Given as goal

abbrev pub ghosts-two_at_one_station-K-Named : goal.ghosts-two_at_one_station-K-Named
ghosts-two_at_one_station-K-Named g a = record { config = a.config.now.value; id = 0; signer = a.signer; limit = 65536 }

abbrev pub ghosts-two_at_one_station-K-Ledger : goal.ghosts-two_at_one_station-K-Ledger
ghosts-two_at_one_station-K-Ledger g a = record { name = a.blank.name; parts = a.blank.parts }
