use Rattle.thread_tests.proofs.lanes.two_lanes_of_a_station_run_at_the_same_time.Given as goal

abbrev pub ghosts-takes_in_lanes-K-Named : goal.ghosts-takes_in_lanes-K-Named
ghosts-takes_in_lanes-K-Named g a = record { config = a.config.now.value; id = 1; signer = a.signer; limit = 65536 }

abbrev pub ghosts-takes_in_lanes-K-Ledger : goal.ghosts-takes_in_lanes-K-Ledger
ghosts-takes_in_lanes-K-Ledger g a = record { name = a.blank.name; parts = a.blank.parts }
