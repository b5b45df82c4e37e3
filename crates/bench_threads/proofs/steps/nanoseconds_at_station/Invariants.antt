use Rattle.bench_threads.proofs.steps.nanoseconds_at_station.Given as goal

abbrev pub ghosts-nanoseconds_at-K-Named : goal.ghosts-nanoseconds_at-K-Named
ghosts-nanoseconds_at-K-Named g a = record { config = a.config.now.value; id = 1; signer = a.signer; limit = 65536 }

abbrev pub ghosts-nanoseconds_at-K-Ledger : goal.ghosts-nanoseconds_at-K-Ledger
ghosts-nanoseconds_at-K-Ledger g a = record { name = a.blank.name; parts = a.blank.parts }
