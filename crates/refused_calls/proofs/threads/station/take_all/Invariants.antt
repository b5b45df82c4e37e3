use Rattle.refused_calls.proofs.threads.station.take_all.Given as goal

abbrev pub ghosts-take_at-K-Named : goal.ghosts-take_at-K-Named
ghosts-take_at-K-Named g a = record { config = a.config.now.value; id = 1; signer = a.signer; limit = 65536 }

abbrev pub ghosts-take_at-K-Ledger : goal.ghosts-take_at-K-Ledger
ghosts-take_at-K-Ledger g a = record { name = a.blank.name; parts = a.blank.parts }
