use Rattle.replica_threads.specs.Stations.{signer_of}
use Rattle.replica_threads.proofs.serving.serve_at.Given as goal

abbrev pub ghosts-serve-K-Named : goal.ghosts-serve-K-Named
ghosts-serve-K-Named g a = record { config = a.config.value; id = a.id.0; signer = signer_of a.journal.replica.core; limit = a.journal.limit }

abbrev pub ghosts-serve-K-Ledger : goal.ghosts-serve-K-Ledger
ghosts-serve-K-Ledger g a = record { name = a.blank.name; parts = a.blank.parts }
