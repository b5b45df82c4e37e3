use Rattle.std.proofs.Common.{◌≡◌, ℕ, ◌<◌, None}
use Rattle.checkpoints.specs.Reading.{quorum_by, said_by}
use Rattle.checkpoints.proofs.by_number.digest_of_quorum.Given as goal

abbrev pub invariant-loop-signer : goal.invariant-loop-signer
invariant-loop-signer l = (i : ℕ) → i < l.signer → quorum_by l.config (said_by l.votes) l.number.0 i ≡ None
