use Rattle.std.specs.Prelude.{ℕ, ◌<◌}
use Rattle.replica_threads.specs.Hosts.{HasKeyAt}
use Rattle.replica_threads.proofs.furnishing.are_listed.Given as goal

abbrev pub invariant-loop-id : goal.invariant-loop-id
invariant-loop-id l = (i : ℕ) → i < l.id → HasKeyAt l.config.keys l.signers i
