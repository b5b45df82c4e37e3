use Rattle.std.proofs.Common.{◌≡◌, map}
use Rattle.std.specs.List.{range_with_len}
use Rattle.world_script.specs.Keys.{replica_signer}
use Rattle.world_script.proofs.keys.replica_sources.Given as goal

abbrev pub invariant-loop-id : goal.invariant-loop-id
invariant-loop-id g l = l.sources.items ≡ map (replica_signer l.head) (range_with_len 0 l.id)
