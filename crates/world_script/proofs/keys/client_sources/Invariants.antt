use Rattle.std.proofs.Common.{◌≡◌, map, take}
use Rattle.world_script.specs.Keys.{client_signer}
use Rattle.world_script.proofs.keys.client_sources.Given as goal

abbrev pub invariant-loop-client : goal.invariant-loop-client
invariant-loop-client g l = l.sources.items ≡ map (client_signer l.head) (take l.client-index l.client-items)
