use Rattle.std.proofs.Common.{◌≡◌, take}
use Rattle.host_types.specs.Configuration.{tenants_of}
use Rattle.host_types.proofs.config.tenants.Given as goal

abbrev pub invariant-loop-client : goal.invariant-loop-client
invariant-loop-client l = l.tenants.items ≡ tenants_of (take l.client-index l.clients)
