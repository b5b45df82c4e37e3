use Rattle.std.proofs.Common.{◌≡◌, take}
use Rattle.host_types.specs.Configuration.{client_ids_of}
use Rattle.host_types.proofs.config.client_ids.Given as goal

abbrev pub invariant-loop-client : goal.invariant-loop-client
invariant-loop-client l = l.ids.items ≡ client_ids_of (take l.client-index l.clients)
