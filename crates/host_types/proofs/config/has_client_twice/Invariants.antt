use Rattle.std.proofs.Common.{◌≡◌, drop}
use Rattle.host_types.specs.Configuration.{some_client_twice}
use Rattle.host_types.proofs.config.has_client_twice.Given as goal

abbrev pub invariant-loop-i : goal.invariant-loop-i
invariant-loop-i l = some_client_twice l.clients ≡ some_client_twice (drop l.i l.clients)
