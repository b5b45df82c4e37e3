use Rattle.std.proofs.Common.{◌≡◌}
use Rattle.replica_core.proofs.Leaving.{KeptFrom}
use Rattle.replica_core.proofs.kept.Core.keep_certificates.Given as goal

abbrev pub invariant-loop-index : goal.invariant-loop-index
invariant-loop-index l = l.self ≡ KeptFrom l.fn.self l.index
