use Rattle.std.proofs.Common.{◌≡◌}
use Rattle.replica_tests.proofs.stable.note_three.Given as goal

abbrev pub invariant-loop-id : goal.invariant-loop-id
invariant-loop-id l = l.kept.config ≡ l.fn.config.value
