use Rattle.std.specs.Prelude.{◌≡◌}
use Rattle.replica_threads.proofs.serving.hand_in.Given as goal

abbrev pub invariant-loop : goal.invariant-loop
invariant-loop g l = l.keeping.held.config ≡ l.fn.keeping.held.config
