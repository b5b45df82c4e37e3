use Rattle.std.specs.Prelude.{◌≡◌}
use Rattle.replica_threads.proofs.serving.serve_letters.Given as goal

abbrev pub invariant-loop : goal.invariant-loop
invariant-loop g l =
    (goal.iterator-loop g).can_next l.iterator' × (goal.iterator-loop g).is_finite l.iterator' × (l.keeping.held.config ≡ l.fn.keeping.held.config)
