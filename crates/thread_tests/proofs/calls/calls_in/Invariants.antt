use Rattle.std.specs.Prelude.{◌≡◌}
use Rattle.thread_tests.proofs.calls.calls_in.Given as goal

abbrev pub invariant-loop-op : goal.invariant-loop-op
invariant-loop-op g l =
    (goal.iterator-loop-op g).can_next l.op-iterator × (goal.iterator-loop-op g).is_finite l.op-iterator × (l.session.config ≡ l.host.config)
