use Rattle.std.proofs.Common.{◌≡◌, ◌+◌, ◌≤◌, length}
use Rattle.quorum_log.specs.Log.{AreProposals}
use Rattle.replica_tests.proofs.log.opening.Given as goal

abbrev pub invariant-loop-position : goal.invariant-loop-position
invariant-loop-position l =
    (l.list.config ≡ l.fn.config.value)
    × AreProposals l.view (l.floor + 1) l.list.messages
    × (length l.list.messages ≤ l.position-index)
