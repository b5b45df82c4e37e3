use Rattle.std.proofs.Common.{◌≡◌, ◌≤◌, drop}
use Rattle.quorum_log.specs.Validity.{are_given, given}
use Rattle.quorum_log.specs.Setup.{setup_of}
use Rattle.view_change.specs.Proposals.{left_from}
use Rattle.view_change.proofs.new_views.are_given.Given as goal

abbrev pub invariant-loop-message : goal.invariant-loop-message
invariant-loop-message l =
    (l.number ≤ l.top)
    × (are_given l.leader (left_from (setup_of l.config) l.view.0 l.changes l.number l.top) (drop l.message-index l.pre_prepares)
    ≡ are_given l.leader (given (setup_of l.config) l.view.0 l.changes) l.pre_prepares)
