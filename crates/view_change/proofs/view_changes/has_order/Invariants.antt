use Rattle.std.proofs.Common.{◌≡◌, ◌≤◌, ◌+◌, drop}
use Rattle.quorum_log.specs.Validity.{ascend_within}
use Rattle.view_change.proofs.view_changes.has_order.Given as goal

abbrev pub invariant-loop-certificate : goal.invariant-loop-certificate
invariant-loop-certificate l =
    (l.low ≤ l.last)
    × (ascend_within (l.last + 1) (l.low + l.span) (drop l.certificate-index l.change.certificates) ≡ ascend_within (l.low + 1) (l.low + l.span) l.change.certificates)
