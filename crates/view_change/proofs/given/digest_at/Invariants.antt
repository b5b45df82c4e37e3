use Rattle.std.proofs.Common.{◌≡◌, None, drop}
use Rattle.std.specs.List.{flat_map}
use Rattle.quorum_log.specs.Validity.{highest}
use Rattle.view_change.specs.Proposals.{or_later}
use Rattle.view_change.proofs.given.digest_at.Given as goal

abbrev pub invariant-loop-change : goal.invariant-loop-change
invariant-loop-change g l =
    or_later l.found (highest l.number (flat_map g.T.Report.certificates (drop l.change-index l.changes)))
    ≡ or_later None (highest l.number (flat_map g.T.Report.certificates l.changes))
