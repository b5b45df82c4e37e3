use Rattle.std.proofs.Common.{◌≡◌, drop}
use Rattle.std.specs.Prelude.{map, max}
use Rattle.quorum_log.specs.Validity.{greatest_of}
use Rattle.view_change.proofs.given.greatest_low.Given as goal

abbrev pub invariant-loop-change : goal.invariant-loop-change
invariant-loop-change g l =
    greatest_of (map g.T.Report.low l.changes) ≡ max l.floor (greatest_of (map g.T.Report.low (drop l.change-index l.changes)))
