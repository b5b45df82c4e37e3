use Rattle.std.proofs.Common.{◌≡◌, drop}
use Rattle.std.specs.Prelude.{map, max}
use Rattle.std.specs.List.{flat_map}
use Rattle.quorum_log.specs.Validity.{greatest_of}
use Rattle.view_change.proofs.given.top_of.Given as goal

abbrev pub invariant-loop-change : goal.invariant-loop-change
invariant-loop-change g l =
    max (greatest_of (map g.T.Report.low l.changes)) (greatest_of (map (λ x. x.pre_prepare.body.number.0) (flat_map g.T.Report.certificates l.changes)))
    ≡ max l.top (greatest_of (map (λ x. x.pre_prepare.body.number.0) (flat_map g.T.Report.certificates (drop l.change-index l.changes))))
