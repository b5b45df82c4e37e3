use Rattle.std.proofs.Common.{◌≡◌, drop}
use Rattle.std.specs.Prelude.{map, max}
use Rattle.quorum_log.specs.Validity.{greatest_of}
use Rattle.view_change.proofs.given.greatest_in.Given as goal

abbrev pub invariant-loop-certificate : goal.invariant-loop-certificate
invariant-loop-certificate l =
    max l.least (greatest_of (map (λ x. x.pre_prepare.body.number.0) l.certificates))
    ≡ max l.top (greatest_of (map (λ x. x.pre_prepare.body.number.0) (drop l.certificate-index l.certificates)))
