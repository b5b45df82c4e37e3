use Rattle.std.proofs.Common.{◌≡◌, ◌++◌, List, drop}
use Rattle.quorum_log.specs.Words.{Certificate}
use Rattle.quorum_log.specs.Validity.{highest}
use Rattle.view_change.specs.Proposals.{or_later}
use Rattle.view_change.proofs.given.highest_in.Given as goal

abbrev pub invariant-loop-certificate : goal.invariant-loop-certificate
invariant-loop-certificate l = (later : List Certificate) →
    or_later l.found (highest l.number (drop l.certificate-index l.certificates ++ later)) ≡ or_later l.fn.before (highest l.number (l.certificates ++ later))
