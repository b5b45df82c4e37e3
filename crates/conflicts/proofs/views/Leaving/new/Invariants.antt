use Rattle.std.proofs.Common.{◌≡◌, map, take}
use Rattle.conflicts.specs.Views.{reported_of}
use Rattle.conflicts.proofs.views.Leaving.new.Given as goal

abbrev pub invariant-loop-certificate : goal.invariant-loop-certificate
invariant-loop-certificate l = l.reported.items ≡ map reported_of (take l.certificate-index l.certificate-items)
