use Rattle.std.proofs.Common.{◌≡◌, ◌++◌, map}
use Rattle.pbft_model.specs.Tables.{entries_in}
use Rattle.view_change.specs.Log.{as_checked}
use Rattle.replica_stores.proofs.certificates.Certificates.list.Given as goal

abbrev pub invariant-loop-certificate : goal.invariant-loop-certificate
invariant-loop-certificate l = l.list.items ++ l.certificate-iterator ≡ map (as_checked l.self.config) (entries_in l.self.kept)
