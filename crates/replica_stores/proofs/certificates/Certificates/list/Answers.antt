use Rattle.std.proofs.Common.{ap, map, sym, ◌++◌, ◌∙◌}
use Rattle.pbft_model.specs.Tables.{entries_in, number_key}
use Rattle.view_change.specs.Log.{as_checked}
use Rattle.replica_stores.specs.Certificates.{certificate_in}
use Rattle.replica_stores.specs.Stores.{KeptCertificates}
use Rattle.replica_stores.proofs.Certifying.{values_checked}
use Rattle.replica_stores.proofs.Entries.{table_entries}
use Rattle.replica_stores.proofs.certificates.Certificates.list.Goals as goal

pub loop-certificate-init : goal.loop-certificate-init
loop-certificate-init c =
    let config = c.self.inside.config.value in
    let entries = c.self.inside.kept.entries in
    ap (λ xs. xs ++ c.into_iter-certificate-iterator.result) c.new-list.ensures.items ∙ c.into_iter-certificate-iterator.ensures.into_iter_gives ∙ c.values-certificate-items.ensures.rest ∙ values_checked config entries c.self.invariant
    ∙ ap (map (as_checked config)) (sym (table_entries number_key certificate_in entries)) ∙ ap (λ (k : KeptCertificates). map (as_checked k.config) (entries_in k.kept)) c.self.view_is
