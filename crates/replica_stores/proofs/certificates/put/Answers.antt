use Rattle.std.proofs.Common.{◌≡◌, ap, subst, sym, ◌∙◌}
use Rattle.std.specs.Ordering.{nat_cmp}
use Rattle.pbft_model.specs.Tables.{number_key}
use Rattle.view_change.specs.Log.{as_checked}
use Rattle.replica_stores.specs.Certificates.{AreCheckedCertificates, certificate_in}
use Rattle.replica_stores.specs.Entries.{table_of}
use Rattle.replica_stores.proofs.Certifying.{number_keyed}
use Rattle.replica_stores.proofs.Entries.{all_inserted, table_put}
use Rattle.replica_stores.proofs.certificates.put.Goals as goal

pub returns-clause-kept : goal.returns-clause-kept
returns-clause-kept c =
    ap (table_of number_key certificate_in) c.in_ok-insert.ensures.entries ∙ table_put nat_cmp number_key certificate_in number_keyed c.args.kept.now.entries c.args.number.0 c.args.certificate

pub returns-clause-checked : goal.returns-clause-checked
returns-clause-checked c = λ d is all.
    subst (AreCheckedCertificates d) (sym c.in_ok-insert.ensures.entries)
    (all_inserted (λ e. e.1 ≡ as_checked d (certificate_in e.1)) nat_cmp c.args.kept.now.entries c.args.number.0 c.args.certificate is (λ j tied. is) all)
