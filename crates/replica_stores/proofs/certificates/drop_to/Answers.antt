use Rattle.std.proofs.Common.{◌≡◌, rules, ap, subst, sym, ◌∙◌}
use Rattle.std.specs.Prelude.{nat_lt}
use Rattle.std.proofs.lemmas.Map.Made.{filter_same_pairs}
use Rattle.pbft_model.specs.Tables.{is_above, number_key}
use Rattle.view_change.specs.Log.{as_checked}
use Rattle.replica_stores.specs.Certificates.{AreCheckedCertificates, certificate_in}
use Rattle.replica_stores.specs.Entries.{table_of}
use Rattle.replica_stores.proofs.Entries.{all_filtered, table_keep}
use Rattle.replica_stores.proofs.certificates.drop_to.Goals as goal

pub returns-clause-kept : goal.returns-clause-kept
returns-clause-kept c =
    let left = filter_same_pairs _ (λ e. nat_lt c.args.number.0 e.0) _ (λ k v b w f' t. search rules) _ _ c.retain.ensures.filtered in
    ap (table_of number_key certificate_in) left ∙ table_keep number_key certificate_in (is_above c.args.number.0) c.args.kept.now.entries

pub returns-clause-checked : goal.returns-clause-checked
returns-clause-checked c = λ d all.
    let left = filter_same_pairs _ (λ e. nat_lt c.args.number.0 e.0) _ (λ k v b w f' t. search rules) _ _ c.retain.ensures.filtered in
    subst (AreCheckedCertificates d) (sym left) (all_filtered (λ e. e.1 ≡ as_checked d (certificate_in e.1)) (λ e. nat_lt c.args.number.0 e.0) c.args.kept.now.entries all)
