use Rattle.std.proofs.Common.{rules, ap, subst, sym, ◌∙◌}
use Rattle.std.specs.Prelude.{nat_le}
use Rattle.std.proofs.lemmas.Map.Made.{filter_same_pairs}
use Rattle.pbft_model.specs.Tables.{first_in}
use Rattle.replica_stores.specs.Changes.{AreChanges, IsChange, as_change, key_of}
use Rattle.replica_stores.specs.Entries.{table_of}
use Rattle.replica_stores.proofs.Entries.{all_filtered, table_keep}
use Rattle.replica_stores.proofs.changes.drop_lower.Goals as goal

pub returns-clause-kept : goal.returns-clause-kept
returns-clause-kept c =
    let left = filter_same_pairs _ (λ e. nat_le c.args.view.0 e.0.0) _ (λ k v b w f' t. search rules) _ _ c.retain.ensures.filtered in
    ap (table_of key_of as_change) left ∙ table_keep key_of as_change (λ key. nat_le c.args.view.0 (first_in key)) c.args.changes.now.entries

pub returns-clause-sound : goal.returns-clause-sound
returns-clause-sound c = λ d all.
    let left = filter_same_pairs _ (λ e. nat_le c.args.view.0 e.0.0) _ (λ k v b w f' t. search rules) _ _ c.retain.ensures.filtered in
    subst (AreChanges d) (sym left) (all_filtered (IsChange d) (λ e. nat_le c.args.view.0 e.0.0) c.args.changes.now.entries all)
