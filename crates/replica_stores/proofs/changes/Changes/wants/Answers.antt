use Rattle.std.proofs.Common.{ap, sym, ◌∙◌}
use Rattle.replica_stores.specs.Changes.{is_wanted}
use Rattle.replica_stores.specs.Stores.{KeptChanges}
use Rattle.replica_stores.proofs.Changing.{wanted_found}
use Rattle.replica_stores.proofs.changes.Changes.wants.Goals as goal

pub returns-clause-value : goal.returns-clause-value
returns-clause-value c =
    c.contains_key.ensures ∙ wanted_found c.self.inside.config.value c.self.inside.changes.entries c.args.view.0 c.args.id c.self.invariant
    ∙ ap (λ (k : KeptChanges). is_wanted k.changes c.args.view.0 c.args.id) c.self.view_is

pub returns-clause-core : goal.returns-clause-core
returns-clause-core c = λ s table view.
    c.contains_key.ensures ∙ wanted_found c.self.inside.config.value c.self.inside.changes.entries c.args.view.0 c.args.id c.self.invariant
    ∙ ap (λ (k : KeptChanges). is_wanted k.changes c.args.view.0 c.args.id) c.self.view_is
    ∙ (λ i. is_wanted (sym table i) (sym view i) c.args.id)
