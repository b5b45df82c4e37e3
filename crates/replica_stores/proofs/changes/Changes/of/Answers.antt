use Rattle.std.proofs.Common.{ap, ◌∙◌}
use Rattle.std.specs.Prelude.{is_some}
use Rattle.std.specs.Option.{option_map}
use Rattle.pbft_codec.specs.declared.body.Body.TheVariants as bodies
use Rattle.pbft_model.specs.Tables.{at, change_key}
use Rattle.seal.specs.Lists.{under}
use Rattle.seal.specs.Parts.{as_message}
use Rattle.replica_stores.specs.Changes.{is_wanted}
use Rattle.replica_stores.specs.Stores.{KeptChanges}
use Rattle.replica_stores.proofs.Changing.{change_found, wanted_found}
use Rattle.replica_stores.proofs.Results.{some_copied}
use Rattle.replica_stores.proofs.changes.Changes.of.Goals as goal

pub returns-clause-found : goal.returns-clause-found
returns-clause-found c =
    c.get.ensures.value ∙ change_found c.self.inside.config.value c.self.inside.changes.entries (c.args.view.0, c.args.id) c.self.invariant
    ∙ ap (λ (k : KeptChanges). option_map (λ m. under k.config (as_message bodies.ViewChange m)) (at k.changes (change_key c.args.view.0 c.args.id))) c.self.view_is

pub returns-clause-wanted : goal.returns-clause-wanted
returns-clause-wanted c =
    some_copied c.get.result ∙ ap is_some c.get.ensures.value ∙ wanted_found c.self.inside.config.value c.self.inside.changes.entries c.args.view.0 c.args.id c.self.invariant
    ∙ ap (λ (k : KeptChanges). is_wanted k.changes c.args.view.0 c.args.id) c.self.view_is
