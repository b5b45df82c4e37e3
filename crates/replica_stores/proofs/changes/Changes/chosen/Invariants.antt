use Rattle.std.proofs.Common.{◌≡◌, ◌≤◌, ◌*◌, map}
use Rattle.pbft_codec.specs.declared.body.Body.TheVariants as bodies
use Rattle.pbft_model.specs.Setup.{count}
use Rattle.pbft_model.specs.Words.{as_message}
use Rattle.replica_stores.specs.Changes.{chosen_below, is_other_wanted}
use Rattle.replica_stores.proofs.changes.Changes.chosen.Given as goal

abbrev pub invariant-loop-id : goal.invariant-loop-id
invariant-loop-id l = record {
  config : l.list.config ≡ l.self.config;
  counted : l.others ≡ count (is_other_wanted l.self.changes l.view.0 l.me.0) l.id;
  bound : l.others ≤ l.id;
  messages : l.list.messages ≡ map (as_message bodies.ViewChange) (chosen_below l.id (2 * l.self.config.f) l.self.changes l.view.0 l.me.0);
}
