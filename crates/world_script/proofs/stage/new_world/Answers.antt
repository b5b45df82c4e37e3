use Rattle.std.proofs.Common.{subst}
use Rattle.host_types.specs.Configuration.{IsConfiguration}
use Rattle.world_script.proofs.Listed.{are_listed, are_many, one_each}
use Rattle.world_script.proofs.stage.new_world.Goals as goal

pub new-requires-clause-many : goal.new-requires-clause-many
new-requires-clause-many c =
    are_many c.args.config.now.value _ c.args.signers.items c.in_ok-correct.correct.items
    (one_each c.args.config.now.value c.args.signers.items (subst IsConfiguration c.deref.ensures c.replica_count.ensures.legal) c.requires) c.in_ok-correct.ensures.correct

pub new-requires-clause-keys : goal.new-requires-clause-keys
new-requires-clause-keys c =
    are_listed c.args.config.now.value _ c.args.signers.items c.in_ok-correct.correct.items
    (one_each c.args.config.now.value c.args.signers.items (subst IsConfiguration c.deref.ensures c.replica_count.ensures.legal) c.requires) c.requires c.in_ok-correct.ensures.correct
