use Rattle.replica_core.proofs.Reacting.{starts_whole}
use Rattle.replica_core.proofs.replica.Replica.new.Goals as goal

pub invariant_of-result : goal.invariant_of-result
invariant_of-result c =
    starts_whole c.in_ok-try_clone.field-0.value c.args.config.now.value c.args.id.0 c.args.signer c.in_ok-core.core c.status_of-status.result c.in_ok-try_clone.ensures c.in_ok-core.ensures c.status_of-status.ensures
