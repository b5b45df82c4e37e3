use Rattle.std.proofs.Common.{ap, ◌∙◌}
use Rattle.replica_core.specs.Steps.{ReplicaFacts}
use Rattle.replica_journal.specs.Keeping.{KeeperFacts}
use Rattle.replica_journal.proofs.KeepingLaws.{as_first}
use Rattle.replica_journal.proofs.journal.Journal.new.Goals as goal

pub invariant_of-result : goal.invariant_of-result
invariant_of-result c =
    let keeper = c.in_ok-keeper.keeper in
    as_first c.args.config.now.value c.args.id.0 c.args.limit c.args.signer keeper.replica keeper.rows c.status-status.result c.requires.key
    (ap (λ (k : KeeperFacts). k.replica) c.in_ok-keeper.ensures) (ap (λ (k : KeeperFacts). k.rows) c.in_ok-keeper.ensures) (c.status-status.ensures ∙ ap (λ (r : ReplicaFacts). r.status) c.replica.ensures)
