use Rattle.std.proofs.Common.{ℕ}
use Rattle.std.specs.FinSet as set
use Rattle.byz_world.proofs.FirstLaws.{begins_well}
use Rattle.byz_world.proofs.world.World.new.Goals as goal

pub invariant_of-result : goal.invariant_of-result
invariant_of-result c =
    begins_well c.args.config.now.value c.in_ok-config.config.value c.deref.result.now (λ (i : ℕ). set.contains c.args.faulty.now i) c.args.signers.items c.in_ok-members.members.items
    c.in_ok-config.ensures c.deref.ensures c.replica_count-count.ensures.legal c.in_ok-members.ensures
