use Rattle.std.proofs.Common.{◌≡◌, ◌++◌}
use Rattle.std.specs.FinSet as set
use Rattle.byz_world.specs.Worlds.{AreListed, first_members}
use Rattle.byz_world.proofs.FirstLaws.{ids_from}
use Rattle.byz_world.proofs.world.first_members.Given as goal

abbrev pub invariant-loop-id : goal.invariant-loop-id
invariant-loop-id l =
    (l.members.items ++ first_members l.config.value (ids_from (λ i. set.contains l.faulty i) l.id l.count) l.signers.rest.items
    ≡ first_members l.config.value (ids_from (λ i. set.contains l.faulty i) 0 l.count) l.fn.signers.items)
    × AreListed l.config.value (ids_from (λ i. set.contains l.faulty i) l.id l.count) l.signers.rest.items
