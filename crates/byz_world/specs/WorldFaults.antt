-- Statement: the number of each fault of an event.
use Rattle.std.specs.Prelude.{ℕ}
use Rattle.byz_world.specs.declared.fault.WorldFault.{WorldFault}
use Rattle.byz_world.specs.declared.fault.WorldFault.TheVariants.{NoSuchReplica, NoSuchOutput, Memory}

abbrev pub world_number_of : WorldFault → ℕ
world_number_of NoSuchReplica = 1
world_number_of NoSuchOutput = 2
world_number_of Memory = 3
