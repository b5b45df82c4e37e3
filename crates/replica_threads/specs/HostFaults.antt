-- Statement: the number of each fault of a host.
use Rattle.std.specs.Prelude.{ℕ}
use Rattle.replica_threads.specs.declared.fault.HostFault.{HostFault}
use Rattle.replica_threads.specs.declared.fault.HostFault.TheVariants.{WrongSigners, Closed, Memory}

abbrev pub number_of : HostFault → ℕ
number_of WrongSigners = 1
number_of Closed = 2
number_of Memory = 3
