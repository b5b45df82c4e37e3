-- Statement: the numbers of the faults of reading a state.
use Rattle.std.specs.Prelude.{ℕ}
use Rattle.service_core.specs.declared.state_fault.StateFault.{StateFault}
use Rattle.service_core.specs.declared.state_fault.StateFault.TheVariants.{BadState, Memory}

abbrev pub number_of : StateFault → ℕ
number_of BadState = 1
number_of Memory = 2
