-- Statement: the numbers by which the library tells what became of a call. Those of the verifier's refusals, and that memory
-- ran out, are the verifier's own.
use Rattle.std.specs.Prelude.{ℕ, ◌+◌}
use Rattle.bpf_model.specs.Faults.{number_of as fault_number}
use Rattle.bpf_asm.specs.Faults.{number_of as kind_number}
use Rattle.sandbox_c.specs.declared.status.Status.{Status}
use Rattle.sandbox_c.specs.declared.status.Status.TheVariants.{Done, Fault, NoProfile, NoProcedure, NoMap, ArgumentsTooLong, BufferTooShort, NoKey, NoValue, NoEntry, MapFull, Line}

abbrev pub number_of : Status → ℕ
number_of Done = 0
number_of (Fault fault) = fault_number fault
number_of NoProfile = 31
number_of NoProcedure = 32
number_of NoMap = 33
number_of ArgumentsTooLong = 34
number_of BufferTooShort = 35
number_of NoKey = 36
number_of NoValue = 37
number_of NoEntry = 38
number_of MapFull = 39
number_of (Line kind) = 40 + kind_number kind
