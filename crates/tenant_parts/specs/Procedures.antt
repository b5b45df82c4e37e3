-- Statement: what a verified procedure is in a state.
use Rattle.bpf_machine.specs.Verified.{Verified}
use Rattle.service_model.specs.TenantStates.{Procedure}

abbrev pub procedure_of : Verified → Procedure
procedure_of verified = record { profile = verified.profile; code = verified.bytes }
