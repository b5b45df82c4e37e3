use Rattle.std.proofs.Common.{map}
use Rattle.service_model.specs.Encoding.{encoded_procedure}
use Rattle.tenant_parts.specs.Procedures.{procedure_of}
use Rattle.service_core.specs.Readings.{IsProcedureIn}
use Rattle.service_core.proofs.Encoded.{HasRead}
use Rattle.service_core.proofs.tenant_reader.read_procedures_of.Given as goal

abbrev pub invariant-loop : goal.invariant-loop
invariant-loop l = HasRead (encoded_procedure l.version) (IsProcedureIn l.version) l.bytes (map procedure_of l.procedures.items) l.counter l.rest
