use Rattle.std.proofs.Common.{◌++◌, length, take}
use Rattle.std.specs.Prelude.{flat_map}
use Rattle.service_model.specs.Words.{u32_bytes}
use Rattle.service_core.specs.Sinks.{Feeds}
use Rattle.service_model.specs.declared.version.Version.TheVariants.{Second}
use Rattle.service_model.specs.Encoding.{encoded_procedure}
use Rattle.tenant_parts.specs.Procedures.{procedure_of}
use Rattle.service_core.proofs.encoding.put_procedures.Given as goal

abbrev pub invariant-loop-procedure : goal.invariant-loop-procedure
invariant-loop-procedure g l = Feeds g.S.Sink.holds l.fn.sink l.sink (u32_bytes (length l.procedures) ++ flat_map (λ p. encoded_procedure Second (procedure_of p)) (take l.procedure-index l.procedures))
