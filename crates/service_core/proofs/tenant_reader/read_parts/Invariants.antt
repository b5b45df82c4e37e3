use Rattle.service_core.proofs.Parts.{PartsRead}
use Rattle.service_core.proofs.tenant_reader.read_parts.Given as goal

abbrev pub invariant-loop-tenant : goal.invariant-loop-tenant
invariant-loop-tenant l = PartsRead l.version l.config.clients l.replies l.tenants l.bytes l.parts.items l.tenant-index l.rest
