use Rattle.std.proofs.Common.{◌++◌, length, take}
use Rattle.std.specs.Prelude.{flat_map}
use Rattle.service_model.specs.Words.{u32_bytes}
use Rattle.service_core.specs.Sinks.{Feeds}
use Rattle.service_model.specs.declared.version.Version.TheVariants.{Second}
use Rattle.service_model.specs.Encoding.{encoded_tenant}
use Rattle.service_core.proofs.state.put_tenants.Given as goal

abbrev pub invariant-loop-tenant : goal.invariant-loop-tenant
invariant-loop-tenant g l = Feeds g.S.Sink.holds l.fn.sink l.sink (u32_bytes (length l.tenants) ++ flat_map (encoded_tenant Second) (take l.tenant-index l.tenants))
