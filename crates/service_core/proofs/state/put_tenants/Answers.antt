use Rattle.std.proofs.Common.{length, sym}
use Rattle.std.proofs.lemmas.List.{append-nil}
use Rattle.service_model.specs.Words.{u32_bytes}
use Rattle.service_model.specs.declared.version.Version.TheVariants.{Second}
use Rattle.service_model.specs.Encoding.{encoded_tenant}
use Rattle.service_core.proofs.Fed.{fed_same, fed_more, fed_all}
use Rattle.service_core.proofs.state.put_tenants.Goals as goal

pub loop-tenant-init : goal.loop-tenant-init
loop-tenant-init g c =
    fed_same g.S.Sink.holds c.args.sink.now c.put_u32.new.sink (u32_bytes (length c.args.tenants.now)) _ (sym (append-nil (u32_bytes (length c.args.tenants.now)))) c.in_ok-put_u32.ensures

pub loop-tenant-preserved : goal.loop-tenant-preserved
loop-tenant-preserved g c =
    fed_more g.S.Sink.holds c.args.sink.now c.loop-tenant.sink c.put_tenant.new.sink (u32_bytes (length c.args.tenants.now)) (encoded_tenant Second) c.args.tenants.now c.loop-tenant.tenant-index c.tenant-item.result
    c.loop-tenant-test.true c.tenant-item.is c.loop-tenant.invariant c.in_ok-put_tenant.ensures

pub returns : goal.returns
returns g c =
    fed_all g.S.Sink.holds c.args.sink.now c.loop-tenant.sink (u32_bytes (length c.args.tenants.now)) (encoded_tenant Second) c.args.tenants.now c.loop-tenant.tenant-index c.loop-tenant-test.false c.loop-tenant.invariant
