use Rattle.std.proofs.Common.{◌≡◌, ◌∙◌, List, length, ap, sym, subst, arith}
use Rattle.std.specs.Prelude.{flat_map}
use Rattle.host_types.specs.declared.TenantId.{TenantId}
use Rattle.host_types.specs.Configuration.{tenants_of}
use Rattle.service_model.specs.Encoding.{encoded_tenant}
use Rattle.service_core.specs.Readings.{Reads, ArePartsOf}
use Rattle.service_core.proofs.Parts.{length_prefixed_parts, other_count}
use Rattle.service_core.proofs.tenant_reader.read_tenants.Goals as goal

pub returns-then-count-ids-clause-read : goal.returns-then-count-ids-clause-read
returns-then-count-ids-clause-read c =
    let here = c.in_ok-count.ensures in
    let ids : c.as_slice-ids.result.now ≡ tenants_of c.args.config.now.clients = c.as_slice-ids.ensures.value ∙ c.tenant_ids-all.ensures.value in
    other_count c.args.version (tenants_of c.args.config.now.clients) c.in_ok-count.count c.args.bytes.now c.in_ok-count.rest.now here.0 (omega (arith, ap length ids, c.as_slice-ids.ensures.fits)) (λ e. c.if-count-ids.true (e ∙ sym (ap length ids))) here.1

pub returns-clause-read : goal.returns-clause-read
returns-clause-read c =
    let here = c.in_ok-count.ensures in
    let ids : c.as_slice-ids.result.now ≡ tenants_of c.args.config.now.clients = c.as_slice-ids.ensures.value ∙ c.tenant_ids-all.ensures.value in
    length_prefixed_parts _ c.args.version (tenants_of c.args.config.now.clients) c.in_ok-count.count c.args.bytes.now c.in_ok-count.rest.now c.read_parts.result here.0 (c.if-count-ids.false ∙ ap length ids) here.1
    (subst (λ (us : List TenantId). Reads _ (flat_map (encoded_tenant c.args.version)) (ArePartsOf c.args.version us) c.in_ok-count.rest.now c.read_parts.result) ids c.read_parts.ensures.read)
