use Rattle.std.proofs.Common.{ℕ, ◌∙◌, ap, sym}
use Rattle.std.specs.Prelude.{flat_map}
use Rattle.std.proofs.lemmas.Result.{err_from_is_err_and}
use Rattle.service_model.specs.TenantStates.{replies_of}
use Rattle.service_model.specs.Encoding.{encoded_tenant}
use Rattle.service_core.specs.Readings.{AreContents, ArePartsOf, replies_to_tenant}
use Rattle.service_core.proofs.Parts.{parts_none, parts_more, parts_begin, parts_all}
use Rattle.service_core.proofs.Encoded.{failed, passes}
use Rattle.service_core.proofs.tenant_reader.read_parts.Goals as goal

pub loop-tenant-init : goal.loop-tenant-init
loop-tenant-init c = parts_none c.args.version c.args.config.now.clients c.args.replies.now c.args.tenants.now c.args.bytes.now c.new-parts.result.items c.new-parts.ensures.items

pub returns-in_err-part-clause-read : goal.returns-in_err-part-clause-read
returns-in_err-part-clause-read c =
    let p = err_from_is_err_and c.from_residual.result c.from_residual.ensures.1 in
    let bad = c.in_err-part.ensures in
    failed _ (flat_map (encoded_tenant c.args.version)) (ArePartsOf c.args.version c.args.tenants.now) c.args.bytes.now _ p.0 c.in_err-part.field-0.0 p.1 p.2
    (passes _ (AreContents c.args.version) c.loop-tenant.rest.now (flat_map (encoded_tenant c.args.version)) (ArePartsOf c.args.version c.args.tenants.now) c.args.bytes.now c.in_err-part.field-0.0
    (parts_begin c.args.version c.args.config.now.clients c.args.replies.now c.args.tenants.now c.args.bytes.now c.loop-tenant.parts.items c.loop-tenant.tenant-index c.loop-tenant.rest.now c.loop-tenant.invariant _ c.loop-tenant-test.true)
    bad.read)

pub loop-tenant-preserved : goal.loop-tenant-preserved
loop-tenant-preserved c =
    let pushed = c.in_ok-push.ensures in
    let here = c.in_ok-part.ensures in
    parts_more c.args.version c.args.config.now.clients c.args.replies.now c.args.tenants.now c.args.bytes.now c.loop-tenant.parts.items c.loop-tenant.tenant-index c.loop-tenant.rest.now c.loop-tenant.invariant _ c.loop-tenant-test.true
    c.push.new.self.items c.in_ok-part.part c.in_ok-part.after.now pushed.items here.tenant here.read.0 here.read.1
    (here.replies ∙ ap (λ (k : ℕ). replies_of (replies_to_tenant c.args.config.now.clients k c.args.replies.now)) (sym here.tenant))

pub returns-clause-read : goal.returns-clause-read
returns-clause-read c = parts_all c.args.version c.args.config.now.clients c.args.replies.now c.args.tenants.now c.args.bytes.now c.loop-tenant.parts.items c.loop-tenant.tenant-index c.loop-tenant.rest.now c.loop-tenant.invariant c.loop-tenant-test.false

pub returns-clause-replies : goal.returns-clause-replies
returns-clause-replies c = c.loop-tenant.invariant.keeps
