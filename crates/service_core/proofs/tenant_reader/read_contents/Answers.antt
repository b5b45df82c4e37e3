use Rattle.std.proofs.Common.{arith}
use Rattle.std.proofs.lemmas.Result.{err_from_is_err_and}
use Rattle.service_model.specs.Encoding.{encoded_procedures, encoded_entries}
use Rattle.service_model.specs.Bounded.{IsSizedMap}
use Rattle.service_core.specs.Readings.{AreProcedures, AreContents, encoded_contents}
use Rattle.service_core.proofs.Parts.{behind_id, begins_procedures, begins_entries}
use Rattle.service_core.proofs.Encoded.{failed, passes}
use Rattle.service_core.proofs.tenant_reader.read_contents.Goals as goal

pub returns-then-id-tenant : goal.returns-then-id-tenant
returns-then-id-tenant c = λ begins.
    let here = c.in_ok-id.ensures in
    c.if-id-tenant.true (behind_id c.args.version c.args.tenant c.in_ok-id.id c.args.bytes.now c.in_ok-id.rest.now (omega (arith, c.ranges.tenant.fits)) here.0 here.1 begins).0

pub returns-in_err-procedures : goal.returns-in_err-procedures
returns-in_err-procedures c =
    let p = err_from_is_err_and c.from_residual-in_err-procedures.result c.from_residual-in_err-procedures.ensures.1 in
    let here = c.in_ok-id.ensures in
    failed _ (encoded_contents c.args.version c.args.tenant) (AreContents c.args.version) c.args.bytes.now _ p.0 c.in_err-procedures.field-0.0 p.1 p.2
    (passes (encoded_procedures c.args.version) (AreProcedures c.args.version) c.in_ok-id.rest.now (encoded_contents c.args.version c.args.tenant) (AreContents c.args.version) c.args.bytes.now c.in_err-procedures.field-0.0
    (λ begins. begins_procedures c.args.version c.in_ok-id.rest.now (behind_id c.args.version c.args.tenant c.in_ok-id.id c.args.bytes.now c.in_ok-id.rest.now (omega (arith, c.ranges.tenant.fits)) here.0 here.1 begins).1)
    c.in_err-procedures.ensures)

pub returns-in_err-entries : goal.returns-in_err-entries
returns-in_err-entries c =
    let p = err_from_is_err_and c.from_residual-in_err-entries.result c.from_residual-in_err-entries.ensures.1 in
    let here = c.in_ok-id.ensures in
    let next = c.in_ok-procedures.ensures in
    failed _ (encoded_contents c.args.version c.args.tenant) (AreContents c.args.version) c.args.bytes.now _ p.0 c.in_err-entries.field-0.0 p.1 p.2
    (passes encoded_entries IsSizedMap c.in_ok-procedures.rest.now (encoded_contents c.args.version c.args.tenant) (AreContents c.args.version) c.args.bytes.now c.in_err-entries.field-0.0
    (λ begins.
    let x = (behind_id c.args.version c.args.tenant c.in_ok-id.id c.args.bytes.now c.in_ok-id.rest.now (omega (arith, c.ranges.tenant.fits)) here.0 here.1 begins).1 in
    (x.0.1, x.1, x.2.1, begins_entries c.args.version c.in_ok-id.rest.now c.in_ok-procedures.rest.now _ next.0 next.1 x))
    c.in_err-entries.ensures)
