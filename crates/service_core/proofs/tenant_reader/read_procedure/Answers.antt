use Rattle.std.proofs.Common.{◌≤◌, length}
use Rattle.std.proofs.lemmas.Result.{err_from_is_err_and}
use Rattle.service_model.specs.Versions.{encoded_profile, IsTold}
use Rattle.service_model.specs.Encoding.{length_prefixed, encoded_procedure}
use Rattle.service_core.specs.Readings.{IsProcedureIn}
use Rattle.tenant_parts.specs.Procedures.{procedure_of}
use Rattle.service_core.proofs.Encoded.{failed, passes}
use Rattle.service_core.proofs.ProceduresRead.{begins_profile, begins_code, refused_code, procedure_read}
use Rattle.service_core.proofs.tenant_reader.read_procedure.Goals as goal

pub returns-in_err-profile : goal.returns-in_err-profile
returns-in_err-profile c =
    let p = err_from_is_err_and c.from_residual.result c.from_residual.ensures.1 in
    failed _ (encoded_procedure c.args.version) (IsProcedureIn c.args.version) c.args.bytes.now _ p.0 c.in_err-profile.field-0.0 p.1 p.2
    (passes (encoded_profile c.args.version) (IsTold c.args.version) c.args.bytes.now (encoded_procedure c.args.version) (IsProcedureIn c.args.version) c.args.bytes.now c.in_err-profile.field-0.0
    (begins_profile c.args.version c.args.bytes.now) c.in_err-profile.ensures)

pub returns-in_err-code : goal.returns-in_err-code
returns-in_err-code c =
    let p = err_from_is_err_and c.from_residual-in_err-code.result c.from_residual-in_err-code.ensures.1 in
    let here = c.in_ok-profile.ensures in
    failed _ (encoded_procedure c.args.version) (IsProcedureIn c.args.version) c.args.bytes.now _ p.0 c.in_err-code.field-0.0 p.1 p.2
    (passes length_prefixed (λ code. length code ≤ 8192) c.in_ok-profile.rest.now (encoded_procedure c.args.version) (IsProcedureIn c.args.version) c.args.bytes.now c.in_err-code.field-0.0
    (begins_code c.args.version c.args.bytes.now c.in_ok-profile.profile c.in_ok-profile.rest.now here.0 here.1) c.in_err-code.ensures)

pub returns-in-Ok : goal.returns-in-Ok
returns-in-Ok c =
    let here = c.in_ok-profile.ensures in
    let code = c.in_ok-code.ensures in
    let verdict = c.in-Ok.ensures in
    procedure_read c.args.version c.args.bytes.now c.in_ok-profile.profile c.in_ok-profile.rest.now here.0 here.1 c.in_ok-code.code.now c.in_ok-code.rest.now (procedure_of c.in-Ok.procedure) c.in-Ok.procedure.bound
    code.0 code.1 verdict.accepted.0 verdict.accepted.1

pub returns-in-Err : goal.returns-in-Err
returns-in-Err c =
    let here = c.in_ok-profile.ensures in
    let code = c.in_ok-code.ensures in
    let verdict = c.in-Err.ensures in
    refused_code c.args.version c.args.bytes.now c.in_ok-profile.profile c.in_ok-profile.rest.now here.0 here.1 c.in_ok-code.code.now c.in_ok-code.rest.now c.fault_of_refusal.result code.0 code.1
    (λ bound accepts. c.fault_of_refusal.ensures.memory (verdict.only bound accepts))
