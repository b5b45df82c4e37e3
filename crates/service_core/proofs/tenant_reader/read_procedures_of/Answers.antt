use Rattle.std.proofs.Common.{◌∷◌, [], ◌∙◌, map, ap, arith}
use Rattle.std.specs.Prelude.{flat_map}
use Rattle.std.proofs.lemmas.List.{map-append}
use Rattle.std.proofs.lemmas.Result.{err_from_is_err_and}
use Rattle.service_model.specs.Encoding.{encoded_procedure}
use Rattle.tenant_parts.specs.Procedures.{procedure_of}
use Rattle.service_core.specs.Readings.{IsProcedureIn}
use Rattle.service_core.proofs.ProceduresRead.{free_in}
use Rattle.service_core.proofs.Encoded.{failed, passes, SoMany, begun, continued, ended, next_begins}
use Rattle.service_core.proofs.tenant_reader.read_procedures_of.Goals as goal

pub loop-init : goal.loop-init
loop-init c = begun (encoded_procedure c.args.version) (IsProcedureIn c.args.version) c.args.bytes.now (map procedure_of c.new-procedures.result.items) (ap (map procedure_of) c.new-procedures.ensures.items)

pub returns-in_err-procedure : goal.returns-in_err-procedure
returns-in_err-procedure c =
    let p = err_from_is_err_and c.from_residual.result c.from_residual.ensures.1 in
    failed _ (flat_map (encoded_procedure c.args.version)) (SoMany (IsProcedureIn c.args.version) c.args.count) c.args.bytes.now _ p.0 c.in_err-procedure.field-0.0 p.1 p.2
    (passes (encoded_procedure c.args.version) (IsProcedureIn c.args.version) c.loop.rest.now (flat_map (encoded_procedure c.args.version)) (SoMany (IsProcedureIn c.args.version) c.args.count) c.args.bytes.now c.in_err-procedure.field-0.0
    (next_begins (encoded_procedure c.args.version) (IsProcedureIn c.args.version) (free_in c.args.version) c.args.bytes.now (map procedure_of c.loop.procedures.items) c.loop.counter c.args.count c.loop.rest.now c.loop.invariant c.loop-test.true)
    c.in_err-procedure.ensures)

pub loop-preserved : goal.loop-preserved
loop-preserved c =
    let pushed = c.in_ok-push.ensures in
    let here = c.in_ok-procedure.ensures in
    continued (encoded_procedure c.args.version) (IsProcedureIn c.args.version) c.args.bytes.now (map procedure_of c.loop.procedures.items) (map procedure_of c.push.new.self.items) c.loop.counter c.loop.rest.now c.in_ok-procedure.after.now (procedure_of c.in_ok-procedure.procedure) c.loop.invariant here.0 here.1
    (ap (map procedure_of) pushed.items ∙ map-append procedure_of c.loop.procedures.items (c.in_ok-procedure.procedure ∷ []))

pub returns : goal.returns
returns c = ended (encoded_procedure c.args.version) (IsProcedureIn c.args.version) c.args.bytes.now (map procedure_of c.loop.procedures.items) c.loop.counter c.args.count c.loop.rest.now c.loop.invariant (omega (arith, c.loop-test.false, c.loop.auto.counter-end))
