use Rattle.std.proofs.Common.{arith}
use Rattle.service_model.specs.Encoding.{encoded_procedure}
use Rattle.service_core.specs.Readings.{IsProcedureIn}
use Rattle.service_core.proofs.Encoded.{length_prefixed_list}
use Rattle.service_core.proofs.tenant_reader.read_procedures.Goals as goal

pub returns : goal.returns
returns c =
    let here = c.in_ok-count.ensures in
    length_prefixed_list _ (encoded_procedure c.args.version) (IsProcedureIn c.args.version) 64 c.in_ok-count.count c.args.bytes.now c.in_ok-count.rest.now c.read_procedures_of.result (omega arith) here.0 here.1 c.read_procedures_of.ensures
