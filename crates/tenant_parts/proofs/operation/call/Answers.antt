use Rattle.std.proofs.Common.{arith, refl}
use Rattle.std.proofs.lemmas.Result.{IfOk-weaker}
use Rattle.bpf_machine.specs.Represents.{ending_of}
use Rattle.tenant_parts.proofs.Doing.{calls_runs}
use Rattle.tenant_parts.proofs.operation.call.Goals as goal

pub returns-clause-calls : goal.returns-clause-calls
returns-clause-calls c =
    IfOk-weaker c.returned.result _ _ (λ bytes is.
    calls_runs c.args.client.0 c.args.procedures.now c.args.id c.args.args.now c.args.entries.now.entries _ bytes.items c.index-procedures-id.result (omega arith) c.index-procedures-id.is (omega arith)
    (record {
      insns = c.run.ensures.encoded.0;
      is_code = c.run.ensures.encoded.1;
      ending = ending_of c.in_ok-finished.finished.result c.in_ok-finished.finished.out.items c.run.new.port.entries c.in_ok-finished.finished.steps;
      ends = c.in_ok-finished.ensures.ends c.run.ensures.encoded.0 c.run.ensures.encoded.1;
      entries_are = refl;
      result_is = is;
    })) c.returned.ensures.value
