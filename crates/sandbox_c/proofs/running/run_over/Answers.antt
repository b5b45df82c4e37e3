use Rattle.std.proofs.Common.{arith, ◌≡◌, ℕ, List, ◌++◌, length, take, drop, Some, refl, sym, ap, subst, inl, ◌∙◌}
use Rattle.bpf_model.specs.Run.{EndsSo}
use Rattle.bpf_machine.specs.Represents.{call_of, ending_of}
use Rattle.sandbox_c.specs.Inside.{code_of, entries_of}
use Rattle.sandbox_c.specs.RunAnswers.{run_status}
use Rattle.sandbox_c.specs.declared.status.Status.TheVariants.{Done}
use Rattle.sandbox_c.proofs.Told.{front, goes}
use Rattle.sandbox_c.proofs.running.run_over.Goals as goal

pub returns-in-Ok-clause-run : goal.returns-in-Ok-clause-run
returns-in-Ok-clause-run c =
    let code = c.in-Ok.ensures.encoded in
    let call = call_of c.args.args.now c.args.client.0 c.in-Map.map.entries in
    let ended = c.in-Ok.finished in
    let emitted : take c.len.result c.put_front.new.buffer ≡ ended.out.items
    = front c.len.result _ _ _ c.len.ensures.value (c.put_front.ensures ∙ ap (λ (front : List ℕ). front ++ drop (length front) c.args.out.now) c.as_slice.ensures.value) in
    record {
      bytes = c.in-Procedure.procedure.bytes;
      is_procedure = ap code_of c.in-Procedure.is;
      old = c.in-Map.map.entries;
      is_old = ap entries_of c.in-Map.is;
      new = c.run.new.port.entries;
      is_new = refl;
      runs = record {
        code = code.0;
        is_code = code.1;
        ends = subst (λ (out : List ℕ). EndsSo code.0 call (ending_of ended.result out c.run.new.port.entries ended.steps)) (sym emitted)
            (c.in-Ok.ensures.ends code.0 code.1);
      };
    }

pub returns-in-Err-clause-refused : goal.returns-in-Err-clause-refused
returns-in-Err-clause-refused c =
    let code = c.in-Err.ensures.encoded in
    let args = c.args.args.now in
    let room = length c.args.out.now in
    let bare : run_status (Some c.in-Procedure.procedure.bytes) (Some c.in-Map.map.entries) args room ≡ Done
    = goes c.in-Procedure.procedure.bytes c.in-Map.map.entries args room (omega (arith, c.if-args-gt-ARGUMENTS_SIZE.false)) (omega (arith, c.if-out-lt-MAX_OUTPUT.false)) in
    let right = ap (λ held. run_status (code_of held) (entries_of c.args.map.now) args room) c.in-Procedure.is
    ∙ ap (λ held. run_status (Some c.in-Procedure.procedure.bytes) (entries_of held) args room) c.in-Map.is ∙ bare in
    inl (
      refl,
      right,
      record {
        bytes = c.in-Procedure.procedure.bytes;
        is_procedure = ap code_of c.in-Procedure.is;
        old = c.in-Map.map.entries;
        is_old = ap entries_of c.in-Map.is;
        new = c.run.new.port.entries;
        is_new = refl;
        stops = record { code = code.0; is_code = code.1; stops = c.in-Err.ensures.refused code.0 code.1 };
      },
    )
