use Rattle.std.proofs.Common.{◌≡◌, ◌+◌, subst, sym, rules, Option, Some, false, true, ℕ}
use Rattle.bpf_decode.specs.declared.insn.Insn.{Insn}
use Rattle.bpf_model.specs.Code.{target_of}
use Rattle.bpf_model.specs.AbstractState as model
use Rattle.bpf_model.specs.AbstractState.{edge_if, edges, after_test, after_insn}
use Rattle.bpf_verifier.specs.Represents.{state_of}
use Rattle.bpf_verifier.specs.Sweep.{Flowed}
use Rattle.bpf_verifier.proofs.Sweeps.{flowed-append, onward_is, onward_same}
use Rattle.bpf_verifier.proofs.dataflow.flow.Goals as goal

pub returns-in_ok-onward-in-Test-clause-flowed : goal.returns-in_ok-onward-in-Test-clause-flowed
returns-in_ok-onward-in-Test-clause-flowed g c = λ behind stack no_call holds.
    let x = c.in-Test in
    let steps = c.args.visit.value.steps in
    let m : model.AbstractState = state_of c.args.visit.value.state.ranges stack in
    let onward = after_test m x.narrow x.test x.dst.number x.src false in
    let taken = after_test m x.narrow x.test x.dst.number x.src true in
    let to : c.target_of-in-Test.result ≡ target_of c.args.slot x.offset = search rules in
    subst (λ (i : Insn). Flowed (edges behind c.args.slot m i) steps c.args.pending.now c.push-in-Test-2.new.pending) (sym x.is)
    (flowed-append (edge_if (Some (c.args.slot + 1)) onward) (edge_if (target_of c.args.slot x.offset) taken) steps c.args.pending.now c.push-in-Test.new.pending c.push-in-Test-2.new.pending
    (c.push-in-Test.ensures.flowed onward steps (c.in_ok-onward-in-Test.ensures.onward stack holds))
    (subst (λ (t : Option ℕ). Flowed (edge_if t taken) steps c.push-in-Test.new.pending c.push-in-Test-2.new.pending) to (c.push-in-Test-2.ensures.flowed taken steps (c.in_ok-onward-in-Test.ensures.taken stack holds))))

pub returns-in_default-clause-flowed : goal.returns-in_default-clause-flowed
returns-in_default-clause-flowed g c = λ behind stack no_call holds.
    let m : model.AbstractState = state_of c.args.visit.value.state.ranges stack in
    let steps = c.args.visit.value.steps in
    onward_is behind c.args.slot m c.args.insn.now c.slots.result steps c.args.pending.now c.push-in_default.new.pending
    c.in_default.not-Jump c.in_default.not-JumpLong c.in_default.not-Test c.in_default.not-CallLocal c.in_default.not-Exit
    c.slots.ensures (c.push-in_default.ensures.flowed (Some (after_insn m c.args.insn.now)) steps
    (onward_same c.deref_mut.result.now c.args.visit.value c.args.insn.now c.after_insn.new.self c.deref_mut.ensures.value c.after_insn.ensures stack holds))
