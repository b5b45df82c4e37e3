use Rattle.std.proofs.Common.{◌≡◌, ℕ, ◌<◌, None, List}
use Rattle.bpf_decode.specs.declared.insn.Insn.{Insn}
use Rattle.bpf_model.specs.Code.{insns_by_slot}
use Rattle.bpf_model.specs.Verdict.{structure_fault}
use Rattle.bpf_verifier.proofs.structure.check_structure.Given as goal

abbrev pub invariant-loop-slot : goal.invariant-loop-slot
invariant-loop-slot l = (code : List Insn) → l.slots ≡ insns_by_slot code → (k : ℕ) → k < l.slot → structure_fault code k ≡ None
