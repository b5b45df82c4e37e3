use Rattle.std.proofs.Common.{◌≡◌, take}
use Rattle.bpf_model.specs.Code.{insns_by_slot}
use Rattle.bpf_verifier.proofs.slots.insns_by_slot.Given as goal

abbrev pub invariant-loop-insn : goal.invariant-loop-insn
invariant-loop-insn l = l.slots.items ≡ insns_by_slot (take l.insn-index l.code)
