use Rattle.std.proofs.Common.{sym}
use Rattle.bpf_verifier.proofs.Plain.{filled_single}
use Rattle.bpf_verifier.proofs.slots.Slots.of_single.Goals as goal

pub invariant_of-result : goal.invariant_of-result
invariant_of-result c = sym (filled_single c.args.insns.items c.requires)
