use Rattle.std.proofs.Common.{◌≡◌, take, true}
use Rattle.bpf_model.specs.AbstractState.{has_all}
use Rattle.bpf_verifier.specs.Represents.{ranges_of}
use Rattle.bpf_verifier.proofs.abstract_state.AbstractState.has_all.Given as goal

abbrev pub invariant-loop-register : goal.invariant-loop-register
invariant-loop-register g l = has_all (ranges_of l.self.ranges) (take l.register-index l.registers) ≡ true
