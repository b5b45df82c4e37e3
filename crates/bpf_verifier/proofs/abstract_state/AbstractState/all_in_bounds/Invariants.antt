use Rattle.std.proofs.Common.{◌≡◌, take, true}
use Rattle.bpf_model.specs.AbstractState.{all_in_bounds}
use Rattle.bpf_verifier.specs.Represents.{ranges_of}
use Rattle.bpf_verifier.proofs.abstract_state.AbstractState.all_in_bounds.Given as goal

abbrev pub invariant-loop-access : goal.invariant-loop-access
invariant-loop-access g l = all_in_bounds l.depth (ranges_of l.self.ranges) (take l.access-index l.accesses) ≡ true
