use Rattle.std.proofs.Common.{◌≡◌, take, true}
use Rattle.bpf_model.specs.AbstractState.{are_initialized}
use Rattle.bpf_verifier.specs.Represents.{Stack, IsStackOf, ranges_of}
use Rattle.bpf_verifier.proofs.abstract_state.AbstractState.are_initialized.Given as goal

abbrev pub invariant-loop-access : goal.invariant-loop-access
invariant-loop-access g l =
    (stack : Stack) → IsStackOf l.self.initialized.words g.row.WORDS l.self.words.ranges stack → are_initialized stack.initialized (ranges_of l.self.ranges) (take l.access-index l.accesses) ≡ true
