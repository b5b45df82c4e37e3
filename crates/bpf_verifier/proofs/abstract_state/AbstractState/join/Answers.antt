use Rattle.bpf_verifier.proofs.States.{joined_is}
use Rattle.bpf_verifier.proofs.abstract_state.AbstractState.join.Goals as goal

pub returns : goal.returns
returns g c = joined_is c.args.self.now c.args.other.now _ c.join.ensures c.intersect.ensures c.join-2.ensures
