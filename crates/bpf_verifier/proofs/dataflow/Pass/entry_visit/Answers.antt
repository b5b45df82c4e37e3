use Rattle.bpf_model.specs.AbstractState.{entry_state}
use Rattle.bpf_verifier.specs.Represents.{Represents}
use Rattle.bpf_verifier.proofs.Sweeps.{copied_state}
use Rattle.bpf_verifier.proofs.dataflow.Pass.entry_visit.Goals as goal

pub returns-clause-state : goal.returns-clause-state
returns-clause-state g c =
    copied_state c.copy_of.result c.entry_state.result (Represents c.args.state.now) (entry_state c.args.depth) c.copy_of.ensures.ranges c.copy_of.ensures.initialized c.copy_of.ensures.words c.entry_state.ensures
