use Rattle.bpf_model.proofs.Runs.{same_ending}
use Rattle.bpf_model.proofs.ending_is_one.Goals as goal

pub returns : goal.returns
returns c = λ code call a b ea eb. same_ending code call a b ea eb
