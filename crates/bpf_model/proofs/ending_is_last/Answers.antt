use Rattle.bpf_model.proofs.Runs.{run_within}
use Rattle.bpf_model.proofs.ending_is_last.Goals as goal

pub returns : goal.returns
returns c = λ code call ending n m e run. run_within code call ending n m e run
