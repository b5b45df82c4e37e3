use Rattle.bpf_verifier.proofs.States.{join_visit}
use Rattle.bpf_verifier.proofs.dataflow.Visit.join.Goals as goal

pub returns : goal.returns
returns g c = λ of is.
    (join_visit c.args.self.now.state c.args.other.now.state c.join.new.self of c.join.ensures is, c.max-self.ensures)
