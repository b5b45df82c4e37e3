use Rattle.bpf_model.proofs.Safety.{bounded}
use Rattle.bpf_model.proofs.accepted_is_bounded.Goals as goal

pub returns : goal.returns
returns c = λ profile bytes code bound is accepted. bounded profile bytes code bound is accepted
