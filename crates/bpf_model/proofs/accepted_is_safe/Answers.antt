use Rattle.bpf_model.proofs.Safety.{safe}
use Rattle.bpf_model.proofs.accepted_is_safe.Goals as goal

pub returns : goal.returns
returns c = λ profile bytes code bound is accepted. safe profile bytes code bound is accepted
