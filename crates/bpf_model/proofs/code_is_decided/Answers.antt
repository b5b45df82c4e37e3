use Rattle.bpf_model.proofs.Totality.{decided}
use Rattle.bpf_model.proofs.code_is_decided.Goals as goal

pub returns : goal.returns
returns c = λ profile bytes code is. decided profile bytes code is
