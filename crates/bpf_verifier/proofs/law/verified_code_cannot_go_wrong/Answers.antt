use Rattle.bpf_model.proofs.Safety.{bounded}
use Rattle.bpf_verifier.proofs.Verdicts.{safe_of, only_bound}
use Rattle.bpf_verifier.proofs.law.verified_code_cannot_go_wrong.Goals as goal

pub returns-clause-safe : goal.returns-clause-safe
returns-clause-safe c = λ profile bytes bound accepts code is.
    safe_of profile bytes accepts.0 bound accepts.1 accepts.2 code is

pub returns-clause-bounded : goal.returns-clause-bounded
returns-clause-bounded c = λ profile bytes bound accepts. bounded profile bytes accepts.0 bound accepts.1 accepts.2

pub returns-clause-one : goal.returns-clause-one
returns-clause-one c = λ profile bytes a b first second. only_bound profile bytes first.0 a first.1 first.2 b second
