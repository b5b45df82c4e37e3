use Rattle.bpf_model.proofs.Totality.{same_bound, same_fault, not_both}
use Rattle.bpf_model.proofs.verdict_is_one.Goals as goal

pub returns : goal.returns
returns c = record {
  bound = λ profile code a b x y. same_bound profile code a b x y;
  fault = λ profile code a b s t x y. same_fault profile code a b s t x y;
  either = λ profile code bound fault slot x y. not_both profile code bound fault slot x y;
}
