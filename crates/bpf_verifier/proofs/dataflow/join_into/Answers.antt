use Rattle.std.proofs.Common.{sym, subst, Option, Some, Box, Global}
use Rattle.bpf_verifier.specs.declared.dataflow.Visit.{Visit}
use Rattle.bpf_verifier.specs.Sweep.{visit_in, VisitJoined}
use Rattle.bpf_verifier.proofs.Sweeps.{joined_same}
use Rattle.bpf_verifier.proofs.dataflow.join_into.Goals as goal

pub returns-in-Some-clause-visit : goal.returns-in-Some-clause-visit
returns-in-Some-clause-visit g c = λ of is.
    subst (λ (o : Option (Box (Visit g.row.WORDS) Global)). VisitJoined (visit_in o) of c.args.visit.value.steps (Some c.join.new.self)) (sym c.in-Some.is)
    (joined_same c.deref_mut.result.now c.deref.result.now c.in-Some.before.value c.args.visit.value c.join.new.self c.deref_mut.ensures.value c.deref.ensures c.join.ensures of is)
