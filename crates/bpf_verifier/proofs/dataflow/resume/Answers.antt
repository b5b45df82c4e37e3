use Rattle.std.proofs.Common.{sym, ap, subst, Option, Box}
use Rattle.std.specs.Box.{with_value}
use Rattle.std.specs.Option.{option_map}
use Rattle.std.specs.declared.alloc.Global.{Global}
use Rattle.bpf_model.specs.AbstractState.{after_call}
use Rattle.bpf_verifier.specs.declared.dataflow.Visit.{Visit}
use Rattle.bpf_verifier.specs.Represents.{Represents}
use Rattle.bpf_verifier.specs.Sweep.{visit_in, RepresentsVisit, Brings}
use Rattle.bpf_verifier.proofs.Visiting.{resumed_brings, not_resumed}
use Rattle.bpf_verifier.proofs.dataflow.resume.Goals.{in-Some, in-None}
use Rattle.bpf_verifier.proofs.dataflow.resume.Goals as goal

pub returns-clause-flowed : goal.returns-clause-flowed
returns-clause-flowed g c = λ of gone rep out.
    c.push.ensures.flowed (option_map (after_call c.args.depth of) gone) c.args.visit.value.steps
    (elim c.match-exit.branch [
      | in-Some w ↦ subst (λ (o : Option (Box (Visit g.row.WORDS) Global)). Brings o (option_map (after_call c.args.depth of) gone) c.args.visit.value.steps) (sym w.behind-is) (resumed_brings c.args.depth w.in-Some.exit (with_value c.args.visit (record { state = w.after_call.new.self; steps = w.deref_mut.result.now.steps })) w.deref_mut.result.now c.args.visit.value.steps (λ s exit before there. w.after_call.ensures s exit before (subst (λ (u : Visit g.row.WORDS). Represents u.state exit) (sym w.deref.ensures) there)) (ap (λ (u : Visit g.row.WORDS). u.steps) w.deref_mut.ensures.value) of gone (subst (λ (u : Visit g.row.WORDS). Represents u.state of) (sym w.deref_mut.ensures.value) rep) (subst (λ (o : Option (Box (Visit g.row.WORDS) Global)). RepresentsVisit (visit_in o) gone) w.in-Some.is out))
      | in-None w ↦ subst (λ (o : Option (Box (Visit g.row.WORDS) Global)). Brings o (option_map (after_call c.args.depth of) gone) c.args.visit.value.steps) (sym w.behind-is) (not_resumed g.row.WORDS c.args.depth c.args.visit.value.steps of gone (subst (λ (o : Option (Box (Visit g.row.WORDS) Global)). RepresentsVisit (visit_in o) gone) w.in-None.is out))
    ])
