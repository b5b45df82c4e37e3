use Rattle.std.proofs.Common.{◌≡◌, ◌∙◌, refl, subst}
use Rattle.std.specs.Option.{option_copied}
use Rattle.replica_core.specs.Replicas.{KeptReplica}
use Rattle.replica_core.proofs.Performing.{executes, owes}
use Rattle.replica_stores.proofs.Results.{on_ok}
use Rattle.replica_core.proofs.kept.Core.execute.Goals as goal

pub report-requires : goal.report-requires
report-requires c = record {
  short = owes c.args.self.now c.args.number.0 c.in_ok-request.request (option_copied c.as_ref.result) c.take_next.new.self.core.service c.in_ok-outcome.outcome
      (subst (λ (k : KeptReplica). k.core.executed ≡ k.core.service.number) c.self.view_is refl)
      c.requires.next c.requires.number c.requires.sound c.as_ref.ensures.value c.in_ok-request.ensures.in_range c.in_ok-outcome.ensures.step;
}

pub returns-clause-executed : goal.returns-clause-executed
returns-clause-executed c =
    on_ok c.report.result c.report.ensures.reported (executes c.args.self.now c.args.number.0 c.args.digest.0 c.take_next.new.self.core.service c.in_ok-outcome.outcome (option_copied c.as_ref.result)
    c.take_next.new.self c.report.new.self c.requires.next (subst (λ (k : KeptReplica). k.core.executed ≡ k.core.service.number) c.self.view_is refl) c.in_ok-outcome.ensures.step (c.as_ref.ensures.value ∙ c.in_ok-request.ensures.request)
    c.in_ok-outcome.ensures.rest)
