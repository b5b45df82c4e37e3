use Rattle.std.proofs.Common.{◌≡◌, ◌<◌, None, Err, length, ap, subst, sym, ◌∙◌}
use Rattle.replica_core.specs.Steps.{ReplicaFacts}
use Rattle.replica_core.specs.declared.replica.Status.{Status}
use Rattle.replica_core.specs.declared.row.Input.TheVariants as inputs
use Rattle.replica_journal.specs.Keeping.{Advances, IsKept, JournalFacts}
use Rattle.replica_journal.proofs.KeepingLaws.{advance_keeps, at, could_not_step, stepped}
use Rattle.replica_journal.proofs.journal.Journal.take_lanes.Goals as goal

pub invariant_of-self : goal.invariant_of-self
invariant_of-self g c =
    let j = c.self.inside in
    advance_keeps _ (at j.keeper.replica j.keeper.rows j.limit c.may_step.new.status) (inputs.Message c.args.message.now) (Err c.in_err-may_step.field-0.0) c.self.invariant
    (could_not_step j.keeper j.limit (length c.rows.result.now) j.status c.may_step.new.status (inputs.Message c.args.message.now) c.in_err-may_step.field-0.0
    (ap length c.rows.ensures) c.in_err-may_step.ensures.not)

pub invariant_of-self-2 : goal.invariant_of-self-2
invariant_of-self-2 g c =
    let j = c.self.inside in
    let may = c.in_ok-may_step.ensures.may in
    let status = c.may_step.new.status in
    let kept = subst (λ (s : Status). IsKept (at j.keeper.replica j.keeper.rows j.limit s)) (sym may.2) c.self.invariant in
    let room : length j.keeper.rows < j.limit = subst (λ n. n < j.limit) (ap length c.rows.ensures) may.1 in
    advance_keeps (at j.keeper.replica j.keeper.rows j.limit status) _ (inputs.Message c.args.message.now) c.finish.result kept
    (stepped j.keeper c.take_lanes-stepped.new.self j.limit status c.finish.new.status c.status.result (inputs.Message c.args.message.now) c.take_lanes-stepped.result c.finish.result
    kept (subst (λ (s : Status). s.halted ≡ None) (sym may.2) may.0) room c.take_lanes-stepped.ensures.keeps
    (c.status.ensures ∙ ap (λ (r : ReplicaFacts). r.status) c.replica.ensures) c.finish.ensures.row c.finish.ensures.halt)

pub returns-clause-step : goal.returns-clause-step
returns-clause-step g c =
    let j = c.self.inside in
    let may = c.in_ok-may_step.ensures.may in
    let status = c.may_step.new.status in
    let kept = subst (λ (s : Status). IsKept (at j.keeper.replica j.keeper.rows j.limit s)) (sym may.2) c.self.invariant in
    let room : length j.keeper.rows < j.limit = subst (λ n. n < j.limit) (ap length c.rows.ensures) may.1 in
    let there = stepped j.keeper c.take_lanes-stepped.new.self j.limit status c.finish.new.status c.status.result (inputs.Message c.args.message.now) c.take_lanes-stepped.result c.finish.result
    kept (subst (λ (s : Status). s.halted ≡ None) (sym may.2) may.0) room c.take_lanes-stepped.ensures.keeps
    (c.status.ensures ∙ ap (λ (r : ReplicaFacts). r.status) c.replica.ensures) c.finish.ensures.row c.finish.ensures.halt in
    let now = at c.take_lanes-stepped.new.self.replica c.take_lanes-stepped.new.self.rows j.limit c.finish.new.status in
    subst (λ (x : JournalFacts). Advances x (inputs.Message c.args.message.now) c.finish.result now) (ap (at j.keeper.replica j.keeper.rows j.limit) may.2 ∙ c.self.view_is) there

pub returns-in_err-may_step-clause-kept : goal.returns-in_err-may_step-clause-kept
returns-in_err-may_step-clause-kept g c = invariant_of-self g c

pub returns-clause-kept : goal.returns-clause-kept
returns-clause-kept g c = invariant_of-self-2 g c
