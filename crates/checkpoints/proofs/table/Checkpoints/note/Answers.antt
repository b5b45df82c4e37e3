use Rattle.std.proofs.Common.{rules, sym, ap, subst, ◌∙◌}
use Rattle.checkpoints.specs.Reading.{IsBallotAt, ballot_in}
use Rattle.checkpoints.proofs.Noting.{ballots_after, fault_above, kept_noted, no_fault, noted_seen, on_err, refused_as, same_kept, same_seen, stable_some}
use Rattle.checkpoints.proofs.Voting.{checkpoint_at}
use Rattle.checkpoints.proofs.table.Checkpoints.note.Goals as goal

pub invariant_of-self : goal.invariant_of-self
invariant_of-self c = same_kept c.self.inside.config.value c.self.inside.low.0 c.self.inside.ballots c.accept.new.ballots c.self.inside.greatest c.in_err-accept.ensures.unchanged c.self.invariant

pub returns-in_err-accept-clause-fault : goal.returns-in_err-accept-clause-fault
returns-in_err-accept-clause-fault c =
    refused_as c.from_residual.result c.in_err-accept.field-0.0 _ _ c.from_residual.ensures.1
    (fault_above c.self.inside.config.value c.self.inside.low.0 c.self.inside.ballots c.self.inside.snapshots c.self.inside.greatest c.args.message.now c.in-Checkpoint.said c.args.self.now c.self.invariant c.self.view_is (sym c.body.ensures.value ∙ c.in-Checkpoint.is) (search (rules, c.if-le.false, c.if-le.ensures)))
    c.in_err-accept.ensures.fault

pub returns-in_err-accept-clause-unchanged : goal.returns-in_err-accept-clause-unchanged
returns-in_err-accept-clause-unchanged c =
    on_err c.from_residual.result (same_seen c.self.inside.config.value c.self.inside.low.0 c.self.inside.ballots c.accept.new.ballots c.self.inside.snapshots c.args.self.now c.in_err-accept.ensures.unchanged c.self.view_is)

pub quorum_at-requires : goal.quorum_at-requires
quorum_at-requires c =
    let under = c.requires.config ∙ sym (ap (λ k. k.config) c.self.view_is) in
    let is = checkpoint_at c.self.inside.config.value c.args.message.now c.in-Checkpoint.said c.self.invariant.configuration under c.signer.ensures.checked (sym c.body.ensures.value ∙ c.in-Checkpoint.is) in
    subst (λ d. IsBallotAt d c.in-Checkpoint.said.number.0 (ballot_in c.accept.new.ballots c.in-Checkpoint.said.number.0)) (sym c.deref.ensures)
    (ballots_after c.self.inside.config.value c.in-Checkpoint.said.number.0 c.self.inside.ballots c.accept.new.ballots c.args.message.now c.self.invariant.each is c.in_ok-accept.ensures.recorded c.in-Checkpoint.said.number.0)

pub invariant_of-self-2 : goal.invariant_of-self-2
invariant_of-self-2 c =
    let under = c.requires.config ∙ sym (ap (λ k. k.config) c.self.view_is) in
    let is = checkpoint_at c.self.inside.config.value c.args.message.now c.in-Checkpoint.said c.self.invariant.configuration under c.signer.ensures.checked (sym c.body.ensures.value ∙ c.in-Checkpoint.is) in
    kept_noted c.self.inside.config.value c.self.inside.low.0 c.self.inside.ballots c.accept.new.ballots c.self.inside.greatest c.greatest_with-self-inside.result c.args.message.now c.in-Checkpoint.said.number c.is_some-is_stable.result c.self.invariant is (search (rules, c.if-le.false, c.if-le.ensures))
    c.in_ok-accept.ensures.recorded (stable_some c.self.inside.config.value c.deref.result.now c.accept.new.ballots c.in-Checkpoint.said.number.0 c.quorum_at.result c.is_some-is_stable.result c.is_some-is_stable.ensures c.deref.ensures c.quorum_at.ensures.digest) c.greatest_with-self-inside.ensures

pub returns-clause-fault : goal.returns-clause-fault
returns-clause-fault c =
    no_fault _ _ (fault_above c.self.inside.config.value c.self.inside.low.0 c.self.inside.ballots c.self.inside.snapshots c.self.inside.greatest c.args.message.now c.in-Checkpoint.said c.args.self.now c.self.invariant c.self.view_is (sym c.body.ensures.value ∙ c.in-Checkpoint.is) (search (rules, c.if-le.false, c.if-le.ensures)))
    c.in_ok-accept.ensures.same

pub returns-clause-noted : goal.returns-clause-noted
returns-clause-noted c =
    let under = c.requires.config ∙ sym (ap (λ k. k.config) c.self.view_is) in
    let body = sym c.body.ensures.value ∙ c.in-Checkpoint.is in
    let is = checkpoint_at c.self.inside.config.value c.args.message.now c.in-Checkpoint.said c.self.invariant.configuration under c.signer.ensures.checked body in
    noted_seen c.self.inside.config.value c.self.inside.low.0 c.self.inside.ballots c.accept.new.ballots c.self.inside.snapshots c.self.inside.greatest c.args.message.now c.in-Checkpoint.said c.args.self.now c.self.invariant c.self.view_is is body (search (rules, c.if-le.false, c.if-le.ensures)) c.in_ok-accept.ensures.recorded
