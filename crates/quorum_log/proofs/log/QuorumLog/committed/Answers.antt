use Rattle.std.proofs.Common.{ap, sym, subst, ◌∙◌}
use Rattle.seal.specs.declared.vote.VoteKind.TheVariants as kinds
use Rattle.ballots.specs.Ballots.{AreListed}
use Rattle.quorum_log.specs.Slots.{is_committed_here}
use Rattle.quorum_log.proofs.Asking.{committed_is, votes_listed}
use Rattle.quorum_log.proofs.log.QuorumLog.committed.Goals as goal

pub is_committed-requires-clause-prepares : goal.is_committed-requires-clause-prepares
is_committed-requires-clause-prepares c =
    subst (λ k. AreListed k c.in-Some.slot.now.prepares) (sym (c.deref.ensures ∙ ap (λ k. k.config) c.self.view_is))
    (votes_listed c.args.self.now.config c.args.view.0 c.args.number.0 kinds.Prepare c.in-Some.slot.now.prepares c.in-Some.ensures.represents.is.prepares)

pub is_committed-requires-clause-commits : goal.is_committed-requires-clause-commits
is_committed-requires-clause-commits c =
    subst (λ k. AreListed k c.in-Some.slot.now.commits) (sym (c.deref.ensures ∙ ap (λ k. k.config) c.self.view_is))
    (votes_listed c.args.self.now.config c.args.view.0 c.args.number.0 kinds.Commit c.in-Some.slot.now.commits c.in-Some.ensures.represents.is.commits)

pub returns-in-Some : goal.returns-in-Some
returns-in-Some c =
    c.is_committed.ensures ∙ ap (λ k. is_committed_here k c.args.view.0 c.in-Some.slot.now) (c.deref.ensures ∙ ap (λ k. k.config) c.self.view_is)
    ∙ committed_is c.args.self.now.config c.args.self.now.log c.args.view.0 c.args.number.0 c.in-Some.slot.now c.slot.ensures.legal c.in-Some.ensures.represents
