use Rattle.std.proofs.Common.{◌+◌, ◌∷◌, ◌++◌, [], ap, sym, subst, ◌∙◌}
use Rattle.quorum_log.specs.Log.{AreProposals, IsProposal}
use Rattle.quorum_log.proofs.EnteringLog.{proposal_more}
use Rattle.replica_tests.proofs.log.add.Goals as goal

pub returns-then-is_proposal-clause-proposals : goal.returns-then-is_proposal-clause-proposals
returns-then-is_proposal-clause-proposals c =
    let next = subst (λ n. IsProposal c.args.view (c.args.floor + 1 + n) c.args.message.now.message) c.len.ensures (c.is_proposal.ensures c.if-is_proposal.true) in
    subst (AreProposals c.args.view (c.args.floor + 1)) (sym (ap (λ l. l.messages) c.in_ok-push.ensures.pushed ∙ ap (λ m. c.args.list.now.messages ++ m.message ∷ []) c.in_ok-copy.ensures))
    (proposal_more c.args.view (c.args.floor + 1) c.args.list.now.messages c.args.message.now.message c.requires.proposals next)
