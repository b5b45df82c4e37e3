use Rattle.replica_core.proofs.Opening.{after_more, leads_still, next_proposal, signed_more}
use Rattle.replica_core.proofs.kept.Core.signed_list.Goals as goal

pub sign_proposal-requires-clause-leads : goal.sign_proposal-requires-clause-leads
sign_proposal-requires-clause-leads c = leads_still c.args.self.now c.loop-said.self c.loop-said.said-index c.loop-said.invariant.1 c.requires.leads

pub sign_proposal-requires-clause-proposal : goal.sign_proposal-requires-clause-proposal
sign_proposal-requires-clause-proposal c =
    next_proposal c.args.self.now c.loop-said.self c.args.entries.now c.loop-said.said-index _ c.loop-said.invariant.1 c.loop-said-test.true c.requires.proposals

pub loop-said-preserved : goal.loop-said-preserved
loop-said-preserved c = (
  signed_more c.args.self.now c.loop-said.self c.args.entries.now c.loop-said.said-index _ c.loop-said.invariant.1 c.loop-said-test.true c.loop-said.signed c.push.new.self c.in_ok-sign_proposal.field-0
      c.loop-said.invariant.0 c.in_ok-sign_proposal.ensures.signed c.in_ok-push.ensures.pushed,
  after_more c.args.self.now c.loop-said.self c.sign_proposal.new.self c.loop-said.said-index c.loop-said.invariant.1 c.in_ok-sign_proposal.ensures.after,
)
