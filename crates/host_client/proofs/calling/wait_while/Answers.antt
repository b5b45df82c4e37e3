use Rattle.std.proofs.Common.{rules, sym, ◌∙◌}
use Rattle.client_session.proofs.Hearing.{heard_same}
use Rattle.host_client.proofs.CallLaws.{heard_on}
use Rattle.host_client.proofs.calling.wait_while.Goals as goal

pub offer_for_reply-requires : goal.offer_for_reply-requires
offer_for_reply-requires g c = record { config = (heard_same c.loop.invariant.2).0 ∙ c.requires.config ∙ sym c.config.ensures }

pub returns-in_err-reply-in-Some-2-clause-heard : goal.returns-in_err-reply-in-Some-2-clause-heard
returns-in_err-reply-in-Some-2-clause-heard g c = heard_on c.args.session.now c.loop.session _ c.loop.invariant.2 c.offer_for_reply.ensures.hears

pub returns-in-Some-3-clause-heard : goal.returns-in-Some-3-clause-heard
returns-in-Some-3-clause-heard g c = heard_on c.args.session.now c.loop.session _ c.loop.invariant.2 c.offer_for_reply.ensures.hears

pub loop-preserved-in_default : goal.loop-preserved-in_default
loop-preserved-in_default g c = (search rules, search rules, heard_on c.args.session.now c.loop.session _ c.loop.invariant.2 c.offer_for_reply.ensures.hears)

pub loop-preserved-in_default-2 : goal.loop-preserved-in_default-2
loop-preserved-in_default-2 g c = (search rules, search rules, heard_on c.args.session.now c.loop.session _ c.loop.invariant.2 c.offer_for_reply.ensures.hears)
