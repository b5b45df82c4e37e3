use Rattle.std.proofs.Common.{slice_set, sym, ap, ◌∙◌}
use Rattle.world_queue.proofs.Parties.{offers, offers_none}
use Rattle.world_queue.proofs.sessions.Sessions.offer.Goals as goal

pub returns-in_default-clause-offered : goal.returns-in_default-clause-offered
returns-in_default-clause-offered c = offers_none c.args.self.now.sessions.items c.args.client c.args.message.now _ (sym c.index_of.ensures ∙ c.in_default.is) c.new.ensures.bytes

pub returns-clause-offered : goal.returns-clause-offered
returns-clause-offered c =
    offers c.args.self.now.sessions.items _ c.args.client c.args.message.now _ c.in-Some.index c.index_mut.result.now (sym c.index_of.ensures ∙ c.in-Some.is) c.index_mut.ensures.value
    c.in_ok-text.ensures.text (ap (slice_set c.args.self.now.sessions.items c.in-Some.index) c.in_ok-text.ensures.offered)
