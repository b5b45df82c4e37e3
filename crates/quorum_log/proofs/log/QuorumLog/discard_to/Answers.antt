use Rattle.std.proofs.Common.{ap, refl, ◌∙◌}
use Rattle.std.proofs.lemmas.Bool.{cases_lt}
use Rattle.quorum_log.specs.Log.{KeptLog, discarded}
use Rattle.quorum_log.proofs.Discarding.{kept_is, discarded_log, kept_after}
use Rattle.quorum_log.proofs.log.QuorumLog.discard_to.Goals as goal

pub invariant_of-self : goal.invariant_of-self
invariant_of-self c =
    kept_after c.self.inside.config.value c.self.inside.window.low.0 c.args.number.0 c.discard_to.new.self.low c.self.inside.window.numbers.items c.discard_to.new.self.numbers.items c.self.invariant
    c.discard_to.ensures.length c.discard_to.ensures.above (λ le. (ap (λ n. n.0) (c.discard_to.ensures.below le).0, (c.discard_to.ensures.below le).1)) (cases_lt c.self.inside.window.low.0 c.args.number.0)

pub returns : goal.returns
returns c =
    kept_is _ _ _ _ refl
    (discarded_log c.self.inside.view.0 c.self.inside.floor c.self.inside.window.low.0 c.args.number.0 c.discard_to.new.self.low c.self.inside.window.numbers.items c.discard_to.new.self.numbers.items
    c.discard_to.ensures.above (λ le. (ap (λ n. n.0) (c.discard_to.ensures.below le).0, (c.discard_to.ensures.below le).1)) (cases_lt c.self.inside.window.low.0 c.args.number.0))
    ∙ ap (λ (k : KeptLog). record k { log = discarded c.args.number.0 k.log }) c.self.view_is
