use Rattle.std.proofs.Common.{ap, length, map, refl, subst, sym, ◌∙◌}
use Rattle.host_types.specs.Configuration.{IsConfiguration}
use Rattle.seal.specs.Lists.{under}
use Rattle.quorum_log.specs.Entering.{AreEntered, AreProper}
use Rattle.quorum_log.proofs.EnteringLog.{entered_are_kept}
use Rattle.quorum_log.proofs.EnteringTable.{entered_is}
use Rattle.quorum_log.proofs.Logging.{accept_unchanged, on_any, same_kept}
use Rattle.quorum_log.proofs.log.QuorumLog.enter.Goals as goal

pub returns-in_err-given-clause-unchanged : goal.returns-in_err-given-clause-unchanged
returns-in_err-given-clause-unchanged c =
    on_any c.from_residual.result
    (accept_unchanged c.self.inside.config.value c.self.inside.view.0 c.self.inside.floor c.self.inside.window.low.0 c.prepare.new.self.low c.self.inside.window.numbers.items c.prepare.new.self.numbers.items c.args.self.now
    c.prepare.ensures.same (ap (λ n. n.0) c.prepare.ensures.low) c.self.view_is)

pub invariant_of-self-2 : goal.invariant_of-self-2
invariant_of-self-2 c =
    let same = c.requires.config ∙ sym (ap (λ k. k.config) c.self.view_is) in
    let messages = c.as_slice-messages.ensures.value ∙ ap (λ k. map (under k) c.args.pre_prepares.now.messages) same in
    let low = ap (λ n. n.0) c.prepare.ensures.low in
    entered_are_kept c.self.inside.config.value c.self.inside.window.low.0 c.args.floor.0 c.args.view.0 c.enter.new.self.low c.args.pre_prepares.now.messages c.prepare.new.self.numbers.items c.enter.new.self.numbers.items
    (same_kept c.self.inside.config.value c.self.inside.window.low.0 c.self.inside.window.numbers.items c.prepare.new.self.numbers.items c.self.invariant c.prepare.ensures.same c.prepare.ensures.length)
    c.requires.proposals
    (subst (λ n. AreEntered (length c.prepare.new.self.numbers.items) n c.args.floor.0 c.args.view.0 (map (under c.self.inside.config.value) c.args.pre_prepares.now.messages) c.prepare.new.self.numbers.items c.enter.new.self.numbers.items) low
    (subst (λ ms. AreEntered (length c.prepare.new.self.numbers.items) c.prepare.new.self.low.0 c.args.floor.0 c.args.view.0 ms c.prepare.new.self.numbers.items c.enter.new.self.numbers.items) messages c.enter.ensures.entered))
    (subst (λ n. AreProper (length c.prepare.new.self.numbers.items) n c.args.floor.0 (map (under c.self.inside.config.value) c.args.pre_prepares.now.messages)) low
    (subst (λ ms. AreProper (length c.prepare.new.self.numbers.items) c.prepare.new.self.low.0 c.args.floor.0 ms) messages c.enter.ensures.proper))
    (ap (λ n. n.0) c.enter.ensures.low ∙ low)

pub returns-clause-entered : goal.returns-clause-entered
returns-clause-entered c =
    let same = c.requires.config ∙ sym (ap (λ k. k.config) c.self.view_is) in
    let messages = c.as_slice-messages.ensures.value ∙ ap (λ k. map (under k) c.args.pre_prepares.now.messages) same in
    let low = ap (λ n. n.0) c.prepare.ensures.low in
    entered_is c.self.inside.config.value c.self.inside.view.0 c.self.inside.floor c.self.inside.window.low.0 c.args.view.0 c.enter.new.self.low c.args.floor c.args.pre_prepares.now.messages c.prepare.new.self.numbers.items c.enter.new.self.numbers.items c.args.self.now
    (subst IsConfiguration c.deref.ensures c.f.ensures.legal)
    (same_kept c.self.inside.config.value c.self.inside.window.low.0 c.self.inside.window.numbers.items c.prepare.new.self.numbers.items c.self.invariant c.prepare.ensures.same c.prepare.ensures.length)
    c.requires.proposals
    (subst (λ n. AreEntered (length c.prepare.new.self.numbers.items) n c.args.floor.0 c.args.view.0 (map (under c.self.inside.config.value) c.args.pre_prepares.now.messages) c.prepare.new.self.numbers.items c.enter.new.self.numbers.items) low
    (subst (λ ms. AreEntered (length c.prepare.new.self.numbers.items) c.prepare.new.self.low.0 c.args.floor.0 c.args.view.0 ms c.prepare.new.self.numbers.items c.enter.new.self.numbers.items) messages c.enter.ensures.entered))
    (subst (λ n. AreProper (length c.prepare.new.self.numbers.items) n c.args.floor.0 (map (under c.self.inside.config.value) c.args.pre_prepares.now.messages)) low
    (subst (λ ms. AreProper (length c.prepare.new.self.numbers.items) c.prepare.new.self.low.0 c.args.floor.0 ms) messages c.enter.ensures.proper))
    (ap (λ n. n.0) c.enter.ensures.low ∙ low)
    (accept_unchanged c.self.inside.config.value c.self.inside.view.0 c.self.inside.floor c.self.inside.window.low.0 c.self.inside.window.low c.self.inside.window.numbers.items c.prepare.new.self.numbers.items c.args.self.now c.prepare.ensures.same refl c.self.view_is)
