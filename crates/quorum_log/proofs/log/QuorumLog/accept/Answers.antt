use Rattle.std.proofs.Common.{◌+◌, ap, sym, subst, ◌∙◌}
use Rattle.host_types.specs.Configuration.{IsConfiguration}
use Rattle.quorum_log.proofs.Logging.{accept_fault, accept_kept, accept_recorded, accept_unchanged, at_own_slot, on_faultless, on_refused}
use Rattle.quorum_log.proofs.KindReadings.{voter_small}
use Rattle.quorum_log.proofs.Windows.{on_ok, on_err}
use Rattle.quorum_log.proofs.log.QuorumLog.accept.Goals as goal

pub invariant_of-self : goal.invariant_of-self
invariant_of-self c =
    let at = at_own_slot c.self.inside.config.value c.args.message.now c.in-Some.vote (c.requires.config ∙ sym (ap (λ k. k.config) c.self.view_is)) (sym c.vote.ensures.value ∙ c.in-Some.is) c.in-Some.ensures.proper in
    accept_kept c.self.inside.config.value c.self.inside.window.low.0 c.in_ok-index.index c.accept.new.self.low c.self.inside.window.numbers.items c.accept.new.self.numbers.items c.args.message.now c.in-Some.vote c.accept.result
    c.self.invariant at (c.in_ok-index.ensures.index ∙ ap (λ k. k.log.low + 1 + c.in_ok-index.index) (sym c.self.view_is)) c.accept.ensures.recorded c.accept.ensures.unchanged c.accept.ensures.length (ap (λ n. n.0) c.accept.ensures.low)

pub returns-clause-faultless : goal.returns-clause-faultless
returns-clause-faultless c =
    let at = at_own_slot c.self.inside.config.value c.args.message.now c.in-Some.vote (c.requires.config ∙ sym (ap (λ k. k.config) c.self.view_is)) (sym c.vote.ensures.value ∙ c.in-Some.is) c.in-Some.ensures.proper in
    on_faultless c.accept.result _ _
    (accept_fault c.self.inside.config.value c.self.inside.view.0 c.self.inside.floor c.self.inside.window.low.0 c.in_ok-index.index c.self.inside.window.numbers.items c.args.message.now c.in-Some.vote c.args.self.now
    c.self.invariant (voter_small c.self.inside.config.value c.in-Some.vote.view.0 c.in-Some.vote.number.0 c.in-Some.vote.kind c.args.message.now (subst IsConfiguration c.deref.ensures c.f.ensures.legal) at) at (sym c.vote.ensures.value ∙ c.in-Some.is) (c.in_ok-index.ensures.index ∙ ap (λ k. k.log.low + 1 + c.in_ok-index.index) (sym c.self.view_is)) c.in_ok-index.ensures.fault c.self.view_is)
    c.accept.ensures.same

pub returns-clause-recorded : goal.returns-clause-recorded
returns-clause-recorded c =
    let at = at_own_slot c.self.inside.config.value c.args.message.now c.in-Some.vote (c.requires.config ∙ sym (ap (λ k. k.config) c.self.view_is)) (sym c.vote.ensures.value ∙ c.in-Some.is) c.in-Some.ensures.proper in
    on_ok c.accept.result (λ set.
    accept_recorded c.self.inside.config.value c.self.inside.view.0 c.self.inside.floor c.self.inside.window.low.0 c.in_ok-index.index c.accept.new.self.low c.self.inside.window.numbers.items c.accept.new.self.numbers.items c.args.message.now c.in-Some.vote c.args.self.now
    c.self.invariant (voter_small c.self.inside.config.value c.in-Some.vote.view.0 c.in-Some.vote.number.0 c.in-Some.vote.kind c.args.message.now (subst IsConfiguration c.deref.ensures c.f.ensures.legal) at) at (sym c.vote.ensures.value ∙ c.in-Some.is) (c.in_ok-index.ensures.index ∙ ap (λ k. k.log.low + 1 + c.in_ok-index.index) (sym c.self.view_is)) set (ap (λ n. n.0) c.accept.ensures.low) c.self.view_is)
    c.accept.ensures.recorded

pub returns-clause-fault : goal.returns-clause-fault
returns-clause-fault c =
    let at = at_own_slot c.self.inside.config.value c.args.message.now c.in-Some.vote (c.requires.config ∙ sym (ap (λ k. k.config) c.self.view_is)) (sym c.vote.ensures.value ∙ c.in-Some.is) c.in-Some.ensures.proper in
    on_refused c.accept.result _ _
    (accept_fault c.self.inside.config.value c.self.inside.view.0 c.self.inside.floor c.self.inside.window.low.0 c.in_ok-index.index c.self.inside.window.numbers.items c.args.message.now c.in-Some.vote c.args.self.now
    c.self.invariant (voter_small c.self.inside.config.value c.in-Some.vote.view.0 c.in-Some.vote.number.0 c.in-Some.vote.kind c.args.message.now (subst IsConfiguration c.deref.ensures c.f.ensures.legal) at) at (sym c.vote.ensures.value ∙ c.in-Some.is) (c.in_ok-index.ensures.index ∙ ap (λ k. k.log.low + 1 + c.in_ok-index.index) (sym c.self.view_is)) c.in_ok-index.ensures.fault c.self.view_is)
    c.accept.ensures.fault

pub returns-clause-unchanged : goal.returns-clause-unchanged
returns-clause-unchanged c =
    on_err c.accept.result (λ same.
    accept_unchanged c.self.inside.config.value c.self.inside.view.0 c.self.inside.floor c.self.inside.window.low.0 c.accept.new.self.low c.self.inside.window.numbers.items c.accept.new.self.numbers.items c.args.self.now same (ap (λ n. n.0) c.accept.ensures.low) c.self.view_is)
    c.accept.ensures.unchanged
