use Rattle.std.proofs.Common.{subst, ap, sym, ◌∙◌}
use Rattle.std.specs.Prelude.{IfErr, slice_set}
use Rattle.quorum_log.specs.Slots.{IsRefusal, met_by, with_vote}
use Rattle.ballots.specs.Ballots.{is_for_other}
use Rattle.quorum_log.specs.Windows.{HasSlotAt}
use Rattle.quorum_log.proofs.Windows.{at_index, slot_set, same_set, on_ok, on_err}
use Rattle.quorum_log.proofs.window.Window.accept.Goals as goal

pub returns-clause-same : goal.returns-clause-same
returns-clause-same c =
    let is = at_index c.args.self.now.numbers.items c.args.index c.args.vote.now.view.0 _ _ c.requires.within c.index_mut.ensures.value in
    on_ok c.accept.result (λ e. ap (λ s. is_for_other c.args.vote.now.digest.0 (met_by c.args.vote.now.kind c.args.message.now.message.id s)) (sym is) ∙ e) c.accept.ensures.same

pub returns-clause-recorded : goal.returns-clause-recorded
returns-clause-recorded c =
    let is = at_index c.args.self.now.numbers.items c.args.index c.args.vote.now.view.0 _ _ c.requires.within c.index_mut.ensures.value in
    on_ok c.accept.result (λ h. subst (λ s. HasSlotAt c.args.index c.args.vote.now.view.0 (with_vote c.args.vote.now.kind c.args.message.now s) c.args.self.now.numbers.items (slice_set c.args.self.now.numbers.items c.args.index c.accept.new.self)) is
    (slot_set c.args.self.now.numbers.items c.args.index c.args.vote.now.view.0 _ _ _ c.accept.new.self c.requires.within c.index_mut.ensures.value h)) c.accept.ensures.recorded

pub returns-clause-fault : goal.returns-clause-fault
returns-clause-fault c =
    let is = at_index c.args.self.now.numbers.items c.args.index c.args.vote.now.view.0 _ _ c.requires.within c.index_mut.ensures.value in
    subst (λ s. IfErr c.accept.result (IsRefusal (is_for_other c.args.vote.now.digest.0 (met_by c.args.vote.now.kind c.args.message.now.message.id s)))) is c.accept.ensures.fault

pub returns-clause-unchanged : goal.returns-clause-unchanged
returns-clause-unchanged c =
    on_err c.accept.result (λ h. same_set c.args.self.now.numbers.items c.args.index _ _ c.accept.new.self c.requires.within c.index_mut.ensures.value h) c.accept.ensures.unchanged
