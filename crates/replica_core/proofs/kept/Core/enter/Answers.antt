use Rattle.std.proofs.Common.{◌≡◌, ◌<◌, ◌≤◌, ℕ, arith, sym, ap, subst, ◌∙◌}
use Rattle.pbft_codec.specs.Bodies.{BodyWellFormed}
use Rattle.pbft_codec.specs.declared.body.Body.TheVariants as bodies
use Rattle.pbft_model.specs.Validity.{floor_of}
use Rattle.std.proofs.lemmas.Map.Keys.{le_from_not_gt}
use Rattle.seal.specs.Lists.{CheckedMessages}
use Rattle.seal.specs.Opening.{CheckedMessage}
use Rattle.seal.specs.Parts.{pre_prepares_of}
use Rattle.pbft_model.specs.Setup.{setup_of}
use Rattle.replica_core.proofs.Entering.{are_proposals, are_small, enters, entered_one, floor_small, gt_is, left_above, left_not}
use Rattle.replica_core.proofs.kept.Core.enter.Goals as goal
use Rattle.replica_core.proofs.kept.Core.enter.Goals.{then-gt+in_ok-leave_for, else-gt}

pub enter-requires-clause-proposals : goal.enter-requires-clause-proposals
enter-requires-clause-proposals c =
    let n = c.in-NewView.opened in
    let is : c.args.message.now.message.body ≡ bodies.NewView n = sym c.body.ensures.value ∙ c.in-NewView.is in
    are_proposals (setup_of c.args.self.now.config) n c.floor_of-floor.result.0 c.in_ok-pre_prepares.pre_prepares.messages (c.requires.valid n is)
    (c.floor_of-floor.ensures ∙ ap floor_of c.as_slice.ensures) (ap (λ (l : CheckedMessages). l.messages) c.in_ok-pre_prepares.ensures ∙ ap pre_prepares_of is)

pub enter-requires-clause-bound : goal.enter-requires-clause-bound
enter-requires-clause-bound c =
    let n = c.in-NewView.opened in
    let is : c.args.message.now.message.body ≡ bodies.NewView n = sym c.body.ensures.value ∙ c.in-NewView.is in
    are_small (setup_of c.args.self.now.config) n c.floor_of-floor.result.0 c.in_ok-pre_prepares.pre_prepares.messages (c.requires.valid n is) (subst BodyWellFormed is c.body.ensures.checked.encodes.well_formed.well_formed)
    (c.floor_of-floor.ensures ∙ ap floor_of c.as_slice.ensures) (ap (λ (l : CheckedMessages). l.messages) c.in_ok-pre_prepares.ensures ∙ ap pre_prepares_of is)

pub invariant_of-self-2 : goal.invariant_of-self-2
invariant_of-self-2 c =
    let n = c.in-NewView.opened in
    let is : c.args.message.now.message.body ≡ bodies.NewView n = sym c.body.ensures.value ∙ c.in-NewView.is in
    let basis_is = ap (λ (m : CheckedMessage). m.message.body) c.in_ok-basis.ensures ∙ is in
    let floor = c.floor_of-floor.ensures ∙ ap floor_of c.as_slice.ensures in
    let bound = floor_small n.changes (subst BodyWellFormed is c.body.ensures.checked.encodes.well_formed.well_formed).changes in
    entered_one _ _ _ c.self-2.invariant n c.in_ok-basis.basis c.floor_of-floor.result.0 c.in_ok-pre_prepares.pre_prepares.messages c.enter.new.self c.clear_view.new.self basis_is floor
    (ap (λ (l : CheckedMessages). l.messages) c.in_ok-pre_prepares.ensures ∙ ap pre_prepares_of is) c.in-Ok.ensures.entered c.clear_view.ensures (omega (arith, floor, bound))

pub returns-clause-entered : goal.returns-clause-entered
returns-clause-entered c = λ b body.
    let n = c.in-NewView.opened in
    let is : c.args.message.now.message.body ≡ bodies.NewView n = sym c.body.ensures.value ∙ c.in-NewView.is in
    let basis_is = ap (λ (m : CheckedMessage). m.message.body) c.in_ok-basis.ensures ∙ is in
    let floor = c.floor_of-floor.ensures ∙ ap floor_of c.as_slice.ensures in
    enters _ _ _ c.self-2.invariant n c.in_ok-basis.basis c.floor_of-floor.result.0 c.in_ok-pre_prepares.pre_prepares.messages c.enter.new.self c.clear_view.new.self basis_is floor
    (ap (λ (l : CheckedMessages). l.messages) c.in_ok-pre_prepares.ensures ∙ ap pre_prepares_of is) c.in-Ok.ensures.entered c.clear_view.ensures
    c.args.self.now c.if-gt.self b (c.requires.valid n is) c.self-2.view_is (elim c.if-gt.branch [
      | then-gt+in_ok-leave_for w ↦ left_above c.args.self.now w.leave_for.new.self c.if-gt.self n.view.0 (subst (λ (v : ℕ). v < n.view.0) c.view.ensures (gt_is n.view.0 c.view.result.0 (sym w.if-gt.ensures))) w.self-is w.in_ok-leave_for.ensures.left
      | else-gt w ↦ left_not c.args.self.now c.if-gt.self n.view.0 (subst (λ (v : ℕ). n.view.0 ≤ v) c.view.ensures (le_from_not_gt n.view.0 c.view.result.0 (sym w.if-gt.ensures))) w.self-is
    ]) (ap (λ (m : CheckedMessage). m.message.body) c.in_ok-basis.ensures ∙ body)
