use Rattle.std.proofs.Common.{true, false, ap, subst, sym, ◌≡◌, ◌∙◌}
use Rattle.std.specs.List.{flat_map}
use Rattle.seal.specs.Lists.{CheckedMessages}
use Rattle.pbft_model.specs.Validity.{is_valid_new_view}
use Rattle.pbft_model.specs.Setup.{setup_of}
use Rattle.replica_core.proofs.Admitting.{on_ok}
use Rattle.replica_core.proofs.Taking.{in_new_view, new_view_checkpoints, new_view_recorded, new_view_valid}
use Rattle.replica_core.proofs.kept.Core.record_new_view.Goals as goal

pub note_all-requires-clause-kinds : goal.note_all-requires-clause-kinds
note_all-requires-clause-kinds c =
    let all = in_new_view c.args.message.now.message.body c.requires.kind in
    (all.0, ap (λ (l : CheckedMessages). l.messages) c.in_ok-inside.ensures ∙ all.1)

pub returns-clause-recorded : goal.returns-clause-recorded
returns-clause-recorded c = λ b is.
    let valid : is_valid_new_view (setup_of c.self.inside.config.value) b ≡ true =
    subst (λ x. is_valid_new_view (setup_of x) b ≡ true) c.deref.ensures (new_view_valid (setup_of c.deref.result.now) b c.valid_new_view.result false (c.valid_new_view.ensures b is) (sym c.if-is_err.false ∙ c.is_err.ensures.value)) in
    on_ok c.note_all.result (λ noted. new_view_recorded _ _ _ c.self.invariant c.args.self.now c.args.message.now.message b true c.note_all.new.table c.self.view_is valid noted)
    (c.note_all.ensures.noted (flat_map (λ v. v.body.checkpoints) b.changes) (ap (λ (l : CheckedMessages). l.messages) c.in_ok-inside.ensures ∙ new_view_checkpoints c.args.message.now.message.body b is))
