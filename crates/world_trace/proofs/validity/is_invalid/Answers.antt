use Rattle.std.proofs.Common.{◌≡◌, sym, ap, ◌∙◌}
use Rattle.std.specs.Prelude.{not}
use Rattle.host_types.specs.Configuration.{Configuration}
use Rattle.pbft_codec.specs.declared.body.Body.TheVariants as bodies
use Rattle.pbft_model.specs.Setup.{setup_of}
use Rattle.pbft_model.specs.Validity.{is_valid, is_valid_new_view}
use Rattle.world_trace.specs.Blaming.{is_invalid}
use Rattle.world_trace.proofs.Judging.{change_invalid, opening_invalid}
use Rattle.world_trace.proofs.validity.is_invalid.Goals as goal

pub returns-in-ViewChange : goal.returns-in-ViewChange
returns-in-ViewChange c =
    let v = c.in-ViewChange.field-0 in
    let body : c.args.message.now.message.body ≡ bodies.ViewChange v = sym c.body.ensures.value ∙ c.in-ViewChange.is in
    let same : c.deref-config.result.now ≡ c.args.message.now.config = c.deref-config.ensures ∙ c.config.ensures.value in
    c.is_err.ensures.value
    ∙ (change_invalid (setup_of c.deref-config.result.now) v c.valid.result (c.valid.ensures v body)
    ∙ (ap (λ (x : Configuration). not (is_valid (setup_of x) v)) same ∙ sym (ap (is_invalid (setup_of c.args.message.now.config)) body)))

pub returns-in-NewView : goal.returns-in-NewView
returns-in-NewView c =
    let n = c.in-NewView.field-0 in
    let body : c.args.message.now.message.body ≡ bodies.NewView n = sym c.body.ensures.value ∙ c.in-NewView.is in
    let same : c.deref-config.result.now ≡ c.args.message.now.config = c.deref-config.ensures ∙ c.config.ensures.value in
    c.is_err-in-NewView.ensures.value
    ∙ (opening_invalid (setup_of c.deref-config.result.now) n c.valid_new_view.result (c.valid_new_view.ensures n body)
    ∙ (ap (λ (x : Configuration). not (is_valid_new_view (setup_of x) n)) same ∙ sym (ap (is_invalid (setup_of c.args.message.now.config)) body)))
