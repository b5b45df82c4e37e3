use Rattle.std.proofs.Common.{rules, ◌≡◌, subst, inr}
use Rattle.std.proofs.lemmas.Result.{IfOk-weaker}
use Rattle.std.specs.Arc.{arc_value}
use Rattle.host_types.specs.Configuration.{Configuration}
use Rattle.service_model.specs.Decoding.{Decodes}
use Rattle.service_model.specs.TenantStates.{Service}
use Rattle.world_script.proofs.stage.Stage.upgrade_text.Goals as goal

pub returns-in-Err-BadState : goal.returns-in-Err-BadState
returns-in-Err-BadState c =
    let same : arc_value c.in_ok-try_clone.field-0 ≡ c.args.self.now.world.config = search rules in
    let none = subst (λ (x : Configuration). (state : Service) → Decodes x c.args.bytes.now state → ⊥) same (c.in-Err-BadState.ensures.none c.in-Err-BadState.field-0-is) in
    IfOk-weaker c.line_of_no_state.result _ _ (λ text e. inr (none, e)) c.line_of_no_state.ensures
