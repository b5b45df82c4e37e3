use Rattle.std.proofs.Common.{◌≡◌, Bool, true, false, sym, ap, ◌∙◌}
use Rattle.std.specs.Prelude.{is_some}
use Rattle.host_types.specs.Configuration.{Configuration}
use Rattle.seal.specs.Opening.{opening}
use Rattle.world_script.specs.Facts.{StageFacts}
use Rattle.world_script.specs.Stages.{refusal_of}
use Rattle.world_script.proofs.Deliveries.{handled, passes_over, refused}
use Rattle.world_script.proofs.stage.Stage.take_in.Goals as goal
use Rattle.world_script.proofs.stage.Stage.take_in.Goals.{then-is_some-via-then-is_some, then-is_some-via-else-is_some+then-not-is_running-2}

differ : (b : Bool) → b ≡ true → b ≡ false → ⊥
differ b h k = cc (sym h ∙ k)

pub returns-then-not-is_running : goal.returns-then-not-is_running
returns-then-not-is_running c = passes_over c.args.self.now c.args.id c.args.bytes.now _ (sym c.is_running.ensures ∙ c.if-not-is_running.true) c.new-nothing.ensures.bytes

pub returns-then-is_some : goal.returns-then-is_some
returns-then-is_some c =
    handled c.args.self.now c.receive.new.self c.args.id c.args.bytes.now _ c.in_ok-row.row (sym c.is_running.ensures ∙ c.if-not-is_running.false) c.in_ok-row.ensures
    (elim c.then-is_some.branch [
      | then-is_some-via-then-is_some w ↦ λ no. absurd (differ c.is_some.result w.if-is_some.true (c.is_some.ensures ∙ no))
      | then-is_some-via-else-is_some+then-not-is_running-2 w ↦ λ no. sym w.is_running-else-is_some.ensures ∙ w.if-not-is_running-2.true
    ])
    c.new-nothing.ensures.bytes

pub returns : goal.returns
returns c =
    let h = c.in_ok-row.ensures in
    refused c.args.self.now c.receive.new.self c.args.id c.args.bytes.now _ c.in_ok-row.row (sym c.is_running.ensures ∙ c.if-not-is_running.false) h (sym c.is_some.ensures ∙ c.if-is_some.false)
    (c.in_ok-text.ensures ∙ ap (λ (x : Configuration). refusal_of c.args.id (opening x c.args.bytes.now)) (ap (λ (s : StageFacts). s.world.config) h.new ∙ h.config))
