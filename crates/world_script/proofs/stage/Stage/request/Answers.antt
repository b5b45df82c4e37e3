use Rattle.std.proofs.Common.{◌≡◌, List, ℕ, [], Option, Some, sym, subst, ◌∙◌}
use Rattle.seal.specs.Opening.{CheckedMessage}
use Rattle.world_queue.specs.Effects.{Requests}
use Rattle.world_script.specs.Facts.{StageFacts}
use Rattle.world_script.specs.Stages.{Turn, requested}
use Rattle.world_script.proofs.Turns.{request_queued}
use Rattle.world_script.proofs.stage.Stage.request.Goals as goal

pub returns : goal.returns
returns c =
    let s : StageFacts = record { world = c.self.inside.world; forgers = c.self.inside.forgers.items; sessions = c.self.inside.sessions.sessions.items; made = c.self.inside.made.items; named = c.self.inside.named.items; queue = c.self.inside.queue } in
    let view : s ≡ c.args.self.now = c.self.view_is in
    subst (λ (bs : List ℕ). ◌≡◌ {A = Turn} (bs, c.queue_request.new.self) (requested c.args.self.now c.args.order.now)) (sym c.new.ensures.bytes)
    (subst (λ (x : StageFacts). ◌≡◌ {A = Turn} ([], c.queue_request.new.self) (requested x c.args.order.now)) view
    (request_queued s c.queue_request.new.self c.args.order.now c.in-Some.request _
    (subst (λ (op : List ℕ). Requests c.self.inside.sessions.sessions.items c.args.order.now.client op c.request.new.self.sessions.items (Some c.in-Some.request)) (c.from_vec-op.ensures ∙ c.in_ok-from_slice.ensures.items ∙ c.as_slice.ensures.value)
    (subst (λ (made : Option CheckedMessage). Requests c.self.inside.sessions.sessions.items c.args.order.now.client c.from_vec-op.result c.request.new.self.sessions.items made) c.in-Some.is c.in_ok-request.ensures.requested)) c.in_ok-queue_request.ensures))
