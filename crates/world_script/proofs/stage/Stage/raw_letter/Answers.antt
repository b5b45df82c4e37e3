use Rattle.std.proofs.Common.{List, find, bytes_eq, ap, sym, ◌∙◌}
use Rattle.world_queue.specs.Changes.{raw_letter}
use Rattle.world_script.specs.Facts.{StageFacts}
use Rattle.world_queue.specs.declared.named.Named.{Named}
use Rattle.world_script.proofs.Naming.{message_letter}
use Rattle.world_script.proofs.stage.Stage.raw_letter.Goals as goal

pub returns-in_ok-new-in-Some : goal.returns-in_ok-new-in-Some
returns-in_ok-new-in-Some c =
    message_letter c.args.self.now.named c.args.payload.now c.in-Message.name c.in-Message.change c.in-Some.named.now c.in_ok-new-in-Some.field-0 c.bytes.result.now c.in_ok-bytes-in-Some.bytes.items
    c.in-Message.is
    (c.in-Some.ensures ∙ ap (λ (messages : List Named). find (λ (m : Named). bytes_eq m.name c.in-Message.name) messages) (c.deref.ensures.value ∙ ap (λ (s : StageFacts). s.named) c.self.view_is))
    c.bytes.ensures c.in_ok-bytes-in-Some.ensures (c.in_ok-new-in-Some.ensures ∙ ap raw_letter c.deref-in-Some.ensures.value)
