use Rattle.std.proofs.Common.{◌∙◌, sym}
use Rattle.std.specs.Option.{option_copied}
use Rattle.host_types.specs.declared.ClientId.{ClientId}
use Rattle.service_model.specs.TenantStates.{last_reply_of}
use Rattle.service_core.proofs.Counting.{counted_some, counted_not, counted_all, copied}
use Rattle.service_core.proofs.state.State.reply_count.Goals as goal
use Rattle.service_core.proofs.state.State.reply_count.Goals.{then-is_some, else-is_some}

pub loop-id-preserved : goal.loop-id-preserved
loop-id-preserved c =
    elim c.if-is_some.branch [
      | then-is_some w ↦
          rw w.count-is
          (counted_some (λ (id : ClientId). last_reply_of c.args.self.now id.0) c.args.ids.now c.loop-id.id-index c.loop-id.count (record { 0 = 0 }) (option_copied c.last_reply.result) c.loop-id-test.true c.last_reply.ensures.value
          (copied c.last_reply.result ∙ sym c.is_some.ensures ∙ w.if-is_some.true) c.loop-id.invariant)
      | else-is_some w ↦
          rw w.count-is
          (counted_not (λ (id : ClientId). last_reply_of c.args.self.now id.0) c.args.ids.now c.loop-id.id-index c.loop-id.count (record { 0 = 0 }) (option_copied c.last_reply.result) c.loop-id-test.true c.last_reply.ensures.value
          (copied c.last_reply.result ∙ sym c.is_some.ensures ∙ w.if-is_some.false) c.loop-id.invariant)
    ]

pub returns : goal.returns
returns c = counted_all (λ (id : ClientId). last_reply_of c.args.self.now id.0) c.args.ids.now c.loop-id.id-index c.loop-id.count c.loop-id-test.false c.loop-id.invariant
