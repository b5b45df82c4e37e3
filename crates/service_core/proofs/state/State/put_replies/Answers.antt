use Rattle.std.proofs.Common.{◌+◌, ◌++◌, ◌∙◌, ap, sym, subst, take, List}
use Rattle.std.specs.Prelude.{flat_map}
use Rattle.std.specs.List.{filter_map}
use Rattle.std.specs.Option.{option_copied}
use Rattle.std.proofs.lemmas.List.{take_all}
use Rattle.host_types.specs.declared.ClientId.{ClientId}
use Rattle.service_model.specs.TenantStates.{last_reply_of}
use Rattle.service_core.specs.Sinks.{Feeds}
use Rattle.service_model.specs.Encoding.{encoded_reply}
use Rattle.service_core.proofs.Counting.{pieces_found, more_missed}
use Rattle.service_core.proofs.Fed.{fed_none, fed_same, fed_then}
use Rattle.service_core.proofs.state.State.put_replies.Goals as goal
use Rattle.service_core.proofs.state.State.put_replies.Goals.{in-Some+in_ok-put_reply, in_default}

pub loop-id-init : goal.loop-id-init
loop-id-init g c = fed_none g.S.Sink.holds c.args.sink.now

pub loop-id-preserved : goal.loop-id-preserved
loop-id-preserved g c =
    let d : ClientId = record { 0 = 0 } in
    let i = c.loop-id.id-index in
    let before = flat_map encoded_reply (filter_map (λ (id : ClientId). last_reply_of c.args.self.now id.0) (take i c.args.ids.now)) in
    let after = flat_map encoded_reply (filter_map (λ (id : ClientId). last_reply_of c.args.self.now id.0) (take (i + 1) c.args.ids.now)) in
    elim c.match-last_reply.branch [
      | in-Some+in_ok-put_reply w ↦
          subst (λ s. Feeds g.S.Sink.holds c.args.sink.now s after) (sym w.sink-is)
          (fed_same g.S.Sink.holds c.args.sink.now w.put_reply.new.sink (before ++ encoded_reply w.in-Some.reply.now) after
          (sym (pieces_found (λ (id : ClientId). last_reply_of c.args.self.now id.0) encoded_reply c.args.ids.now i d w.in-Some.reply.now c.loop-id-test.true (sym c.last_reply.ensures.value ∙ ap option_copied w.in-Some.is)))
          (fed_then g.S.Sink.holds c.args.sink.now c.loop-id.sink w.put_reply.new.sink before (encoded_reply w.in-Some.reply.now) c.loop-id.invariant w.in_ok-put_reply.ensures))
      | in_default w ↦
          subst (λ s. Feeds g.S.Sink.holds c.args.sink.now s after) (sym w.sink-is)
          (fed_same g.S.Sink.holds c.args.sink.now c.loop-id.sink before after
          (ap (flat_map encoded_reply) (sym (more_missed (λ (id : ClientId). last_reply_of c.args.self.now id.0) c.args.ids.now i d c.loop-id-test.true (sym c.last_reply.ensures.value ∙ ap option_copied w.in_default.is))))
          c.loop-id.invariant)
    ]

pub returns : goal.returns
returns g c =
    fed_same g.S.Sink.holds c.args.sink.now c.loop-id.sink _ _
    (ap (λ (ids : List ClientId). flat_map encoded_reply (filter_map (λ (id : ClientId). last_reply_of c.args.self.now id.0) ids)) (take_all c.loop-id.id-index c.args.ids.now c.loop-id-test.false))
    c.loop-id.invariant
