use Rattle.std.proofs.Common.{take}
use Rattle.std.specs.Prelude.{flat_map}
use Rattle.std.specs.List.{filter_map}
use Rattle.service_model.specs.TenantStates.{last_reply_of}
use Rattle.service_core.specs.Sinks.{Feeds}
use Rattle.service_model.specs.Encoding.{encoded_reply}
use Rattle.service_core.proofs.state.State.put_replies.Given as goal

abbrev pub invariant-loop-id : goal.invariant-loop-id
invariant-loop-id g l = Feeds g.S.Sink.holds l.fn.sink l.sink (flat_map encoded_reply (filter_map (λ id. last_reply_of l.self id.0) (take l.id-index l.ids)))
