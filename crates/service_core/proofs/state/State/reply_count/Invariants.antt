use Rattle.service_model.specs.TenantStates.{last_reply_of}
use Rattle.service_core.proofs.Counting.{Counted}
use Rattle.service_core.proofs.state.State.reply_count.Given as goal

abbrev pub invariant-loop-id : goal.invariant-loop-id
invariant-loop-id l = Counted (λ id. last_reply_of l.self id.0) l.ids l.id-index l.count
