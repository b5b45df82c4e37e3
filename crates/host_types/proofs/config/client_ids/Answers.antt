use Rattle.host_types.proofs.InsertSorted.{too_many}
use Rattle.host_types.proofs.config.client_ids.Goals as goal

pub returns-then-not-insert_sorted : goal.returns-then-not-insert_sorted
returns-then-not-insert_sorted c = too_many (λ id. id.0) (λ client. client.id) 64 c.args.clients.now c.loop-client.client-index _ _ c.loop-client-test.true c.loop-client.invariant c.if-not-insert_sorted.ensures
