use Rattle.host_types.proofs.InsertSorted.{too_many}
use Rattle.host_types.proofs.config.tenants.Goals as goal

pub returns-then-not-insert_sorted : goal.returns-then-not-insert_sorted
returns-then-not-insert_sorted c = too_many (λ tenant. tenant.0) (λ client. client.tenant) 8 c.args.clients.now c.loop-client.client-index _ _ c.loop-client-test.true c.loop-client.invariant c.if-not-insert_sorted.ensures
