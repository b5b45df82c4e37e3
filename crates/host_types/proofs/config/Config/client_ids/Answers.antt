use Rattle.std.proofs.Common.{ap, length, arith}
use Rattle.host_types.proofs.InsertSorted.{length-collected-all}
use Rattle.host_types.proofs.config.Config.client_ids.Goals as goal

pub unreachable-requires : goal.unreachable-requires
unreachable-requires c = absurd (omega (arith, c.in-None.ensures, length-collected-all (λ id. id.0) (λ client. client.id) c.deref.result.now, ap length c.deref.ensures.value, c.self.invariant.clients))
