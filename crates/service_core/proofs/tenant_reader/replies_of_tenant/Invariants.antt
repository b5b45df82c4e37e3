use Rattle.std.proofs.Common.{◌≡◌, take}
use Rattle.service_core.specs.Readings.{replies_to_tenant}
use Rattle.service_core.proofs.tenant_reader.replies_of_tenant.Given as goal

abbrev pub invariant-loop-reply : goal.invariant-loop-reply
invariant-loop-reply l = l.last_replies.items ≡ replies_to_tenant l.config.clients l.tenant.0 (take l.reply-index l.replies)
