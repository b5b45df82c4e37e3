use Rattle.std.proofs.Common.{◌≡◌}
use Rattle.benches.proofs.world.replies.offer_again.Given as goal

abbrev pub invariant-loop : goal.invariant-loop
invariant-loop l = l.session.config ≡ l.reply.config
