use Rattle.std.proofs.Common.{◌≡◌, ◌≤◌}
use Rattle.client_session.specs.Sessions.{backers}
use Rattle.client_session.proofs.answer.is_vouched.Given as goal

abbrev pub invariant-loop-replica : goal.invariant-loop-replica
invariant-loop-replica l =
    (l.count ≡ backers l.answers l.reply.number.0 l.reply.result l.replica) × (l.count ≤ l.replica)
