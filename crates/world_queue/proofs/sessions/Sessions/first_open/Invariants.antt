use Rattle.std.proofs.Common.{◌≡◌, drop}
use Rattle.world_queue.specs.Waiting.{first_open}
use Rattle.world_queue.proofs.sessions.Sessions.first_open.Given as goal

abbrev pub invariant-loop-session : goal.invariant-loop-session
invariant-loop-session l = first_open l.self.sessions.items ≡ first_open (drop l.session-index l.self.sessions.items)
