use Rattle.std.proofs.Common.{◌≡◌, ◌++◌, drop}
use Rattle.std.specs.List.{All}
use Rattle.world_queue.specs.Effects.{fresh_sessions}
use Rattle.world_queue.proofs.Clients.{HaveKeysOf}
use Rattle.world_queue.proofs.sessions.open_sessions.Given as goal

abbrev pub invariant-loop-entry : goal.invariant-loop-entry
invariant-loop-entry l =
    HaveKeysOf (drop l.entry-index l.entry-items) l.signers.rest.items
    × All (λ s. s.config ≡ l.config.value) l.sessions.items
    × (l.sessions.items ++ fresh_sessions l.config.value (drop l.entry-index l.entry-items) l.signers.rest.items
    ≡ fresh_sessions l.config.value l.entry-items l.fn.signers.items)
