use Rattle.std.specs.Prelude.{◌≡◌, drop}
use Rattle.std.specs.List.{All}
use Rattle.replica_threads.proofs.furnishing.furnish.Given as goal

abbrev pub invariant-loop-id : goal.invariant-loop-id
invariant-loop-id l = (l.signers.rest.items ≡ drop l.id l.fn.signers.items) × All (λ d. d.journal.value.limit ≡ l.limit) l.desks.items
