use Rattle.std.specs.FinSet as set
use Rattle.world_script.proofs.OneForEach.{AreFor, ids_from}
use Rattle.world_script.proofs.signers.are_listed.Given as goal

abbrev pub invariant-loop-id : goal.invariant-loop-id
invariant-loop-id l =
    AreFor l.config.value (ids_from (λ i. set.contains l.faulty i) l.id l.count) l.rest
    → AreFor l.config.value (ids_from (λ i. set.contains l.faulty i) 0 l.count) l.fn.signers
