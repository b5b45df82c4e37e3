use Rattle.std.proofs.Common.{◌≡◌, ◌+◌, ◌++◌, length}
use Rattle.std.specs.FinSet as set
use Rattle.world_script.specs.Keys.{correct_from}
use Rattle.world_script.specs.Starts.{forgers_from}
use Rattle.world_script.proofs.stage.parted.Given as goal

abbrev pub invariant-loop-id : goal.invariant-loop-id
invariant-loop-id l =
    (length l.signers.rest.items + l.id ≡ l.count)
    × (l.correct.items ++ correct_from (λ i. set.contains l.faulty i) l.id l.signers.rest.items
    ≡ correct_from (λ i. set.contains l.faulty i) 0 l.fn.signers.items)
    × (l.forgers.items ++ forgers_from (λ i. set.contains l.faulty i) l.id l.signers.rest.items
    ≡ forgers_from (λ i. set.contains l.faulty i) 0 l.fn.signers.items)
