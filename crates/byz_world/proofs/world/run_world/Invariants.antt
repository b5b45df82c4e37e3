use Rattle.std.proofs.Common.{take}
use Rattle.std.specs.FinSet as set
use Rattle.byz_world.specs.Worlds.{Runs, first_world}
use Rattle.byz_world.proofs.world.run_world.Given as goal

abbrev pub invariant-loop-event : goal.invariant-loop-event
invariant-loop-event l = Runs (first_world l.config.value (λ i. set.contains l.faulty i) l.fn.signers.items) (take l.event-index l.events) l.world
