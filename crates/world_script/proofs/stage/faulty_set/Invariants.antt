use Rattle.std.proofs.Common.{◌≡◌, take}
use Rattle.world_script.specs.Starts.{numbers_of}
use Rattle.world_script.proofs.stage.faulty_set.Given as goal

abbrev pub invariant-loop-id : goal.invariant-loop-id
invariant-loop-id l = l.set ≡ numbers_of (take l.id-index l.faulty)
