use Rattle.std.proofs.Common.{◌≡◌, take}
use Rattle.std.specs.List.{flat_map}
use Rattle.world_script.specs.Stages.{letters_of, queued}
use Rattle.world_script.proofs.stage.Stage.queue_outputs.Given as goal

abbrev pub invariant-loop-output : goal.invariant-loop-output
invariant-loop-output l =
    l.self ≡ queued l.fn.self (flat_map (letters_of l.fn.self.world.config l.from) (take l.output-index l.outputs))
