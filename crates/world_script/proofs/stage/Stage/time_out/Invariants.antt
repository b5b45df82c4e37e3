use Rattle.std.proofs.Common.{take}
use Rattle.world_script.specs.Parts.{TellsTimeouts}
use Rattle.world_script.proofs.stage.Stage.time_out.Given as goal

abbrev pub invariant-loop-id : goal.invariant-loop-id
invariant-loop-id g l =
    TellsTimeouts l.fn.self (take l.id-index l.at) l.self ((goal.Watcher-dyn g l.fn.watcher.now).told l.fn.watcher.now.1) ((goal.Watcher-dyn g l.watcher.now).told l.watcher.now.1)
