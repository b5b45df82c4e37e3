use Rattle.world_script.proofs.Telling.{lost_until}
use Rattle.world_script.specs.Seen.{Tells}
use Rattle.world_script.proofs.stage.Stage.tell_lost.Given as goal

abbrev pub invariant-loop-index : goal.invariant-loop-index
invariant-loop-index g l =
    Tells ((goal.Watcher-dyn g l.fn.watcher.now).told l.fn.watcher.now.1) (lost_until l.filter l.self.queue l.index) ((goal.Watcher-dyn g l.watcher.now).told l.watcher.now.1)
