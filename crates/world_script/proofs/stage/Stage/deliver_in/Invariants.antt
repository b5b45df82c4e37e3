use Rattle.std.specs.String.{string_bytes}
use Rattle.world_script.proofs.Delivering.{IsDrawing}
use Rattle.world_script.proofs.stage.Stage.deliver_in.Given as goal

abbrev pub invariant-loop-done : goal.invariant-loop-done
invariant-loop-done g l =
    IsDrawing l.filter l.order l.done l.fn.self (g.O.Write.contents l.fn.writer) (g.O.Write.contents l.writer) l.state l.self (string_bytes l.lines)
    ((goal.Watcher-dyn g l.fn.watcher.now).told l.fn.watcher.now.1) ((goal.Watcher-dyn g l.watcher.now).told l.watcher.now.1)
