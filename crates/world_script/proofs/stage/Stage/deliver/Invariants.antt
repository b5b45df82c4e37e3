use Rattle.std.specs.String.{string_bytes}
use Rattle.world_script.proofs.Delivering.{IsUnderWay}
use Rattle.world_script.proofs.stage.Stage.deliver.Given as goal

abbrev pub invariant-loop : goal.invariant-loop
invariant-loop g l =
    IsUnderWay l.filter l.counter l.fn.self (g.O.Write.contents l.fn.writer) (g.O.Write.contents l.writer) l.others l.self (string_bytes l.lines)
    ((goal.Watcher-dyn g l.fn.watcher.now).told l.fn.watcher.now.1) ((goal.Watcher-dyn g l.watcher.now).told l.watcher.now.1)
