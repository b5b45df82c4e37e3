use Rattle.std.proofs.lemmas.Result.{on_ok_weaker}
use Rattle.world_script.proofs.Telling.{timeout_told}
use Rattle.world_script.proofs.stage.Stage.time_out_at.Goals as goal

pub returns : goal.returns
returns g c =
    on_ok_weaker c.timed_out.result
    (timeout_told c.args.id c.args.self.now c.expire.new.self c.in_ok-row.row c.standing-before.result ((goal.Watcher-dyn g c.args.watcher.now).told c.args.watcher.now.1)
    ((goal.Watcher-dyn g (c.args.watcher.now.0, c.timed_out.new.self)).told c.timed_out.new.self) c.in_ok-row.ensures c.standing-before.ensures) c.timed_out.ensures
