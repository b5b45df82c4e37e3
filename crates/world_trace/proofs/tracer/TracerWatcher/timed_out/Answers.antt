use Rattle.std.proofs.lemmas.Result.{on_ok_weaker}
use Rattle.world_script.specs.Seen.{TimedOut}
use Rattle.world_trace.proofs.Noting.{tells_one}
use Rattle.world_trace.proofs.tracer.TracerWatcher.timed_out.Goals as goal

pub returns : goal.returns
returns c =
    let e = c.args.expiry.now in
    on_ok_weaker c.note_expiry.result (tells_one (TimedOut e.before e.at e.row c.args.stage.now.world) c.args.self.now.happened.items c.note_expiry.new.self.happened.items) c.note_expiry.ensures
