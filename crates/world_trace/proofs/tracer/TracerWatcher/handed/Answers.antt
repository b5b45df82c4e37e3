use Rattle.std.specs.String.{string_bytes}
use Rattle.std.proofs.lemmas.Result.{on_ok_weaker}
use Rattle.world_script.specs.Seen.{Handed}
use Rattle.world_trace.proofs.Noting.{tells_one}
use Rattle.world_trace.proofs.tracer.TracerWatcher.handed.Goals as goal

pub returns : goal.returns
returns c =
    let d = c.args.delivery.now in
    on_ok_weaker c.note_delivery.result
    (tells_one (Handed d.before d.letter d.passed d.row (string_bytes d.text) c.args.stage.now.world) c.args.self.now.happened.items c.note_delivery.new.self.happened.items) c.note_delivery.ensures
