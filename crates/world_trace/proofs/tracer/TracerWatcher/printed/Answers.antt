use Rattle.std.proofs.Common.{refl}
use Rattle.std.proofs.lemmas.Result.{on_ok_weaker}
use Rattle.world_script.specs.Seen.{Printed}
use Rattle.world_trace.specs.Happenings.{cause_of, unqueued}
use Rattle.world_trace.proofs.Noting.{tells_one}
use Rattle.world_trace.proofs.tracer.TracerWatcher.printed.Goals as goal

pub returns : goal.returns
returns c =
    let s = c.args.stage.now in
    let step = c.args.step.now in
    on_ok_weaker c.note_cause.result
    (λ is. tells_one (Printed s step c.args._text.now) c.args.self.now.happened.items c.note_cause.new.self.happened.items (unqueued (cause_of s step), refl, is)) c.note_cause.ensures
