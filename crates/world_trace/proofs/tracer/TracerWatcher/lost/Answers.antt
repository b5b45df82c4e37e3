use Rattle.std.proofs.Common.{◌∷◌, [], refl}
use Rattle.std.proofs.lemmas.Result.{on_ok_weaker}
use Rattle.world_chart.specs.Happening.TheVariants as happens
use Rattle.world_script.specs.Seen.{Lost}
use Rattle.world_trace.specs.Happenings.{says}
use Rattle.world_trace.proofs.Noting.{tells_one}
use Rattle.world_trace.proofs.tracer.TracerWatcher.lost.Goals as goal

pub returns : goal.returns
returns c =
    let l = c.args.letter.now in
    on_ok_weaker c.note_lost.result (λ is. tells_one (Lost l) c.args.self.now.happened.items c.note_lost.new.self.happened.items (happens.Lost l.from l.to (says l) ∷ [], refl, is)) c.note_lost.ensures
