use Rattle.std.proofs.Common.{◌++◌, Option, ap, ◌∙◌}
use Rattle.std.proofs.lemmas.Result.{on_ok_weaker}
use Rattle.script_text.specs.Node.TheVariants.{Replica}
use Rattle.world_chart.specs.Changes.{changes_from}
use Rattle.world_script.specs.Seen.{standing}
use Rattle.world_script.specs.Status.{Status}
use Rattle.world_script.specs.Worlds.{WorldFacts}
use Rattle.world_trace.proofs.Noting.{noted_event}
use Rattle.world_trace.proofs.tracer.Tracer.note_event.Goals as goal

pub returns : goal.returns
returns c =
    let stands = c.status.ensures ∙ ap (λ (w : WorldFacts). standing w (Replica c.args.at)) c.world.ensures in
    on_ok_weaker c.note_row.result
    (noted_event c.args.at c.args.before c.args.row.now c.args.stage.now.world c.args.self.now.happened.items c.note_changes.new.self.happened.items c.note_row.new.self.happened.items
    (c.in_ok-note_changes.ensures ∙ ap (λ (after : Option Status). c.args.self.now.happened.items ++ changes_from c.args.at c.args.before after) stands))
    c.note_row.ensures
