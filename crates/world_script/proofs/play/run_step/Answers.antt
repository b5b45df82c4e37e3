use Rattle.std.proofs.Common.{ℕ, List, ◌++◌, refl, ap, ◌∙◌}
use Rattle.std.specs.String.{string_bytes}
use Rattle.world_script.specs.Expecting.{Scene}
use Rattle.world_script.specs.Stages.{after_naming}
use Rattle.world_script.proofs.Playing.{compared, step_done, step_fails, step_unnoted}
use Rattle.world_script.proofs.play.run_step.Goals as goal

pub returns-in-Expect : goal.returns-in-Expect
returns-in-Expect g c =
    let scene : Scene = record { stage = c.args.stage.now; unread = string_bytes c.args.unread.now } in
    compared c.args.number scene c.args.step.now c.in-Expect.expected c.as_slice.result.now (g.O.Write.contents c.args.writer.now) (g.O.Write.contents c.compare.new.writer) c.compare.result
    (string_bytes c.compare.new.unread) ((goal.Watcher-dyn g c.args.watcher.now).told c.args.watcher.now.1) c.in-Expect.is c.as_slice.ensures c.compare.ensures

pub returns-in-Err : goal.returns-in-Err
returns-in-Err g c =
    let scene : Scene = record { stage = c.args.stage.now; unread = string_bytes c.args.unread.now } in
    step_fails c.args.number scene c.args.step.now (g.O.Write.contents c.args.writer.now) (g.O.Write.contents c.run.new.writer) (record { stage = c.run.new.self; unread = string_bytes c.args.unread.now })
    ((goal.Watcher-dyn g c.args.watcher.now).told c.args.watcher.now.1) ((goal.Watcher-dyn g (c.args.watcher.now.0, c.run.new.watcher)).told c.run.new.watcher) c.in-Err.fault c.run.new.self c.in-Err.ensures

pub returns-in-Ok-note : goal.returns-in-Ok-note
returns-in-Ok-note g c =
    let scene : Scene = record { stage = c.args.stage.now; unread = string_bytes c.args.unread.now } in
    let later : Scene = record { stage = c.note.new.stage; unread = string_bytes c.note.new.unread } in
    step_done c.args.number scene c.args.step.now (g.O.Write.contents c.args.writer.now) (g.O.Write.contents c.run.new.writer) later ((goal.Watcher-dyn g c.args.watcher.now).told c.args.watcher.now.1)
    ((goal.Watcher-dyn g (c.args.watcher.now.0, c.run.new.watcher)).told c.run.new.watcher) c.in-Ok.text (string_bytes c.note.new.unread) c.run.new.self c.note.new.stage c.in_default.not-Expect c.in-Ok.ensures
    (c.in-Ok-note.ensures.text ∙ ap (λ (x : List ℕ). string_bytes c.args.unread.now ++ x) c.deref.ensures)
    (c.in-Ok-note.ensures.named ∙ ap (λ (n : ℕ). after_naming n c.args.step.now c.run.new.self) c.queue_length-before.ensures) refl

pub returns : goal.returns
returns g c =
    let scene : Scene = record { stage = c.args.stage.now; unread = string_bytes c.args.unread.now } in
    let told = (goal.Watcher-dyn g c.args.watcher.now).told c.args.watcher.now.1 in
    let later = (goal.Watcher-dyn g (c.args.watcher.now.0, c.run.new.watcher)).told c.run.new.watcher in
    step_unnoted c.args.number scene c.args.step.now (g.O.Write.contents c.args.writer.now) (g.O.Write.contents c.run.new.writer) (record { stage = c.note.new.stage; unread = string_bytes c.note.new.unread })
    told later c.in-Ok.text c.run.new.self later c.in-Ok.ensures
