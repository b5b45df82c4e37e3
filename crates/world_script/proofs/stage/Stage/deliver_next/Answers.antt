use Rattle.std.proofs.Common.{◌≡◌, ◌++◌, None, sym, ap, subst, ◌∙◌}
use Rattle.std.specs.Prelude.{is_some}
use Rattle.std.specs.String.{string_bytes}
use Rattle.world_queue.specs.Letters.{first_meant}
use Rattle.world_queue.specs.declared.fates.Fate.TheVariants as fates
use Rattle.world_script.specs.Parts.{TellsFate, ahead}
use Rattle.world_script.specs.Facts.{StageFacts}
use Rattle.world_script.specs.Seen.{Tells}
use Rattle.world_script.proofs.Delivering.{delivered, restored}
use Rattle.world_script.proofs.Telling.{told_none}
use Rattle.world_script.proofs.stage.Stage.deliver_next.Goals as goal

pub returns-in_default : goal.returns-in_default
returns-in_default g c =
    let told = (goal.Watcher-dyn g c.args.watcher.now).told c.args.watcher.now.1 in
    let kept : StageFacts = record { world = c.self.inside.world; forgers = c.self.inside.forgers.items; sessions = c.self.inside.sessions.sessions.items; made = c.self.inside.made.items; named = c.self.inside.named.items; queue = c.self.inside.queue } in
    let view : kept ≡ c.args.self.now = c.self.view_is in
    let m = c.in_ok-letter.ensures in
    let same = subst (λ (s : StageFacts). (first_meant c.args.filter.now (c.args.others.now ++ s.queue) ≡ None) × (record kept { queue = c.swap.new.x } ≡ ahead c.args.others.now s)) view
    (restored c.args.filter.now kept c.args.others.now c.next_meant.new.others c.next_meant.new.self c.swap.new.x c.in_ok-letter.field-0 (ap is_some c.in_default.is) m.found m.rest m.emptied c.swap.ensures.x_after) in
    (same.0, same.1, told_none told)

pub returns : goal.returns
returns g c =
    let told = (goal.Watcher-dyn g c.args.watcher.now).told c.args.watcher.now.1 in
    let later = (goal.Watcher-dyn g (c.args.watcher.now.0, c.hand_over.new.watcher)).told c.hand_over.new.watcher in
    let kept : StageFacts = record { world = c.self.inside.world; forgers = c.self.inside.forgers.items; sessions = c.self.inside.sessions.sessions.items; made = c.self.inside.made.items; named = c.self.inside.named.items; queue = c.self.inside.queue } in
    let view : kept ≡ c.args.self.now = c.self.view_is in
    let m = c.in_ok-letter.ensures in (
      subst (λ (s : StageFacts). TellsFate (fates.Handed 0) c.args.filter.now (ahead c.args.others.now s) (string_bytes c.in_ok-text.text) (ahead c.next_meant.new.others c.hand_over.new.self) told later) view
          (delivered c.args.filter.now kept c.hand_over.new.self c.in-Some.letter (c.args.others.now ++ c.self.inside.queue) c.next_meant.new.others c.next_meant.new.self _ told later
          (sym m.found ∙ c.in-Some.is) m.rest c.in_ok-text.ensures),
      m.passed,
    )
