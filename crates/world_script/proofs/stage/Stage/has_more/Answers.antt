use Rattle.std.proofs.Common.{◌≡◌, ◌++◌, None, sym, ap, subst, ◌∙◌}
use Rattle.world_queue.specs.Letters.{first_meant}
use Rattle.world_script.specs.Parts.{ahead}
use Rattle.world_script.specs.Facts.{StageFacts}
use Rattle.world_script.proofs.Delivering.{no_more, restored}
use Rattle.world_script.proofs.stage.Stage.has_more.Goals as goal

pub returns-then-is_some : goal.returns-then-is_some
returns-then-is_some c = λ none.
    let kept : StageFacts = record { world = c.self.inside.world; forgers = c.self.inside.forgers.items; sessions = c.self.inside.sessions.sessions.items; made = c.self.inside.made.items; named = c.self.inside.named.items; queue = c.self.inside.queue } in
    let view : kept ≡ c.args.self.now = c.self.view_is in
    no_more c.in_ok-next_meant.field-0 _ (sym c.is_some.ensures ∙ c.if-is_some.true)
    (c.in_ok-next_meant.ensures.found ∙ ap (λ (s : StageFacts). first_meant c.args.filter.now (c.args.others ++ s.queue)) view ∙ none)

pub returns : goal.returns
returns c =
    let kept : StageFacts = record { world = c.self.inside.world; forgers = c.self.inside.forgers.items; sessions = c.self.inside.sessions.sessions.items; made = c.self.inside.made.items; named = c.self.inside.named.items; queue = c.self.inside.queue } in
    let view : kept ≡ c.args.self.now = c.self.view_is in
    let m = c.in_ok-next_meant.ensures in
    subst (λ (s : StageFacts). (first_meant c.args.filter.now (c.args.others ++ s.queue) ≡ None) × (record kept { queue = c.swap.new.x } ≡ ahead c.args.others s)) view
    (restored c.args.filter.now kept c.args.others c.next_meant.new.others c.next_meant.new.self c.swap.new.x c.in_ok-next_meant.field-0 (sym c.is_some.ensures ∙ c.if-is_some.false) m.found m.rest m.emptied c.swap.ensures.x_after)
