use Rattle.std.proofs.Common.{◌≡◌, ◌<◌, refl, sym, subst}
use Rattle.world_queue.specs.Letters.{meant_count}
use Rattle.world_script.specs.Facts.{StageFacts}
use Rattle.world_script.specs.Parts.{IsLeft}
use Rattle.world_script.proofs.stage.Stage.take_meant.Goals as goal

pub take_meant-requires : goal.take_meant-requires
take_meant-requires c =
    let kept : StageFacts = record { world = c.self.inside.world; forgers = c.self.inside.forgers.items; sessions = c.self.inside.sessions.sessions.items; made = c.self.inside.made.items; named = c.self.inside.named.items; queue = c.self.inside.queue } in
    let view : kept ≡ c.args.self.now = c.self.view_is in
    subst (λ (s : StageFacts). c.args.passed < meant_count c.args.filter.now s.queue) (sym view) c.requires

pub returns : goal.returns
returns c =
    let kept : StageFacts = record { world = c.self.inside.world; forgers = c.self.inside.forgers.items; sessions = c.self.inside.sessions.sessions.items; made = c.self.inside.made.items; named = c.self.inside.named.items; queue = c.self.inside.queue } in
    let view : kept ≡ c.args.self.now = c.self.view_is in
    subst (λ (s : StageFacts). IsLeft c.args.filter.now c.args.passed s c.in-Some.letter (record kept { queue = c.take_meant.new.self })) view (c.take_meant.new.self, c.in-Some.ensures, refl)
