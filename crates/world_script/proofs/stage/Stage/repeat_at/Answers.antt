use Rattle.std.proofs.Common.{◌≡◌, List, [], ◌∷◌, ◌++◌, ap, subst, ◌∙◌}
use Rattle.std.specs.String.{string_bytes}
use Rattle.std.proofs.lemmas.Result.{IfOk-weaker}
use Rattle.script_text.specs.Node.{Node}
use Rattle.world_queue.specs.Letters.{LetterFacts, addressed}
use Rattle.world_script.specs.Facts.{StageFacts}
use Rattle.world_script.specs.Parts.{TellsHanding}
use Rattle.world_script.proofs.stage.Stage.repeat_at.Goals as goal

pub returns : goal.returns
returns g c =
    let told = (goal.Watcher-dyn g c.args.watcher.now).told c.args.watcher.now.1 in
    let later = (goal.Watcher-dyn g (c.args.watcher.now.0, c.hand_over.new.watcher)).told c.hand_over.new.watcher in
    let letter = c.take_meant-letter.result in
    let taken = c.take_meant-letter.ensures in
    let kept : StageFacts = record { world = c.self.inside.world; forgers = c.self.inside.forgers.items; sessions = c.self.inside.sessions.sessions.items; made = c.self.inside.made.items; named = c.self.inside.named.items; queue = c.self.inside.queue } in
    let sent : c.send.new.self ≡ c.self.inside.queue ++ letter ∷ [] = c.in_ok-send.ensures ∙ ap (λ (to : Node). c.self.inside.queue ++ addressed letter to ∷ []) c.to.ensures in
    let same : record kept { queue = c.send.new.self } ≡ record c.args.self.now { queue = taken.0 ++ letter ∷ [] } =
    ap (λ (ls : List LetterFacts). record kept { queue = ls }) sent ∙ ap (λ (s : StageFacts). record s { queue = s.queue ++ letter ∷ [] }) (c.self.view_is ∙ taken.2) in
    IfOk-weaker c.hand_over.result _ _
    (λ text handed.
    let tells = subst (λ (s : StageFacts). TellsHanding letter c.args.passed s (string_bytes text) c.hand_over.new.self told later) same handed in
    (record { letter = letter; left = taken.0; taken = taken.1; handed = tells.0 }, tells.1))
    c.hand_over.ensures
