use Rattle.std.proofs.Common.{ℕ, List, refl, ap, subst, ◌∙◌}
use Rattle.std.specs.String.{string_bytes}
use Rattle.script_text.specs.Node.{Node}
use Rattle.world_script.specs.Parts.{Takes}
use Rattle.world_script.specs.Seen.{standing}
use Rattle.world_script.proofs.Telling.{handing_told}
use Rattle.world_script.proofs.stage.Stage.hand_over.Goals as goal

pub returns : goal.returns
returns g c =
    let told = (goal.Watcher-dyn g c.args.watcher.now).told c.args.watcher.now.1 in
    let later = (goal.Watcher-dyn g (c.args.watcher.now.0, c.handed.new.self)).told c.handed.new.self in
    let letter = c.args.letter in
    let s = c.args.self.now in
    let took = subst (λ (node : Node). Takes node s letter.bytes (string_bytes c.in_ok-text.text) c.in_ok-text.row c.take.new.self) c.to-2.ensures
    (subst (λ (bytes : List ℕ). Takes c.to-2.result s bytes (string_bytes c.in_ok-text.text) c.in_ok-text.row c.take.new.self) c.bytes.ensures c.in_ok-text.ensures) in
    handing_told letter c.args.passed s _ _ c.in_ok-text.row c.take.new.self c.standing-before.result told later took (c.standing-before.ensures ∙ ap (standing s.world) c.to.ensures) refl c.in_ok-handed.ensures
