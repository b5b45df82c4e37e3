use Rattle.std.proofs.Common.{ℕ, List, [], ◌∷◌, ◌==◌, length, sym, ap, subst, ◌∙◌}
use Rattle.std.proofs.lemmas.Bool.{eqb-true, true≢false}
use Rattle.std.specs.String.{string_bytes}
use Rattle.world_script.specs.Seen as seen
use Rattle.world_script.specs.Seen.{Tells}
use Rattle.world_script.proofs.Playing.{performed_aloud, performed_quietly}
use Rattle.world_script.proofs.stage.Stage.perform.Goals as goal

pub returns-then-is_empty : goal.returns-then-is_empty
returns-then-is_empty g c =
    performed_quietly c.args.self.now c.act.new.self ((goal.Watcher-dyn g c.args.watcher.now).told c.args.watcher.now.1) c.args.step.now (string_bytes c.in_ok-text.text)
    ((goal.Watcher-dyn g (c.args.watcher.now.0, c.act.new.watcher)).told c.act.new.watcher)
    (ap length (sym c.as_bytes.ensures.value) ∙ eqb-true (length c.as_bytes.result.now) 0 (sym c.is_empty.ensures ∙ c.if-is_empty.true)) c.in_ok-text.ensures

pub returns : goal.returns
returns g c =
    let told = (goal.Watcher-dyn g c.args.watcher.now).told c.args.watcher.now.1 in
    let between = (goal.Watcher-dyn g (c.args.watcher.now.0, c.act.new.watcher)).told c.act.new.watcher in
    let later = (goal.Watcher-dyn g (c.args.watcher.now.0, c.printed.new.self)).told c.printed.new.self in
    performed_aloud c.args.self.now c.act.new.self told c.args.step.now (string_bytes c.in_ok-text.text) between later
    (λ none. true≢false (sym (ap (λ (n : ℕ). n == 0) (ap length c.as_bytes.ensures.value ∙ none)) ∙ sym c.is_empty.ensures ∙ c.if-is_empty.false)) c.in_ok-text.ensures
    (subst (λ (bs : List ℕ). Tells between (seen.Printed c.act.new.self c.args.step.now bs ∷ []) later) c.deref.ensures c.in_ok-printed.ensures)
