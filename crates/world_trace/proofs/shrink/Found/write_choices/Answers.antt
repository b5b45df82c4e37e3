use Rattle.std.proofs.Common.{subst}
use Rattle.std.specs.Prelude.{IfSome}
use Rattle.world_trace.specs.Shrinking.{IsFoundBy, TellsOf, numbers_in}
use Rattle.world_trace.specs.Searches.{choice_lines}
use Rattle.world_trace.proofs.Shrinking.{told_choices}
use Rattle.world_trace.proofs.shrink.Found.write_choices.Goals as goal

pub returns-in-Some : goal.returns-in-Some
returns-in-Some g c =
    let found : IsFoundBy c.args.self.script.now c.args.self.finding c.in-Some.choices.items =
    subst (λ o. IfSome o (λ choices. IsFoundBy c.args.self.script.now c.args.self.finding choices.items)) c.in-Some.is c.in_ok-choices.ensures in
    told_choices c.args.self.script.now c.args.self.finding.wanted c.args.self.finding.outcome c.args.self.finding.seed (numbers_in c.in-Some.choices.items) _ _ _
    found.comes
    (subst (λ xs. TellsOf (choice_lines c.args.self.finding.seed (numbers_in xs) 0 c.args.self.script.now.steps) (g.O.Write.contents c.args.writer.now) (g.O.Write.contents c.write_lines.new.writer) c.write_lines.result) c.deref.ensures.value c.write_lines.ensures)
