use Rattle.std.proofs.Common.{◌≡◌, ◌∙◌, Err, rules, sym, subst}
use Rattle.std.specs.Io.KnownBytes.{Appends}
use Rattle.world_script.specs.Writing.{AppendsFront}
use Rattle.world_script.specs.declared.fault.RunFault.TheVariants.{Memory, Write}
use Rattle.world_trace.specs.Finding.{IsLineOf, TakesSeeds}
use Rattle.world_trace.proofs.Finding.{agreed, blame_fails, choices_fail, chosen, line_cut, unlined}
use Rattle.world_trace.proofs.findings.Searching.take.Goals as goal

pub returns-in_err-write_blame : goal.returns-in_err-write_blame
returns-in_err-write_blame g c = λ start st.
    let same : c.from_residual.result ≡ Err c.in_err-write_blame.field-0.0 = search rules in
    subst (TakesSeeds c.args.self.script.now c.args.self.search _ c.write_blame.new.blamed.items start (g.O.Write.contents c.write_blame.new.writer)) (sym same)
    (blame_fails _ _ _ _ _ _ st c.requires.within _ c.deref.result.now c.write_blame.new.blamed.items _ c.in_err-write_blame.ensures)

pub returns-in_err-line : goal.returns-in_err-line
returns-in_err-line g c = λ start st.
    let same : c.from_residual-in_err-line.result ≡ Err Memory = search rules in
    subst (TakesSeeds c.args.self.script.now c.args.self.search _ c.write_blame.new.blamed.items start (g.O.Write.contents c.write_blame.new.writer)) (sym same)
    (unlined _ _ _ _ _ _ st c.requires.within _ _ _ c.in_ok-write_blame.ensures)

pub returns-in_default : goal.returns-in_default
returns-in_default g c = λ start st.
    agreed _ _ _ _ _ _ st c.requires.within _ _ _ c.in_ok-write_blame.ensures c.args.explored.now.outcome c.requires.comes
    (subst (IsLineOf c.args.seed c.args.explored.now.outcome) c.in_default.is c.in_ok-line.ensures)

pub returns-in_err-write_text : goal.returns-in_err-write_text
returns-in_err-write_text g c = λ start st.
    let same : c.from_residual-in_err-write_text.result ≡ Err Write = search rules in
    let is = subst (IsLineOf c.args.seed c.args.explored.now.outcome) c.in-Some.is c.in_ok-line.ensures in
    subst (TakesSeeds c.args.self.script.now c.args.self.search _ c.write_blame.new.blamed.items start (g.O.Write.contents c.write_text.new.writer)) (sym same)
    (line_cut _ _ _ _ _ _ st c.requires.within _ _ _ c.in_ok-write_blame.ensures c.args.explored.now.outcome c.requires.comes is.0 _
    (subst (AppendsFront _ _) (c.deref-2.ensures ∙ is.1) c.in_err-write_text.ensures.front))

pub returns-in_err-write_choices : goal.returns-in_err-write_choices
returns-in_err-write_choices g c = λ start st.
    let same : c.from_residual-in_err-write_choices.result ≡ Err c.in_err-write_choices.field-0.0 = search rules in
    let is = subst (IsLineOf c.args.seed c.args.explored.now.outcome) c.in-Some.is c.in_ok-line.ensures in
    subst (TakesSeeds c.args.self.script.now c.args.self.search _ c.write_blame.new.blamed.items start (g.O.Write.contents c.write_choices.new.writer)) (sym same)
    (choices_fail _ _ _ _ _ _ st c.requires.within _ _ _ c.in_ok-write_blame.ensures c.args.explored.now.outcome c.requires.comes is.0 _
    (subst (Appends _ _) (c.deref-2.ensures ∙ is.1) c.in_ok-write_text.ensures.whole) _ _ c.in_err-write_choices.ensures)

pub returns : goal.returns
returns g c = λ start st.
    let is = subst (IsLineOf c.args.seed c.args.explored.now.outcome) c.in-Some.is c.in_ok-line.ensures in
    chosen _ _ _ _ _ _ st c.requires.within _ _ _ c.in_ok-write_blame.ensures c.args.explored.now.outcome c.requires.comes is.0 _
    (subst (Appends _ _) (c.deref-2.ensures ∙ is.1) c.in_ok-write_text.ensures.whole) _ c.in_ok-write_choices.ensures
