use Rattle.std.proofs.Common.{◌≡◌, ◌<◌, length, List, [], ◌∷◌, ◌++◌, Ok, Some, None, refl, sym, ap, ◌∙◌, rules, arith, Bor, ℕ, false, is_some, is_ok, cond, take, Option, Vec, Global}
use Rattle.bpf_asm.specs.declared.rounds.Label.{Label}
use Rattle.bpf_asm.specs.declared.line.Statement.TheVariants as says
use Rattle.bpf_asm.specs.Lines.{line_statement, defined_name}
use Rattle.bpf_asm.specs.declared.fault.AsmKind.TheVariants as kind
use Rattle.bpf_asm.specs.Assembly.{first_round, is_defined}
use Rattle.bpf_asm.specs.Rounds.{texts, table_slot}
use Rattle.bpf_asm.proofs.Tables.{line_at, read_again, survey_quiet, survey_label, names_none}
use Rattle.bpf_asm.proofs.rounds.find_labels.Goals as goal
use Rattle.bpf_asm.proofs.rounds.find_labels.Goals.{in-Blank, in-Label+in-Some+else-is_some+in_ok-push-in-Label, in-Label+in_default, in-Insn+in_ok-slot-in-Insn, in-Aimed+in_ok-slot-in-Aimed}

pub loop-line-preserved : goal.loop-line-preserved
loop-line-preserved c =
    let lines : List (Bor (List ℕ)) = c.args.lines.now in
    let i : ℕ = c.loop-line.line-index in
    let x : Bor (List ℕ) = line_at lines i in
    let l : i < length lines = omega arith in
    let e = read_again lines i (record { ref_ptr = (0, 0); now = [] }) l in
    let h : Ok c.in-Ok.statement ≡ line_statement x.now = c.in-Ok.ensures in
    elim c.match-statement.branch [
      | in-Blank w ↦
          (let b : Ok says.Blank ≡ line_statement x.now = sym (ap Ok w.in-Blank.is) ∙ h in
          rw (w.labels-is)
          (survey_quiet lines i c.loop-line.slot c.loop-line.number c.match-statement.slot c.saturating_add-number.result c.loop-line.labels.items x (Ok says.Blank) c.loop-line.invariant l e c.saturating_add-number.ensures b refl (w.slot-is ∙ omega arith) (names_none x.now says.Blank (sym b) (λ q. cc))))
      | in-Label+in-Some+else-is_some+in_ok-push-in-Label w ↦
          (let b : Ok says.Label ≡ line_statement x.now = sym (ap Ok w.in-Label.is) ∙ h in
          let new : Label = record { name = w.in-Some.name; slot = c.loop-line.slot } in
          let d : defined_name x.now ≡ Some w.in-Some.name.now = sym w.in-Some.ensures in
          let f : w.find_label.result ≡ table_slot w.in-Some.name.now c.loop-line.labels.items = search rules in
          let u : is_some (table_slot w.in-Some.name.now c.loop-line.labels.items) ≡ false = ap is_some (sym f) ∙ search rules in
          let more : c.match-statement.labels.items ≡ c.loop-line.labels.items ++ new ∷ [] = ap (λ (v : Vec Label Global). v.items) w.labels-is ∙ w.push.ensures.items ∙ ap (λ b. cond b (c.loop-line.labels.items ++ new ∷ []) c.loop-line.labels.items) (ap is_ok w.in_ok-push-in-Label.was) in
          survey_label lines i c.loop-line.slot c.loop-line.number c.match-statement.slot c.saturating_add-number.result c.loop-line.labels.items c.match-statement.labels.items x new c.loop-line.invariant l e c.saturating_add-number.ensures b d u refl w.slot-is more)
      | in-Label+in_default w ↦
          (let b : Ok says.Label ≡ line_statement x.now = sym (ap Ok w.in-Label.is) ∙ h in
          let g = w.in_default in
          let d : defined_name x.now ≡ None = search rules in
          let n : first_round (texts (take i lines)) x.now (Ok says.Label) ≡ None = ap (λ (o : Option (List ℕ)). cond (is_defined o (texts (take i lines))) (Some kind.Label) None) d in
          rw (w.labels-is)
          (survey_quiet lines i c.loop-line.slot c.loop-line.number c.match-statement.slot c.saturating_add-number.result c.loop-line.labels.items x (Ok says.Label) c.loop-line.invariant l e c.saturating_add-number.ensures b n (w.slot-is ∙ omega arith) d))
      | in-Insn+in_ok-slot-in-Insn w ↦
          (let b : Ok (says.Insn w.in-Insn.insn) ≡ line_statement x.now = sym (ap Ok w.in-Insn.is) ∙ h in
          rw (w.labels-is)
          (survey_quiet lines i c.loop-line.slot c.loop-line.number c.match-statement.slot c.saturating_add-number.result c.loop-line.labels.items x (Ok (says.Insn w.in-Insn.insn)) c.loop-line.invariant l e c.saturating_add-number.ensures b refl (w.slot-is ∙ w.in_ok-slot-in-Insn.ensures) (names_none x.now (says.Insn w.in-Insn.insn) (sym b) (λ q. cc))))
      | in-Aimed+in_ok-slot-in-Aimed w ↦
          (let b : Ok (says.Aimed w.in-Aimed.insn) ≡ line_statement x.now = sym (ap Ok w.in-Aimed.is) ∙ h in
          rw (w.labels-is)
          (survey_quiet lines i c.loop-line.slot c.loop-line.number c.match-statement.slot c.saturating_add-number.result c.loop-line.labels.items x (Ok (says.Aimed w.in-Aimed.insn)) c.loop-line.invariant l e c.saturating_add-number.ensures b refl (w.slot-is ∙ w.in_ok-slot-in-Aimed.ensures) (names_none x.now (says.Aimed w.in-Aimed.insn) (sym b) (λ q. cc))))
    ]
