use Rattle.std.proofs.Common.{◌≡◌, ◌<◌, ◌+◌, length, List, [], ◌∷◌, ◌++◌, Ok, Err, Some, None, refl, sym, ap, ◌∙◌, arith, Bor, ℕ, append-nil, inr, cond, is_ok, Option, take, Vec, Global, pos, ◌-ℤ◌}
use Rattle.bpf_decode.specs.declared.insn.Insn.{Insn}
use Rattle.bpf_asm.specs.declared.fault.AsmKind.TheVariants as kind
use Rattle.bpf_asm.specs.declared.line.Statement.TheVariants as says
use Rattle.bpf_asm.specs.Lines.{line_statement, target_name}
use Rattle.bpf_asm.specs.Operands.{◌>>?◌}
use Rattle.bpf_asm.specs.Assembly.{second_round, listed, aimed}
use Rattle.bpf_asm.specs.Rounds.{texts, table_slot}
use Rattle.bpf_asm.proofs.Tables.{line_at, read_again, write_step, write_fault, aim_is}
use Rattle.bpf_asm.proofs.rounds.write_code.Goals as goal
use Rattle.bpf_asm.proofs.rounds.write_code.Goals.{in-Blank, in-Label, in-Insn+in_ok-slot-in-Insn+in_ok-push-in-Insn, in-Aimed+in_ok-slot-in-Aimed+in-Some+in_ok-push-in-Some}

pub loop-line-preserved : goal.loop-line-preserved
loop-line-preserved c =
    let lines : List (Bor (List ℕ)) = c.args.lines.now in
    let i : ℕ = c.loop-line.line-index in
    let x : Bor (List ℕ) = line_at lines i in
    let l : i < length lines = omega arith in
    let e = read_again lines i (record { ref_ptr = (0, 0); now = [] }) l in
    let h : Ok c.in-Ok.statement ≡ line_statement x.now = c.in-Ok.ensures in
    elim c.match-statement.branch [
      | in-Blank w ↦
          (let b : Ok says.Blank ≡ line_statement x.now = sym (ap Ok w.in-Blank.is) ∙ h in
          let d : c.match-statement.slot ≡ c.loop-line.slot + 0 = w.slot-is ∙ omega arith in
          let q : c.match-statement.code.items ≡ c.loop-line.code.items ++ [] = ap (λ (v : Vec Insn Global). v.items) w.code-is ∙ sym (append-nil c.loop-line.code.items) in
          write_step lines i c.loop-line.slot c.loop-line.number c.match-statement.slot c.saturating_add-number.result c.loop-line.code.items [] c.match-statement.code.items x (Ok says.Blank) c.loop-line.invariant l e c.saturating_add-number.ensures b refl d q)
      | in-Label w ↦
          (let b : Ok says.Label ≡ line_statement x.now = sym (ap Ok w.in-Label.is) ∙ h in
          let d : c.match-statement.slot ≡ c.loop-line.slot + 0 = w.slot-is ∙ omega arith in
          let q : c.match-statement.code.items ≡ c.loop-line.code.items ++ [] = ap (λ (v : Vec Insn Global). v.items) w.code-is ∙ sym (append-nil c.loop-line.code.items) in
          write_step lines i c.loop-line.slot c.loop-line.number c.match-statement.slot c.saturating_add-number.result c.loop-line.code.items [] c.match-statement.code.items x (Ok says.Label) c.loop-line.invariant l e c.saturating_add-number.ensures b refl d q)
      | in-Insn+in_ok-slot-in-Insn+in_ok-push-in-Insn w ↦
          (let b : Ok (says.Insn w.in-Insn.insn) ≡ line_statement x.now = sym (ap Ok w.in-Insn.is) ∙ h in
          let ys : List Insn = w.in-Insn.insn ∷ [] in
          let q : c.match-statement.code.items ≡ c.loop-line.code.items ++ ys = ap (λ (v : Vec Insn Global). v.items) w.code-is ∙ w.push.ensures.items ∙ ap (λ t. cond t (c.loop-line.code.items ++ ys) c.loop-line.code.items) (ap is_ok w.in_ok-push-in-Insn.was) in
          write_step lines i c.loop-line.slot c.loop-line.number c.match-statement.slot c.saturating_add-number.result c.loop-line.code.items ys c.match-statement.code.items x (Ok (says.Insn w.in-Insn.insn)) c.loop-line.invariant l e c.saturating_add-number.ensures b refl (w.slot-is ∙ w.in_ok-slot-in-Insn.ensures) q)
      | in-Aimed+in_ok-slot-in-Aimed+in-Some+in_ok-push-in-Some w ↦
          (let y : Insn = w.in-Aimed.insn in
          let b : Ok (says.Aimed y) ≡ line_statement x.now = sym (ap Ok w.in-Aimed.is) ∙ h in
          let ys : List Insn = w.in-Some.insn ∷ [] in
          let q : c.match-statement.code.items ≡ c.loop-line.code.items ++ ys = ap (λ (v : Vec Insn Global). v.items) w.code-is ∙ w.push-in-Some.ensures.items ∙ ap (λ t. cond t (c.loop-line.code.items ++ ys) c.loop-line.code.items) (ap is_ok w.in_ok-push-in-Some.was) in
          let name : w.target_name.result.now ≡ target_name x.now = w.target_name.ensures in
          let found : Some w.in-Some.insn ≡ (table_slot w.target_name.result.now c.args.labels.now >>? (λ at. aimed y (pos at -ℤ pos w.in_ok-slot-in-Aimed.slot))) = w.in-Some.ensures in
          let f : second_round (texts lines) (texts (take i lines)) x.now (Ok (says.Aimed y)) ≡ Ok ys =
          aim_is lines i c.loop-line.slot w.in_ok-slot-in-Aimed.slot c.args.labels.now x.now y c.requires c.loop-line.invariant.slot_is w.in_ok-slot-in-Aimed.ensures
          ∙ ap (λ (n : List ℕ). listed (table_slot n c.args.labels.now >>? (λ at. aimed y (pos at -ℤ pos w.in_ok-slot-in-Aimed.slot)))) (sym name)
          ∙ ap (λ (o : Option Insn). listed o) (sym found) in
          write_step lines i c.loop-line.slot c.loop-line.number c.match-statement.slot c.saturating_add-number.result c.loop-line.code.items ys c.match-statement.code.items x (Ok (says.Aimed y)) c.loop-line.invariant l e c.saturating_add-number.ensures b f (w.slot-is ∙ w.in_ok-slot-in-Aimed.ensures) q)
    ]

pub returns-in-None-clause-refused : goal.returns-in-None-clause-refused
returns-in-None-clause-refused c =
    let lines : List (Bor (List ℕ)) = c.args.lines.now in
    let i : ℕ = c.loop-line.line-index in
    let x : Bor (List ℕ) = line_at lines i in
    let l : i < length lines = omega arith in
    let e = read_again lines i (record { ref_ptr = (0, 0); now = [] }) l in
    let h : Ok c.in-Ok.statement ≡ line_statement x.now = c.in-Ok.ensures in
    let y : Insn = c.in-Aimed.insn in
    let b : Ok (says.Aimed y) ≡ line_statement x.now = sym (ap Ok c.in-Aimed.is) ∙ h in
    let name : c.target_name.result.now ≡ target_name x.now = c.target_name.ensures in
    let found : None ≡ (table_slot c.target_name.result.now c.args.labels.now >>? (λ at. aimed y (pos at -ℤ pos c.in_ok-slot-in-Aimed.slot))) = c.in-None.ensures in
    let f : second_round (texts lines) (texts (take i lines)) x.now (Ok (says.Aimed y)) ≡ Err kind.Label =
    aim_is lines i c.loop-line.slot c.in_ok-slot-in-Aimed.slot c.args.labels.now x.now y c.requires c.loop-line.invariant.slot_is c.in_ok-slot-in-Aimed.ensures
    ∙ ap (λ (n : List ℕ). listed (table_slot n c.args.labels.now >>? (λ at. aimed y (pos at -ℤ pos c.in_ok-slot-in-Aimed.slot)))) (sym name)
    ∙ ap (λ (o : Option Insn). listed o) (sym found) in
    inr (write_fault lines i c.loop-line.slot c.loop-line.number c.saturating_add-number.result c.loop-line.code.items x (Ok (says.Aimed y)) kind.Label c.loop-line.invariant l e c.saturating_add-number.ensures b f)

pub loop-line-preserved-in_default : goal.loop-line-preserved-in_default
loop-line-preserved-in_default c =
    let lines : List (Bor (List ℕ)) = c.args.lines.now in
    let i : ℕ = c.loop-line.line-index in
    let x : Bor (List ℕ) = line_at lines i in
    let l : i < length lines = omega arith in
    let e = read_again lines i (record { ref_ptr = (0, 0); now = [] }) l in
    let b : Err c.in_default.field-0 ≡ line_statement x.now = c.in_default.ensures in
    let d : c.loop-line.slot ≡ c.loop-line.slot + 0 = omega arith in
    write_step lines i c.loop-line.slot c.loop-line.number c.loop-line.slot c.saturating_add-number.result c.loop-line.code.items [] c.loop-line.code.items x (Err c.in_default.field-0) c.loop-line.invariant l e c.saturating_add-number.ensures b refl d (sym (append-nil c.loop-line.code.items))
