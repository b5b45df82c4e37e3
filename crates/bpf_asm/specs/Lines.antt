-- Statement: what a line says: nothing, a label, or an instruction. Where an instruction's target is a label, its offset
-- stands as 0 here.
use Rattle.std.specs.Prelude.{ℕ, ◌==◌, ◌^◌, Bool, nat_le, if◌then◌else◌, List, length, Option, Some, None, Result, Ok, Err, ℤ, pos}
use Rattle.std.specs.List.{list_all}
use Rattle.std.specs.Option.{ok_or}
use Rattle.bpf_num.specs.declared.AluOp.{AluOp}
use Rattle.bpf_num.specs.declared.AluOp.TheVariants as op
use Rattle.bpf_num.specs.declared.AluWidth.{AluWidth}
use Rattle.bpf_num.specs.declared.jump.Test.{Test as Tests}
use Rattle.bpf_decode.specs.declared.insn.Insn.{Insn}
use Rattle.bpf_decode.specs.declared.insn.Insn.TheVariants as insn
use Rattle.bpf_decode.specs.declared.insn.Size.{Size}
use Rattle.bpf_decode.specs.declared.insn.Source.TheVariants as source
use Rattle.bpf_asm.specs.declared.fault.AsmKind.{AsmKind}
use Rattle.bpf_asm.specs.declared.fault.AsmKind.TheVariants.{Word}
use Rattle.bpf_asm.specs.declared.form.Form.{Form}
use Rattle.bpf_asm.specs.declared.form.Form.TheVariants as form
use Rattle.bpf_asm.specs.declared.operand.Target.{Target}
use Rattle.bpf_asm.specs.declared.operand.Target.TheVariants as target
use Rattle.bpf_asm.specs.declared.line.Statement.{Statement}
use Rattle.bpf_asm.specs.declared.line.Statement.TheVariants as statement
use Rattle.bpf_asm.specs.Text.{body_of, first_word, behind_word, operand_texts, last_text, label_name}
use Rattle.bpf_asm.specs.Words.{form_of_word}
use Rattle.bpf_asm.specs.Operands.{◌>>=◌, pair, as_none, as_one, as_two, as_three, register, immediate, wide_immediate, second_operand, target_of, memory_operand}

-- An instruction whose operands are its own.
abbrev pub says : Insn → Statement
says x = statement.Insn x

-- An instruction with a target: `with` gives it for an offset.
abbrev pub aims : Target → (ℤ → Insn) → Statement
aims (target.Offset z) with_offset = statement.Insn (with_offset z)
aims target.Label with_offset = statement.Aimed (with_offset (pos 0))

abbrev pub alu_statement : AluOp → AluWidth → List (List ℕ) → Result Statement AsmKind
alu_statement o w xs =
    as_two xs >>= (λ x. pair (register x.0) (second_operand x.1) >>= (λ p. Ok (says (insn.Alu w o p.0 p.1))))

abbrev pub neg_statement : AluWidth → List (List ℕ) → Result Statement AsmKind
neg_statement w xs = as_one xs >>= (λ x. register x >>= (λ dst. Ok (says (insn.Alu w op.Neg dst (source.Imm (pos 0))))))

abbrev pub extend_statement : AluOp → AluWidth → List (List ℕ) → Result Statement AsmKind
extend_statement o w xs =
    as_two xs >>= (λ x. pair (register x.0) (register x.1) >>= (λ p. Ok (says (insn.Alu w o p.0 (source.Reg p.1)))))

abbrev pub wide_immediate_statement : List (List ℕ) → Result Statement AsmKind
wide_immediate_statement xs =
    as_two xs >>= (λ x. pair (register x.0) (wide_immediate x.1) >>= (λ p. Ok (says (insn.LoadImm p.0 p.1))))

abbrev pub load_statement : Size → Bool → List (List ℕ) → Result Statement AsmKind
load_statement s signed xs =
    as_two xs >>= (λ x. pair (register x.0) (memory_operand x.1) >>= (λ p. Ok (says (insn.Load s signed p.0 p.1.base p.1.offset))))

abbrev pub store_number_statement : Size → List (List ℕ) → Result Statement AsmKind
store_number_statement s xs =
    as_two xs >>= (λ x. pair (memory_operand x.0) (immediate x.1) >>= (λ p. Ok (says (insn.StoreImm s p.0.base p.0.offset p.1))))

abbrev pub store_statement : Size → List (List ℕ) → Result Statement AsmKind
store_statement s xs =
    as_two xs >>= (λ x. pair (memory_operand x.0) (register x.1) >>= (λ p. Ok (says (insn.Store s p.0.base p.0.offset p.1))))

abbrev pub test_statement : Tests → Bool → List (List ℕ) → Result Statement AsmKind
test_statement t narrow xs =
    as_three xs >>= (λ x. pair (pair (register x.0) (second_operand x.1)) (target_of (2 ^ 15) x.2)
    >>= (λ p. Ok (aims p.1 (λ z. insn.Test narrow t p.0.0 p.0.1 z))))

-- A jump or a call whose one operand is its target.
abbrev pub jump_statement : ℕ → (ℤ → Insn) → List (List ℕ) → Result Statement AsmKind
jump_statement half with_offset xs =
    as_one xs >>= (λ x. target_of half x >>= (λ t. Ok (aims t with_offset)))

-- What a line of this form and these operands says.
abbrev pub statement_of : Form → List (List ℕ) → Result Statement AsmKind
statement_of (form.Alu o w) xs = alu_statement o w xs
statement_of (form.Neg w) xs = neg_statement w xs
statement_of (form.Extend o w) xs = extend_statement o w xs
statement_of (form.Swap k w) xs = as_one xs >>= (λ x. register x >>= (λ dst. Ok (says (insn.Swap k w dst))))
statement_of form.LoadImm xs = wide_immediate_statement xs
statement_of (form.Load s signed) xs = load_statement s signed xs
statement_of (form.StoreImm s) xs = store_number_statement s xs
statement_of (form.Store s) xs = store_statement s xs
statement_of form.Jump xs = jump_statement (2 ^ 15) (λ z. insn.Jump z) xs
statement_of form.JumpLong xs = jump_statement (2 ^ 31) (λ z. insn.JumpLong z) xs
statement_of (form.Test t narrow) xs = test_statement t narrow xs
statement_of form.CallHelper xs = as_one xs >>= (λ x. immediate x >>= (λ n. Ok (says (insn.CallHelper n))))
statement_of form.CallLocal xs = jump_statement (2 ^ 31) (λ z. insn.CallLocal z) xs
statement_of form.Exit xs = as_none xs >>= (λ _. Ok (says insn.Exit))

-- What an instruction's line says, without its comment.
abbrev pub instruction : List ℕ → Result Statement AsmKind
instruction body =
    ok_or (form_of_word (first_word body)) Word >>= (λ f. statement_of f (operand_texts (behind_word body)))

abbrev pub label_or : Option (List ℕ) → Result Statement AsmKind → Result Statement AsmKind
label_or None other = other
label_or (Some name) other = Ok statement.Label

abbrev pub body_statement : List ℕ → Result Statement AsmKind
body_statement body =
    if length body == 0 then Ok statement.Blank else label_or (label_name body) (instruction body)

-- What a line says, or its first fault. A byte past 127 is the fault `Word`, also in a comment.
abbrev pub line_statement : List ℕ → Result Statement AsmKind
line_statement line = if list_all (λ b. nat_le b 127) line then body_statement (body_of line) else Err Word

-- The name of the label that a line defines.
abbrev pub defined_name : List ℕ → Option (List ℕ)
defined_name line = label_name (body_of line)

-- The name of the label that a line aims at: its last operand.
abbrev pub target_name : List ℕ → List ℕ
target_name line = last_text (operand_texts (behind_word (body_of line)))
