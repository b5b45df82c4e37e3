-- Statement: the text of instructions: a line for each, ended by LF. Numbers are decimal, targets have a sign, and a
-- memory operand has its offset always.
use Rattle.std.specs.Prelude.{ℕ, suc, List, [], ◌∷◌, ◌++◌, ℤ, pos, negsuc}
use Rattle.std.specs.Fmt.{decimal, signed_decimal}
use Rattle.std.specs.List.{flat_map}
use Rattle.bpf_num.specs.declared.AluOp.{AluOp}
use Rattle.bpf_num.specs.declared.AluOp.TheVariants as op
use Rattle.bpf_num.specs.declared.AluWidth.{AluWidth}
use Rattle.bpf_decode.specs.declared.insn.Insn.{Insn}
use Rattle.bpf_decode.specs.declared.insn.Insn.TheVariants as insn
use Rattle.bpf_decode.specs.declared.insn.Reg.{Reg}
use Rattle.bpf_decode.specs.declared.insn.Source.{Source}
use Rattle.bpf_decode.specs.declared.insn.Source.TheVariants as source
use Rattle.bpf_asm.specs.declared.form.Form.{Form}
use Rattle.bpf_asm.specs.declared.form.Form.TheVariants as form
use Rattle.bpf_asm.specs.Words.{word_of}
use Rattle.bpf_asm.specs.Operands.{register_text}

-- The form of arithmetic.
abbrev pub alu_form : AluOp → AluWidth → Form
alu_form op.Neg width = form.Neg width
alu_form op.Movsx8 width = form.Extend op.Movsx8 width
alu_form op.Movsx16 width = form.Extend op.Movsx16 width
alu_form op.Movsx32 width = form.Extend op.Movsx32 width
alu_form op.Add width = form.Alu op.Add width
alu_form op.Sub width = form.Alu op.Sub width
alu_form op.Mul width = form.Alu op.Mul width
alu_form op.Div width = form.Alu op.Div width
alu_form op.Sdiv width = form.Alu op.Sdiv width
alu_form op.Or width = form.Alu op.Or width
alu_form op.And width = form.Alu op.And width
alu_form op.Lsh width = form.Alu op.Lsh width
alu_form op.Rsh width = form.Alu op.Rsh width
alu_form op.Mod width = form.Alu op.Mod width
alu_form op.Smod width = form.Alu op.Smod width
alu_form op.Xor width = form.Alu op.Xor width
alu_form op.Mov width = form.Alu op.Mov width
alu_form op.Arsh width = form.Alu op.Arsh width

-- The form of an instruction.
abbrev pub form_of : Insn → Form
form_of (insn.Alu width o dst src) = alu_form o width
form_of (insn.Swap kind width dst) = form.Swap kind width
form_of (insn.LoadImm dst value) = form.LoadImm
form_of (insn.Load size signed dst base offset) = form.Load size signed
form_of (insn.StoreImm size base offset imm) = form.StoreImm size
form_of (insn.Store size base offset src) = form.Store size
form_of (insn.Jump offset) = form.Jump
form_of (insn.JumpLong offset) = form.JumpLong
form_of (insn.Test narrow test dst src offset) = form.Test test narrow
form_of (insn.CallHelper helper) = form.CallHelper
form_of (insn.CallLocal offset) = form.CallLocal
form_of insn.Exit = form.Exit

abbrev pub source_text : Source → List ℕ
source_text (source.Imm value) = signed_decimal value
source_text (source.Reg reg) = register_text reg

-- A number with its sign, as targets and offsets have it.
abbrev pub with_sign : ℤ → List ℕ
with_sign (pos n) = 43 ∷ decimal n
with_sign (negsuc n) = 45 ∷ decimal (suc n)

-- `[r1+n]` or `[r1-n]`.
abbrev pub memory_operand_text : Reg → ℤ → List ℕ
memory_operand_text base offset = 91 ∷ (register_text base ++ with_sign offset ++ 93 ∷ [])

-- The operands of arithmetic: one of NEG, else two.
abbrev pub alu_operands : AluOp → Reg → Source → List (List ℕ)
alu_operands op.Neg dst src = register_text dst ∷ []
alu_operands _ dst src = register_text dst ∷ source_text src ∷ []

-- The texts of an instruction's operands.
abbrev pub operands_of : Insn → List (List ℕ)
operands_of (insn.Alu width o dst src) = alu_operands o dst src
operands_of (insn.Swap kind width dst) = register_text dst ∷ []
operands_of (insn.LoadImm dst value) = register_text dst ∷ decimal value ∷ []
operands_of (insn.Load size signed dst base offset) = register_text dst ∷ memory_operand_text base offset ∷ []
operands_of (insn.StoreImm size base offset imm) = memory_operand_text base offset ∷ signed_decimal imm ∷ []
operands_of (insn.Store size base offset src) = memory_operand_text base offset ∷ register_text src ∷ []
operands_of (insn.Jump offset) = with_sign offset ∷ []
operands_of (insn.JumpLong offset) = with_sign offset ∷ []
operands_of (insn.Test narrow test dst src offset) = register_text dst ∷ source_text src ∷ with_sign offset ∷ []
operands_of (insn.CallHelper helper) = signed_decimal helper ∷ []
operands_of (insn.CallLocal offset) = with_sign offset ∷ []
operands_of insn.Exit = []

abbrev pub behind_first : List (List ℕ) → List ℕ
behind_first [] = []
behind_first (x ∷ xs) = 44 ∷ 32 ∷ (x ++ behind_first xs)

-- A blank before the first operand, a comma and a blank before each other.
abbrev pub behind_word_text : List (List ℕ) → List ℕ
behind_word_text [] = []
behind_word_text (x ∷ xs) = 32 ∷ (x ++ behind_first xs)

-- The line of an instruction.
abbrev pub line_text : Insn → List ℕ
line_text x = word_of (form_of x) ++ behind_word_text (operands_of x)

abbrev pub ended_line : Insn → List ℕ
ended_line x = line_text x ++ 10 ∷ []

-- The text of instructions.
abbrev pub printed : List Insn → List ℕ
printed code = flat_map ended_line code
