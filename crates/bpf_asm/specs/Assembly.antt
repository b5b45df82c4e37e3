-- Statement: the instructions of an assembler text, or its first fault. Two rounds go over the lines in order: the first
-- looks for words, operands, numbers and labels that are defined twice; only if it finds none, the second looks for the
-- targets that are labels.
use Rattle.std.specs.Prelude.{ℕ, ◌+◌, ◌-◌, ◌^◌, min, Bool, false, nat_lt, if◌then◌else◌, List, [], ◌∷◌, ◌++◌, length, Option, Some, None, Result, Ok, Err, ℤ, pos, negsuc, ◌-ℤ◌}
use Rattle.std.specs.Option.{is_some, option_map}
use Rattle.std.specs.Str.{bytes_eq}
use Rattle.std.specs.Str.Lines.{lines}
use Rattle.bpf_decode.specs.declared.insn.Insn.{Insn}
use Rattle.bpf_decode.specs.declared.insn.Insn.TheVariants as insn
use Rattle.bpf_decode.specs.Encoding.{insn_slots}
use Rattle.bpf_asm.specs.declared.fault.AsmKind.{AsmKind}
use Rattle.bpf_asm.specs.declared.fault.AsmKind.TheVariants.{Label}
use Rattle.bpf_asm.specs.declared.fault.AsmFault.{AsmFault}
use Rattle.bpf_asm.specs.declared.line.Statement.{Statement}
use Rattle.bpf_asm.specs.declared.line.Statement.TheVariants as says
use Rattle.bpf_asm.specs.Operands.{◌>>?◌}
use Rattle.bpf_asm.specs.Lines.{line_statement, defined_name, target_name}

-- The slots of a line.
abbrev pub statement_slots : Result Statement AsmKind → ℕ
statement_slots (Ok (says.Insn x)) = length (insn_slots x)
statement_slots (Ok (says.Aimed x)) = length (insn_slots x)
statement_slots (Ok says.Blank) = 0
statement_slots (Ok says.Label) = 0
statement_slots (Err e) = 0

abbrev pub line_slots : List ℕ → ℕ
line_slots line = statement_slots (line_statement line)

-- The slots of lines.
abbrev pub slots : List (List ℕ) → ℕ
slots [] = 0
slots (line ∷ rest) = line_slots line + slots rest

abbrev pub is_named : List ℕ → Option (List ℕ) → Bool
is_named name None = false
is_named name (Some other) = bytes_eq other name

-- The slot of a label: how many slots the lines before its definition have, if it is defined.
abbrev pub label_slot : List ℕ → List (List ℕ) → Option ℕ
label_slot name [] = None
label_slot name (line ∷ rest) =
    if is_named name (defined_name line) then Some 0 else option_map (λ n. line_slots line + n) (label_slot name rest)

-- The number of a line behind others, from 1; past 2^32 - 1 it is reported as that.
abbrev pub line_number : List (List ℕ) → ℕ
line_number before = min (length before + 1) (2 ^ 32 - 1)

abbrev pub is_defined : Option (List ℕ) → List (List ℕ) → Bool
is_defined None before = false
is_defined (Some name) before = is_some (label_slot name before)

-- The fault of the first round at a line behind others.
abbrev pub first_round : List (List ℕ) → List ℕ → Result Statement AsmKind → Option AsmKind
first_round before line (Err kind) = Some kind
first_round before line (Ok says.Label) =
    if is_defined (defined_name line) before then Some Label else None
first_round before line (Ok says.Blank) = None
first_round before line (Ok (says.Insn x)) = None
first_round before line (Ok (says.Aimed x)) = None

abbrev pub reported_or : Option AsmKind → ℕ → Option AsmFault → Option AsmFault
reported_or None number other = other
reported_or (Some kind) number other = Some (record { kind = kind; line = number })

-- The first fault of the first round in some lines behind others.
abbrev pub first_fault : List (List ℕ) → List (List ℕ) → Option AsmFault
first_fault before [] = None
first_fault before (line ∷ rest) =
    reported_or (first_round before line (line_statement line)) (line_number before) (first_fault (before ++ line ∷ []) rest)

-- A signed number whose magnitude is below `half`, or at it if negative.
abbrev pub is_within : ℕ → ℤ → Bool
is_within half (pos n) = nat_lt n half
is_within half (negsuc n) = nat_lt n half

-- A jump or a call with its offset, if its field holds it.
abbrev pub aimed : Insn → ℤ → Option Insn
aimed (insn.Jump o) z = if is_within (2 ^ 15) z then Some (insn.Jump z) else None
aimed (insn.JumpLong o) z = if is_within (2 ^ 31) z then Some (insn.JumpLong z) else None
aimed (insn.CallLocal o) z = if is_within (2 ^ 31) z then Some (insn.CallLocal z) else None
aimed (insn.Test narrow test dst src o) z =
    if is_within (2 ^ 15) z then Some (insn.Test narrow test dst src z) else None
aimed _ z = None

abbrev pub listed : Option Insn → Result (List Insn) AsmKind
listed None = Err Label
listed (Some x) = Ok (x ∷ [])

-- The instruction of a line, in a list, or the fault of the second round. A target counts slots from the following slot.
abbrev pub second_round : List (List ℕ) → List (List ℕ) → List ℕ → Result Statement AsmKind → Result (List Insn) AsmKind
second_round all before line (Ok (says.Insn x)) = Ok (x ∷ [])
second_round all before line (Ok (says.Aimed x)) =
    listed (label_slot (target_name line) all >>? (λ at. aimed x (pos at -ℤ pos (slots before + length (insn_slots x)))))
second_round all before line (Ok says.Blank) = Ok []
second_round all before line (Ok says.Label) = Ok []
second_round all before line (Err kind) = Ok []

abbrev pub code_then : Result (List Insn) AsmKind → ℕ → Result (List Insn) AsmFault → Result (List Insn) AsmFault
code_then (Err kind) number rest = Err (record { kind = kind; line = number })
code_then (Ok xs) number (Err fault) = Err fault
code_then (Ok xs) number (Ok ys) = Ok (xs ++ ys)

-- The instructions of some lines behind others, among all lines, or the first fault of the second round.
abbrev pub code_from : List (List ℕ) → List (List ℕ) → List (List ℕ) → Result (List Insn) AsmFault
code_from all before [] = Ok []
code_from all before (line ∷ rest) =
    code_then (second_round all before line (line_statement line)) (line_number before) (code_from all (before ++ line ∷ []) rest)

abbrev pub fault_or : Option AsmFault → Result (List Insn) AsmFault → Result (List Insn) AsmFault
fault_or None other = other
fault_or (Some fault) other = Err fault

abbrev pub assembly_of_lines : List (List ℕ) → Result (List Insn) AsmFault
assembly_of_lines all = fault_or (first_fault [] all) (code_from all [] all)

-- The instructions of a text, or its first fault.
abbrev pub assembly : List ℕ → Result (List Insn) AsmFault
assembly text = assembly_of_lines (lines text)
