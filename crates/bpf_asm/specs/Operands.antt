-- Statement: what the text of an operand says: a register, a number, a memory operand or a target. Of two faults in
-- a line `Operand` comes before `Number`.
use Rattle.std.specs.Prelude.{ℕ, ◌+◌, ◌-◌, ◌≤◌, ◌^◌, ◌==◌, Bool, true, false, ◌&&◌, ◌||◌, nat_le, nat_lt, if◌then◌else◌, List, [], ◌∷◌, length, take, drop, slice_index, Option, Some, None, Result, Ok, Err, ℤ, pos, neg_ℤ, codes, find}
use Rattle.std.proofs.Common.{lit≤}
use Rattle.std.specs.List.{list_all, position_or_len, before_first}
use Rattle.std.specs.Option.{ok_or, option_map}
use Rattle.std.specs.Str.{bytes_eq}
use Rattle.std.specs.Char.{digit_value}
use Rattle.std.specs.Str.Parse.{digits_value}
use Rattle.std.specs.Int.{w32, cast_signed}
use Rattle.bpf_decode.specs.declared.insn.Reg.{Reg}
use Rattle.bpf_decode.specs.declared.insn.Source.{Source}
use Rattle.bpf_decode.specs.declared.insn.Source.TheVariants as source
use Rattle.bpf_asm.specs.declared.fault.AsmKind.{AsmKind}
use Rattle.bpf_asm.specs.declared.fault.AsmKind.TheVariants.{Operand, Number}
use Rattle.bpf_asm.specs.declared.fault.AsmKind.TheVariants as kind
use Rattle.bpf_asm.specs.declared.operand.Target.{Target}
use Rattle.bpf_asm.specs.declared.operand.Target.TheVariants as target
use Rattle.bpf_asm.specs.declared.operand.MemoryOperand.{MemoryOperand}
use Rattle.bpf_asm.specs.Text.{trim, is_digit, is_letter, is_name}

-- First r, then k of what it gives; the first fault is the fault of both.
infixl 10 ◌>>=◌
abbrev pub ◌>>=◌ : {A B : Type 0} → Result A AsmKind → (A → Result B AsmKind) → Result B AsmKind
(Ok x) >>= k = k x
(Err e) >>= k = Err e

infixl 10 ◌>>?◌
abbrev pub ◌>>?◌ : {A B : Type 0} → Option A → (A → Option B) → Option B
None >>? k = None
(Some x) >>? k = k x

-- Of two faults of a line's operands the one that is reported.
abbrev pub first_kind : AsmKind → AsmKind → AsmKind
first_kind Operand f = Operand
first_kind _ f = f

-- Both of two operands.
abbrev pub pair : {A B : Type 0} → Result A AsmKind → Result B AsmKind → Result (A × B) AsmKind
pair (Ok a) (Ok b) = Ok (a, b)
pair (Ok a) (Err f) = Err f
pair (Err e) (Ok b) = Err e
pair (Err e) (Err f) = Err (first_kind e f)

-- Exactly none, one, two or three operands.
abbrev pub as_none : List (List ℕ) → Result (Unit {0}) AsmKind
as_none [] = Ok tt
as_none (a ∷ more) = Err Operand

abbrev pub as_one : List (List ℕ) → Result (List ℕ) AsmKind
as_one [] = Err Operand
as_one (a ∷ []) = Ok a
as_one (a ∷ b ∷ more) = Err Operand

abbrev pub as_two : List (List ℕ) → Result (List ℕ × List ℕ) AsmKind
as_two [] = Err Operand
as_two (a ∷ []) = Err Operand
as_two (a ∷ b ∷ []) = Ok (a, b)
as_two (a ∷ b ∷ c ∷ more) = Err Operand

abbrev pub as_three : List (List ℕ) → Result (List ℕ × List ℕ × List ℕ) AsmKind
as_three [] = Err Operand
as_three (a ∷ []) = Err Operand
as_three (a ∷ b ∷ []) = Err Operand
as_three (a ∷ b ∷ c ∷ []) = Ok (a, b, c)
as_three (a ∷ b ∷ c ∷ d ∷ more) = Err Operand

-- The registers r0 to r10. (RFC 9669, 2.1)
abbrev pub numbered : (n : ℕ) → n ≤ 10 → Reg
numbered n h = record { number = n; in_range = h }

abbrev pub registers : List Reg
registers =
    numbered 0 (lit≤ tt) ∷ numbered 1 (lit≤ tt) ∷ numbered 2 (lit≤ tt) ∷ numbered 3 (lit≤ tt) ∷ numbered 4 (lit≤ tt)
    ∷ numbered 5 (lit≤ tt) ∷ numbered 6 (lit≤ tt) ∷ numbered 7 (lit≤ tt) ∷ numbered 8 (lit≤ tt) ∷ numbered 9 (lit≤ tt)
    ∷ numbered 10 (lit≤ tt) ∷ []

abbrev pub number_text : ℕ → List ℕ
number_text n = if nat_lt n 10 then 114 ∷ (48 + n) ∷ [] else codes "r10"

abbrev pub register_text : Reg → List ℕ
register_text reg = number_text reg.number

abbrev pub register : List ℕ → Result Reg AsmKind
register text = ok_or (find (λ r. bytes_eq (register_text r) text) registers) Operand

-- The number that digits write. No number of an operand reaches 2^64.
abbrev pub numeral : ℕ → List ℕ → Option ℕ
numeral radix ds =
    if nat_lt 0 (length ds) && list_all (λ c. nat_lt (digit_value c) radix) ds && nat_lt (digits_value radix ds) (2 ^ 64)
    then Some (digits_value radix ds) else None

-- A number without a sign: decimal digits, or `0x` and hex digits.
abbrev pub unsigned : List ℕ → Option ℕ
unsigned text = if bytes_eq (take 2 text) (codes "0x") then numeral 16 (drop 2 text) else numeral 10 text

-- A number of an operand: whether a minus stands before it, and its magnitude. The minus is for decimals.
abbrev pub signed : List ℕ → Option (Bool × ℕ)
signed text =
    if slice_index text 0 == 45 then option_map (λ m. (true, m)) (numeral 10 (drop 1 text))
    else option_map (λ m. (false, m)) (unsigned text)

abbrev pub is_sign : ℕ → Bool
is_sign b = (b == 43) || (b == 45)

-- What begins with a digit or a sign is meant as a number.
abbrev pub begins_number : List ℕ → Bool
begins_number text = is_digit (slice_index text 0) || is_sign (slice_index text 0)

-- A number that is read so, where one is wanted.
abbrev pub wanted : {A : Type 0} → List ℕ → Option A → Result A AsmKind
wanted text read = if begins_number text then ok_or read Number else Err Operand

-- An immediate: -2^31 to 2^32 - 1, the bits taken.
abbrev pub immediate_of : Bool × ℕ → Option ℤ
immediate_of n =
    if n.0 then (if nat_le n.1 (2 ^ 31) then Some (neg_ℤ (pos n.1)) else None)
    else (if nat_lt n.1 (2 ^ 32) then Some (cast_signed w32 n.1) else None)

abbrev pub immediate : List ℕ → Result ℤ AsmKind
immediate text = wanted text (signed text >>? immediate_of)

-- A wide immediate: 0 to 2^64 - 1.
abbrev pub wide_immediate_of : Bool × ℕ → Option ℕ
wide_immediate_of n = if n.0 && nat_lt 0 n.1 then None else Some n.1

abbrev pub wide_immediate : List ℕ → Result ℕ AsmKind
wide_immediate text = wanted text (signed text >>? wide_immediate_of)

-- A signed number whose magnitude is below `half`, or at it under a minus.
abbrev pub within_half : ℕ → Bool → ℕ → Option ℤ
within_half half minus m =
    if minus then (if nat_le m half then Some (neg_ℤ (pos m)) else None)
    else (if nat_lt m half then Some (pos m) else None)

-- The second operand of arithmetic and tests: a number or a register.
abbrev pub second_operand : List ℕ → Result Source AsmKind
second_operand text =
    if begins_number text then immediate text >>= (λ n. Ok (source.Imm n))
    else register text >>= (λ r. Ok (source.Reg r))

-- A target: a label, or a sign and decimal digits; `half` is 2^15 or 2^31.
abbrev pub target_of : ℕ → List ℕ → Result Target AsmKind
target_of half text =
    if is_letter (slice_index text 0) then (if is_name text then Ok target.Label else Err Operand)
    else if is_sign (slice_index text 0) then
    ok_or (numeral 10 (drop 1 text) >>? within_half half (slice_index text 0 == 45)) Number
    >>= (λ n. Ok (target.Offset n))
    else Err Operand

-- The offset of a memory operand: a sign and a number without one of its own, or none for 0.
abbrev pub offset_of_text : List ℕ → Result ℤ AsmKind
offset_of_text [] = Ok (pos 0)
offset_of_text (s ∷ rest) = wanted (trim rest) (unsigned (trim rest) >>? within_half (2 ^ 15) (s == 45))

abbrev pub in_brackets : List ℕ → Bool
in_brackets text = nat_le 2 (length text) && (slice_index text 0 == 91) && (slice_index text (length text - 1) == 93)

-- What stands before the first sign, and from it on.
abbrev pub before_sign : List ℕ → List ℕ
before_sign inside = before_first is_sign inside

abbrev pub from_sign : List ℕ → List ℕ
from_sign inside = drop (position_or_len is_sign inside) inside

-- A base register and an offset.
abbrev pub memory_operand_within : List ℕ → Result MemoryOperand AsmKind
memory_operand_within inside =
    pair (register (trim (before_sign inside))) (offset_of_text (from_sign inside))
    >>= (λ p. Ok (record { base = p.0; offset = p.1 }))

-- A memory operand: `[r1]`, `[r1+n]` or `[r1-n]`.
abbrev pub memory_operand : List ℕ → Result MemoryOperand AsmKind
memory_operand text = if in_brackets text then memory_operand_within (trim (take (length text - 2) (drop 1 text))) else Err Operand
