-- Slots give back the instructions that they encode, and have no fault then.
use Rattle.std.proofs.Common.{◌≡◌, ℕ, zero, suc, not, ◌&&◌, ◌+◌, ◌*◌, ◌/◌, ◌%◌, ◌^◌, ◌<◌, ◌≤◌, Bool, true, false, List, [], ◌∷◌, length, take, Option, Some, None, ℤ, pos, FitsSigned, refl, sym, ap, subst, ◌∙◌, arith, rules, lit≤}
use Rattle.std.specs.Int.{w16, w32, cast_unsigned}
use Rattle.std.specs.Option.{option_map}
use Rattle.std.specs.List.{AllByRecursion}
use Rattle.std.specs.Ordering.{int_eq}
use Rattle.std.proofs.Math.Bridge.{le_prop}
use Rattle.std.proofs.lemmas.Bool.{le-ltb}
use Rattle.std.proofs.lemmas.Int.{of_z-to_z}
use Rattle.bpf_num.specs.declared.AluOp.{AluOp}
use Rattle.bpf_num.specs.declared.AluOp.TheVariants as op
use Rattle.bpf_num.specs.declared.AluWidth.{AluWidth}
use Rattle.bpf_num.specs.declared.AluWidth.TheVariants.{W32, W64}
use Rattle.bpf_num.specs.declared.swap.SwapKind.TheVariants as swap
use Rattle.bpf_num.specs.declared.swap.Width.{Width}
use Rattle.bpf_num.specs.declared.swap.Width.TheVariants as width
use Rattle.bpf_num.specs.ByteSwap.{swap_bits}
use Rattle.bpf_num.specs.declared.jump.Test.{Test}
use Rattle.bpf_num.specs.declared.jump.Test.TheVariants.{Jeq, Jgt, Jge, Jset, Jne, Jsgt, Jsge, Jlt, Jle, Jslt, Jsle}
use Rattle.bpf_decode.specs.declared.insn.Insn.{Insn}
use Rattle.bpf_decode.specs.declared.insn.Insn.TheVariants as insn
use Rattle.bpf_decode.specs.declared.insn.Reg.{Reg}
use Rattle.bpf_decode.specs.declared.insn.Size.{Size}
use Rattle.bpf_decode.specs.declared.insn.Size.TheVariants.{B, H, W, Dw}
use Rattle.bpf_decode.specs.declared.insn.Source.TheVariants as source
use Rattle.bpf_decode.specs.declared.opcode.Opcode.{Opcode}
use Rattle.bpf_decode.specs.declared.opcode.Opcode.TheVariants.{Alu, Swap, LoadImm, Load, StoreImm, Store, Jump, JumpLong, Test as TestOf, Call, Exit}
use Rattle.bpf_decode.specs.declared.opcode.Operation.{Operation}
use Rattle.bpf_decode.specs.declared.opcode.Operation.TheVariants.{Add, Sub, Mul, Div, Or, And, Lsh, Rsh, Neg, Mod, Xor, Mov, Arsh}
use Rattle.bpf_decode.specs.declared.opcode.SourceKind.{SourceKind}
use Rattle.bpf_decode.specs.declared.opcode.SourceKind.TheVariants.{K, X}
use Rattle.bpf_decode.specs.declared.slot.Slot.{Slot}
use Rattle.bpf_decode.specs.Opcodes.{opcode_byte, operation_bits, test_bits, source_bit, class_bits, size_bits, mode_bits, jump_class, opcode_of, operation_of, offset_of, has_form, has_operand, uses_offset, variant_of, swap_width}
use Rattle.bpf_decode.specs.Encoding.{IsInsn, IsSlot, slot_with, first_slot, other_slots, half_slot, signed_32}
use Rattle.bpf_decode.specs.Faults.{form_fault, fault_of, slot_fault}
use Rattle.bpf_decode.specs.Parts.{IsOpcode, slot_list, Reads}

-- ---- an opcode is its byte

abbrev Again : Opcode → Type 0
Again o = opcode_of (opcode_byte o) ≡ Some o

alu_again : (o : Operation) → Again (Alu W32 o K) × Again (Alu W64 o K) × (has_operand o ≡ true → Again (Alu W32 o X) × Again (Alu W64 o X))
alu_again Neg = (refl, refl, λ h. absurd cc)
alu_again _ = (refl, refl, λ _. (refl, refl))

test_again : (t : Test) → (Again (TestOf false t K) × Again (TestOf false t X)) × Again (TestOf true t K) × Again (TestOf true t X)
test_again Jeq = ((refl, refl), refl, refl)
test_again _ = ((refl, refl), refl, refl)

size_again : (s : Size) → Again (Load s false) × Again (StoreImm s) × Again (Store s)
size_again B = (refl, refl, refl)
size_again _ = (refl, refl, refl)

pub opcode_again : (o : Opcode) → IsOpcode o → opcode_of (opcode_byte o) ≡ Some o
opcode_again (Alu W32 o K) h = (alu_again o).0
opcode_again (Alu W64 o K) h = (alu_again o).1
opcode_again (Alu W32 o X) h = ((alu_again o).2 h).0
opcode_again (Alu W64 o X) h = ((alu_again o).2 h).1
opcode_again (Swap swap.Le) h = refl
opcode_again (Swap swap.Be) h = refl
opcode_again (Swap swap.Swap) h = refl
opcode_again LoadImm h = refl
opcode_again (Load s false) h = (size_again s).0
opcode_again (Load B true) h = refl
opcode_again (Load H true) h = refl
opcode_again (Load W true) h = refl
opcode_again (Load Dw true) h = absurd h
opcode_again (StoreImm s) h = (size_again s).1
opcode_again (Store s) h = (size_again s).2
opcode_again Jump h = refl
opcode_again JumpLong h = refl
opcode_again (TestOf false t K) h = (test_again t).0.0
opcode_again (TestOf false t X) h = (test_again t).0.1
opcode_again (TestOf true t K) h = (test_again t).1
opcode_again (TestOf true t X) h = (test_again t).2
opcode_again Call h = refl
opcode_again Exit h = refl

some_is : {A : Type 0} (a b : A) → Some a ≡ Some b → a ≡ b
some_is a b e = cc

opcode_is : (a b : Opcode) → IsOpcode a → IsOpcode b → opcode_byte a ≡ opcode_byte b → a ≡ b
opcode_is a b ha hb e = some_is a b (sym (opcode_again a ha) ∙ ap opcode_of e ∙ opcode_again b hb)

variant_again_of : (w : AluWidth) (o : AluOp) (s : SourceKind) → has_form w o s ≡ true → variant_of w (operation_of o) s (offset_of o) ≡ Some o
variant_again_of w op.Add s h = refl
variant_again_of w op.Sub s h = refl
variant_again_of w op.Mul s h = refl
variant_again_of w op.Div s h = refl
variant_again_of w op.Sdiv s h = refl
variant_again_of w op.Or s h = refl
variant_again_of w op.And s h = refl
variant_again_of w op.Lsh s h = refl
variant_again_of w op.Rsh s h = refl
variant_again_of w op.Neg K h = refl
variant_again_of w op.Neg X h = absurd cc
variant_again_of w op.Mod s h = refl
variant_again_of w op.Smod s h = refl
variant_again_of w op.Xor s h = refl
variant_again_of w op.Mov s h = refl
variant_again_of w op.Movsx8 K h = absurd cc
variant_again_of w op.Movsx8 X h = refl
variant_again_of w op.Movsx16 K h = absurd cc
variant_again_of w op.Movsx16 X h = refl
variant_again_of W32 op.Movsx32 s h = absurd cc
variant_again_of W64 op.Movsx32 K h = absurd cc
variant_again_of W64 op.Movsx32 X h = refl
variant_again_of w op.Arsh s h = refl

swap_width_again : (w : Width) → swap_width (pos (swap_bits w)) ≡ Some w
swap_width_again width.W16 = refl
swap_width_again width.W32 = refl
swap_width_again width.W64 = refl

-- ---- an instruction is its fields

-- what the slots of an instruction hold; r0 and 0 where a field has no use
pub record Fields : Type 0 where
  pub opcode : Opcode
  pub dst : Reg
  pub src : Reg
  pub offset : ℤ
  pub imm : ℤ

abbrev r0 : Reg
r0 = record { number = 0; in_range = lit≤ tt }

abbrev r1 : Reg
r1 = record { number = 1; in_range = lit≤ tt }

abbrev fields_with : Opcode → Reg → Reg → ℤ → ℤ → Fields
fields_with o d s z i = record { opcode = o; dst = d; src = s; offset = z; imm = i }

abbrev pub fields : Insn → Fields
fields (insn.Alu w o dst (source.Imm value)) = fields_with (Alu w (operation_of o) K) dst r0 (offset_of o) value
fields (insn.Alu w o dst (source.Reg src)) = fields_with (Alu w (operation_of o) X) dst src (offset_of o) (pos 0)
fields (insn.Swap kind w dst) = fields_with (Swap kind) dst r0 (pos 0) (pos (swap_bits w))
fields (insn.LoadImm dst value) = fields_with LoadImm dst r0 (pos 0) (signed_32 (value % 2 ^ 32))
fields (insn.Load size signed dst base offset) = fields_with (Load size signed) dst base offset (pos 0)
fields (insn.StoreImm size base offset imm) = fields_with (StoreImm size) base r0 offset imm
fields (insn.Store size base offset src) = fields_with (Store size) base src offset (pos 0)
fields (insn.Jump offset) = fields_with Jump r0 r0 offset (pos 0)
fields (insn.JumpLong offset) = fields_with JumpLong r0 r0 (pos 0) offset
fields (insn.Test narrow test dst (source.Imm value) offset) = fields_with (TestOf narrow test K) dst r0 offset value
fields (insn.Test narrow test dst (source.Reg src) offset) = fields_with (TestOf narrow test X) dst src offset (pos 0)
fields (insn.CallHelper helper) = fields_with Call r0 r0 (pos 0) helper
fields (insn.CallLocal offset) = fields_with Call r0 r1 (pos 0) offset
fields insn.Exit = fields_with Exit r0 r0 (pos 0) (pos 0)

abbrev pub slot_from : Fields → Slot
slot_from f = slot_with f.opcode f.dst.number f.src.number f.offset f.imm

pub first_is : (x : Insn) → first_slot x ≡ slot_from (fields x)
first_is (insn.Alu w o dst (source.Imm value)) = refl
first_is (insn.Alu w o dst (source.Reg src)) = refl
first_is (insn.Swap kind w dst) = refl
first_is (insn.LoadImm dst value) = refl
first_is (insn.Load size signed dst base offset) = refl
first_is (insn.StoreImm size base offset imm) = refl
first_is (insn.Store size base offset src) = refl
first_is (insn.Jump offset) = refl
first_is (insn.JumpLong offset) = refl
first_is (insn.Test narrow test dst (source.Imm value) offset) = refl
first_is (insn.Test narrow test dst (source.Reg src) offset) = refl
first_is (insn.CallHelper helper) = refl
first_is (insn.CallLocal offset) = refl
first_is insn.Exit = refl

form_operand : (w : AluWidth) (o : AluOp) → has_form w o X ≡ true → has_operand (operation_of o) ≡ true
form_operand w op.Neg h = absurd cc
form_operand w _ h = refl

pub opcode_right : (x : Insn) → IsInsn x → IsOpcode (fields x).opcode
opcode_right (insn.Alu w o dst (source.Imm value)) h = tt
opcode_right (insn.Alu w o dst (source.Reg src)) h = form_operand w o h
opcode_right (insn.Swap kind w dst) h = tt
opcode_right (insn.LoadImm dst value) h = tt
opcode_right (insn.Load size signed dst base offset) h = h.0
opcode_right (insn.StoreImm size base offset imm) h = tt
opcode_right (insn.Store size base offset src) h = tt
opcode_right (insn.Jump offset) h = tt
opcode_right (insn.JumpLong offset) h = tt
opcode_right (insn.Test narrow test dst (source.Imm value) offset) h = tt
opcode_right (insn.Test narrow test dst (source.Reg src) offset) h = tt
opcode_right (insn.CallHelper helper) h = tt
opcode_right (insn.CallLocal offset) h = tt
opcode_right insn.Exit h = tt

-- the immediate of the second slot
abbrev half_of : List Slot → ℤ
half_of [] = pos 0
half_of (half ∷ _) = half.imm

abbrev wide_value : ℤ → ℤ → ℕ
wide_value low high = cast_unsigned w32 low + cast_unsigned w32 high * 2 ^ 32

-- the instruction that fields are of, before the immediate of a second slot
unfoldable read_call : ℕ → ℤ → Option Insn
read_call zero imm = Some (insn.CallHelper imm)
read_call (suc n) imm = Some (insn.CallLocal imm)

abbrev read : Fields → ℤ → Option Insn
read f half = read_as f.opcode f.dst f.src f.offset f.imm half where
  read_as : Opcode → Reg → Reg → ℤ → ℤ → ℤ → Option Insn
  read_as (Alu w o K) d s z i j = option_map (λ v. insn.Alu w v d (source.Imm i)) (variant_of w o K z)
  read_as (Alu w o X) d s z i j = option_map (λ v. insn.Alu w v d (source.Reg s)) (variant_of w o X z)
  read_as (Swap kind) d s z i j = option_map (λ w. insn.Swap kind w d) (swap_width i)
  read_as LoadImm d s z i j = Some (insn.LoadImm d (wide_value i j))
  read_as (Load size signed) d s z i j = Some (insn.Load size signed d s z)
  read_as (StoreImm size) d s z i j = Some (insn.StoreImm size d z i)
  read_as (Store size) d s z i j = Some (insn.Store size d z s)
  read_as Jump d s z i j = Some (insn.Jump z)
  read_as JumpLong d s z i j = Some (insn.JumpLong i)
  read_as (TestOf narrow test K) d s z i j = Some (insn.Test narrow test d (source.Imm i) z)
  read_as (TestOf narrow test X) d s z i j = Some (insn.Test narrow test d (source.Reg s) z)
  read_as Call d s z i j = read_call s.number i
  read_as Exit d s z i j = Some insn.Exit

wide_again : (v : ℕ) → v < 2 ^ 64 → wide_value (signed_32 (v % 2 ^ 32)) (signed_32 (v / 2 ^ 32)) ≡ v
wide_again v h =
    let low : v % 2 ^ 32 < 2 ^ 32 = omega arith in
    let high : v / 2 ^ 32 < 2 ^ 32 = omega arith in
    rw (of_z-to_z w32 (v % 2 ^ 32) low, of_z-to_z w32 (v / 2 ^ 32) high) (omega arith)

read_again : (x : Insn) → IsInsn x → read (fields x) (half_of (other_slots x)) ≡ Some x
unfolding read_call
read_again (insn.Alu w o dst (source.Imm value)) h = rw (variant_again_of w o K h.0) refl
read_again (insn.Alu w o dst (source.Reg src)) h = rw (variant_again_of w o X h) refl
read_again (insn.Swap kind w dst) h = rw (swap_width_again w) refl
read_again (insn.LoadImm dst value) h = ap (λ (v : ℕ). Some (insn.LoadImm dst v)) (wide_again value h)
read_again (insn.Load size signed dst base offset) h = refl
read_again (insn.StoreImm size base offset imm) h = refl
read_again (insn.Store size base offset src) h = refl
read_again (insn.Jump offset) h = refl
read_again (insn.JumpLong offset) h = refl
read_again (insn.Test narrow test dst (source.Imm value) offset) h = refl
read_again (insn.Test narrow test dst (source.Reg src) offset) h = refl
read_again (insn.CallHelper helper) h = refl
read_again (insn.CallLocal offset) h = refl
read_again insn.Exit h = refl

-- a register is its number
pub same_reg : (a b : Reg) → a.number ≡ b.number → a ≡ b
same_reg a b e =
    let P : ℕ → Type 0 = λ n. (q : n ≤ 10) → a ≡ record { number = n; in_range = q } in
    let base : P a.number = λ q. ap (λ (h : a.number ≤ 10). let r : Reg = record { number = a.number; in_range = h } in r) (le_prop a.in_range q) in
    subst P e base b.in_range

same_fields : (f g : Fields) → f.opcode ≡ g.opcode → f.dst ≡ g.dst → f.src ≡ g.src → f.offset ≡ g.offset → f.imm ≡ g.imm → f ≡ g
same_fields f g eo ed es ez ei = rw (eo, ed, es, ez, ei) refl

pub fields_same : (x y : Insn) → IsInsn x → IsInsn y → first_slot x ≡ first_slot y → fields x ≡ fields y
fields_same x y hx hy h =
    let e : slot_from (fields x) ≡ slot_from (fields y) = sym (first_is x) ∙ h ∙ first_is y in
    same_fields (fields x) (fields y)
    (opcode_is _ _ (opcode_right x hx) (opcode_right y hy) (ap (λ (s : Slot). s.opcode) e))
    (same_reg _ _ (ap (λ (s : Slot). s.dst) e)) (same_reg _ _ (ap (λ (s : Slot). s.src) e))
    (ap (λ (s : Slot). s.offset) e) (ap (λ (s : Slot). s.imm) e)

pub same_insn : (x y : Insn) → IsInsn x → IsInsn y → first_slot x ≡ first_slot y → other_slots x ≡ other_slots y → x ≡ y
same_insn x y hx hy first others =
    let e : read (fields x) (half_of (other_slots x)) ≡ read (fields y) (half_of (other_slots y)) =
    ap (λ (f : Fields). read f (half_of (other_slots x))) (fields_same x y hx hy first) ∙ ap (λ (s : List Slot). read (fields y) (half_of s)) others in
    some_is x y (sym (read_again x hx) ∙ e ∙ read_again y hy)

-- how many slots stand behind the first
abbrev others_of : Opcode → ℕ
others_of LoadImm = 1
others_of _ = 0

others_is : (x : Insn) → length (other_slots x) ≡ others_of (fields x).opcode
others_is (insn.Alu w o dst (source.Imm value)) = refl
others_is (insn.Alu w o dst (source.Reg src)) = refl
others_is (insn.Swap kind w dst) = refl
others_is (insn.LoadImm dst value) = refl
others_is (insn.Load size signed dst base offset) = refl
others_is (insn.StoreImm size base offset imm) = refl
others_is (insn.Store size base offset src) = refl
others_is (insn.Jump offset) = refl
others_is (insn.JumpLong offset) = refl
others_is (insn.Test narrow test dst (source.Imm value) offset) = refl
others_is (insn.Test narrow test dst (source.Reg src) offset) = refl
others_is (insn.CallHelper helper) = refl
others_is (insn.CallLocal offset) = refl
others_is insn.Exit = refl

pub as_many_slots : (x y : Insn) → IsInsn x → IsInsn y → first_slot x ≡ first_slot y → length (other_slots x) ≡ length (other_slots y)
as_many_slots x y hx hy h =
    others_is x ∙ ap (λ (f : Fields). others_of f.opcode) (fields_same x y hx hy h) ∙ sym (others_is y)

-- ---- the slots of an instruction have no fault

operand_none : (o : Operation) (z : ℤ) → (has_operand o ≡ false → z ≡ pos 0) → (not (has_operand o) && not (int_eq z (pos 0))) ≡ false
operand_none o z h = test (has_operand o) refl where
  test : (b : Bool) → has_operand o ≡ b → (not b && not (int_eq z (pos 0))) ≡ false
  test true e = refl
  test false e = rw (h e) refl

offset_none : (o : AluOp) → (not (uses_offset (operation_of o)) && not (int_eq (offset_of o) (pos 0))) ≡ false
offset_none op.Add = refl
offset_none _ = refl

form_right : (x : Insn) → IsInsn x → (b : Option Slot) → take (length (other_slots x)) (slot_list b) ≡ other_slots x → form_fault (fields x).opcode (first_slot x) b ≡ None
form_right (insn.Alu w o dst (source.Imm value)) h b e = rw (variant_again_of w o K h.0, offset_none o, operand_none (operation_of o) value h.2) refl
form_right (insn.Alu w o dst (source.Reg src)) h b e = rw (variant_again_of w o X h, offset_none o) refl
form_right (insn.Swap kind w dst) h b e = rw (swap_width_again w) refl
form_right (insn.LoadImm dst value) h None e = absurd cc
form_right (insn.LoadImm dst value) h (Some half) e =
    let is : half ≡ half_slot (signed_32 (value / 2 ^ 32)) = cc in rw is refl
form_right (insn.Load size signed dst base offset) h b e = refl
form_right (insn.StoreImm size base offset imm) h b e = refl
form_right (insn.Store size base offset src) h b e = refl
form_right (insn.Jump offset) h b e = refl
form_right (insn.JumpLong offset) h b e = refl
form_right (insn.Test narrow test dst (source.Imm value) offset) h b e = refl
form_right (insn.Test narrow test dst (source.Reg src) offset) h b e = refl
form_right (insn.CallHelper helper) h b e = refl
form_right (insn.CallLocal offset) h b e = refl
form_right insn.Exit h b e = refl

opcode_none : (o : Opcode) (s : Slot) (b : Option Slot) → IsOpcode o → s.opcode ≡ opcode_byte o → s.dst ≤ 10 → s.src ≤ 10 → form_fault o s b ≡ None → slot_fault s b ≡ None
opcode_none o s b h e d r f =
    ap (λ (k : ℕ). fault_of (opcode_of k) s b) e ∙ ap (λ (p : Option Opcode). fault_of p s b) (opcode_again o h)
    ∙ rw (le-ltb 10 s.dst d, le-ltb 10 s.src r) f

pub no_fault : (s : Slot) (b : Option Slot) (x : Insn) → Reads s b x → slot_fault s b ≡ None
no_fault s b x h =
    let f : Fields = fields x in
    let e : s ≡ slot_from f = sym h.first ∙ first_is x in
    let d : s.dst ≤ 10 = subst (λ (n : ℕ). n ≤ 10) (sym (ap (λ (t : Slot). t.dst) e)) f.dst.in_range in
    let r : s.src ≤ 10 = subst (λ (n : ℕ). n ≤ 10) (sym (ap (λ (t : Slot). t.src) e)) f.src.in_range in
    opcode_none f.opcode s b (opcode_right x h.in_range) (ap (λ (t : Slot). t.opcode) e) d r
    (ap (λ (t : Slot). form_fault f.opcode t b) (sym h.first) ∙ form_right x h.in_range b h.others)

-- ---- what the fields can hold

operation_small : (o : Operation) → operation_bits o < 16
operation_small Add = omega arith
operation_small _ = omega arith

test_small : (t : Test) → test_bits t < 16
test_small Jeq = omega arith
test_small _ = omega arith

source_small : (s : SourceKind) → source_bit s < 2
source_small K = omega arith
source_small X = omega arith

class_small : (w : AluWidth) → class_bits w < 8
class_small W32 = omega arith
class_small W64 = omega arith

size_small : (s : Size) → size_bits s < 4
size_small B = omega arith
size_small _ = omega arith

mode_small : (signed : Bool) → mode_bits signed < 8
mode_small false = omega arith
mode_small true = omega arith

jump_small : (narrow : Bool) → jump_class narrow < 8
jump_small false = omega arith
jump_small true = omega arith

pub opcode_small : (o : Opcode) → opcode_byte o < 2 ^ 8
opcode_small (Alu w o s) = let a = operation_small o in let b = source_small s in let c = class_small w in omega arith
opcode_small (Swap swap.Le) = omega arith
opcode_small (Swap swap.Be) = omega arith
opcode_small (Swap swap.Swap) = omega arith
opcode_small LoadImm = omega arith
opcode_small (Load size signed) = let a = size_small size in let b = mode_small signed in omega arith
opcode_small (StoreImm size) = let a = size_small size in omega arith
opcode_small (Store size) = let a = size_small size in omega arith
opcode_small Jump = omega arith
opcode_small JumpLong = omega arith
opcode_small (TestOf narrow test s) = let a = test_small test in let b = source_small s in let c = jump_small narrow in omega arith
opcode_small Call = omega arith
opcode_small Exit = omega arith

zero_16 : FitsSigned w16 (pos 0)
zero_16 = search rules

zero_32 : FitsSigned w32 (pos 0)
zero_32 = search rules

offset_fits : (o : AluOp) → FitsSigned w16 (offset_of o)
offset_fits op.Add = search rules
offset_fits _ = search rules

swap_fits : (w : Width) → FitsSigned w32 (pos (swap_bits w))
swap_fits width.W16 = search rules
swap_fits width.W32 = search rules
swap_fits width.W64 = search rules

signed_fits : (n : ℕ) → FitsSigned w32 (signed_32 n)
signed_fits n = search rules

pub fields_fit : (x : Insn) → IsInsn x → FitsSigned w16 (fields x).offset × FitsSigned w32 (fields x).imm
fields_fit (insn.Alu w o dst (source.Imm value)) h = (offset_fits o, h.1)
fields_fit (insn.Alu w o dst (source.Reg src)) h = (offset_fits o, zero_32)
fields_fit (insn.Swap kind w dst) h = (zero_16, swap_fits w)
fields_fit (insn.LoadImm dst value) h = (zero_16, signed_fits (value % 2 ^ 32))
fields_fit (insn.Load size signed dst base offset) h = (h.1, zero_32)
fields_fit (insn.StoreImm size base offset imm) h = h
fields_fit (insn.Store size base offset src) h = (h, zero_32)
fields_fit (insn.Jump offset) h = (h, zero_32)
fields_fit (insn.JumpLong offset) h = (zero_16, h)
fields_fit (insn.Test narrow test dst (source.Imm value) offset) h = (h.1, h.0)
fields_fit (insn.Test narrow test dst (source.Reg src) offset) h = (h, zero_32)
fields_fit (insn.CallHelper helper) h = (zero_16, h)
fields_fit (insn.CallLocal offset) h = (zero_16, h)
fields_fit insn.Exit h = (zero_16, zero_32)

half_fits : (n : ℕ) → IsSlot (half_slot (signed_32 n))
half_fits n = record { opcode = omega arith; dst = omega arith; src = omega arith; offset = zero_16; imm = signed_fits n }

pub IsSlot-others : (x : Insn) → AllByRecursion IsSlot (other_slots x)
IsSlot-others (insn.LoadImm dst value) = (half_fits (value / 2 ^ 32), tt)
IsSlot-others (insn.Alu w o dst (source.Imm value)) = tt
IsSlot-others (insn.Alu w o dst (source.Reg src)) = tt
IsSlot-others (insn.Swap kind w dst) = tt
IsSlot-others (insn.Load size signed dst base offset) = tt
IsSlot-others (insn.StoreImm size base offset imm) = tt
IsSlot-others (insn.Store size base offset src) = tt
IsSlot-others (insn.Jump offset) = tt
IsSlot-others (insn.JumpLong offset) = tt
IsSlot-others (insn.Test narrow test dst (source.Imm value) offset) = tt
IsSlot-others (insn.Test narrow test dst (source.Reg src) offset) = tt
IsSlot-others (insn.CallHelper helper) = tt
IsSlot-others (insn.CallLocal offset) = tt
IsSlot-others insn.Exit = tt

pub few_others : (x : Insn) → length (other_slots x) ≤ 1
few_others (insn.Alu w o dst (source.Imm value)) = lit≤ tt
few_others (insn.Alu w o dst (source.Reg src)) = lit≤ tt
few_others (insn.Swap kind w dst) = lit≤ tt
few_others (insn.LoadImm dst value) = lit≤ tt
few_others (insn.Load size signed dst base offset) = lit≤ tt
few_others (insn.StoreImm size base offset imm) = lit≤ tt
few_others (insn.Store size base offset src) = lit≤ tt
few_others (insn.Jump offset) = lit≤ tt
few_others (insn.JumpLong offset) = lit≤ tt
few_others (insn.Test narrow test dst (source.Imm value) offset) = lit≤ tt
few_others (insn.Test narrow test dst (source.Reg src) offset) = lit≤ tt
few_others (insn.CallHelper helper) = lit≤ tt
few_others (insn.CallLocal offset) = lit≤ tt
few_others insn.Exit = lit≤ tt
