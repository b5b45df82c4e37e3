-- All bytes are code, or are refused for a first fault.
use Rattle.std.proofs.Common.{◌≡◌, ◌⊎◌, ℕ, zero, suc, ◌+◌, ◌*◌, ◌/◌, ◌%◌, ◌^◌, ◌<◌, ◌≤◌, Bool, true, false, not, ◌&&◌, ◌||◌, cond, List, [], ◌∷◌, ◌++◌, length, take, drop, get_or, find, Option, Some, None, ℤ, pos, bit_and, refl, sym, ap, subst, ◌∙◌, arith, inl, inr}
use Rattle.std.specs.Prelude.{nat_lt, ◌==◌, is_some}
use Rattle.std.specs.Int.{w16, w32, cast_signed, cast_unsigned}
use Rattle.std.specs.List.{AllByRecursion}
use Rattle.std.specs.Option.{option_map, option_or}
use Rattle.std.specs.Ordering.{int_eq}
use Rattle.std.proofs.lemmas.Bool.{true≢false, false≢true, eqb-true, and_parts, cases_lt, lt-ltb}
use Rattle.std.proofs.lemmas.Bool.Decides.{Decides-int_eq}
use Rattle.std.proofs.lemmas.Int.{to_z-of_z, of_z-to_z}
use Rattle.std.proofs.Math.Facts.{Fits-of_z, Fits-of_lt, sfits_to_z}
use Rattle.std.proofs.Math.Seq.{take-length}
use Rattle.std.proofs.lemmas.Nat.{and_mask}
use Rattle.std.proofs.lemmas.List.{get_or_past, get_or-take, get_or-drop, length-take-le, length-drop}
use Rattle.bpf_num.specs.Bind.{◌>>=◌}
use Rattle.bpf_num.specs.declared.AluOp.{AluOp}
use Rattle.bpf_num.specs.declared.AluWidth.{AluWidth}
use Rattle.bpf_num.specs.declared.swap.SwapKind.{SwapKind}
use Rattle.bpf_num.specs.ByteSwap.{swap_bits}
use Rattle.bpf_num.specs.declared.swap.Width.{Width}
use Rattle.bpf_num.specs.declared.jump.Test.{Test}
use Rattle.bpf_decode.specs.declared.insn.Insn.{Insn}
use Rattle.bpf_decode.specs.declared.insn.Insn.TheVariants as insn
use Rattle.bpf_decode.specs.declared.insn.Reg.{Reg}
use Rattle.bpf_decode.specs.declared.insn.Size.{Size}
use Rattle.bpf_decode.specs.declared.insn.Source.TheVariants as source
use Rattle.bpf_decode.specs.declared.opcode.Opcode.{Opcode}
use Rattle.bpf_decode.specs.declared.opcode.Opcode.TheVariants as opcode
use Rattle.bpf_decode.specs.declared.opcode.Operation.{Operation}
use Rattle.bpf_decode.specs.declared.opcode.Operation.TheVariants.{Add, Sub, Mul, Div, Or, And, Lsh, Rsh, Neg, Mod, Xor, Mov, Arsh}
use Rattle.bpf_decode.specs.declared.opcode.SourceKind.{SourceKind}
use Rattle.bpf_decode.specs.declared.opcode.SourceKind.TheVariants.{K, X}
use Rattle.bpf_decode.specs.declared.slot.Slot.{Slot}
use Rattle.bpf_decode.specs.Opcodes.{class_bits, jump_class, source_bit, operation_bits, test_bits, size_bits, mode_bits, opcode_byte, opcode_of, alu_opcode, test_opcode, load_opcode, stored_size, memory_opcode, widths, sources, operations, narrows, tests, sizes, short_sizes, single_opcodes, has_operand, operation_of, offset_of, variants, uses_offset, variant_of, has_form, swap_widths, swap_width}
use Rattle.bpf_decode.specs.Encoding.{IsSlot, IsLoad, IsInsn, IsAt, IsBehind, slot_bytes, first_slot, other_slots, insn_slots, encoding, half_slot, signed_32}
use Rattle.bpf_decode.specs.declared.refusal.DecodeFault.{DecodeFault}
use Rattle.bpf_decode.specs.declared.refusal.DecodeFault.TheVariants.{Empty, NotSlots, TooLong, BadRegister, TruncatedWide, BadWidth, BadOffset, FieldNotZero}
use Rattle.bpf_decode.specs.Faults.{is_not_zero, is_truncated, has_bad_width, has_bad_offset, is_stray_half, has_stray_field, form_fault, fault_of, slot_fault, length_fault, IsCode, IsRefused}
use Rattle.bpf_decode.specs.Parts.{IsOpcode, slot_list, Reads}
use Rattle.bpf_decode.proofs.Slots.{slot_read}
use Rattle.bpf_decode.proofs.Encodings.{read_encodes, encoded_more, fit_more}
use Rattle.bpf_decode.proofs.Reading.{or_false, zero_is, zero_int, slot_is, alu_imm_read, alu_reg_read}

-- ---- what is found in a table

found_one : {A : Type 0} (P : A → Type 0) (p : A → Bool) (xs : List A) → AllByRecursion P xs → (x : A) → find p xs ≡ Some x → P x × (p x ≡ true)
found_one P p [] all x e = absurd cc
found_one {A} P p (y ∷ xs) all x e = cases (p y) refl e (found_one P p xs all.1 x) where
  same : (a b : A) → Some a ≡ Some b → a ≡ b
  same a b e = cc

  cases : (b : Bool) → p y ≡ b → cond b (Some y) (find p xs) ≡ Some x → (find p xs ≡ Some x → P x × (p x ≡ true)) → P x × (p x ≡ true)
  cases true t e rest = (subst P (same y x e) all.0, subst (λ (z : A). p z ≡ true) (same y x e) t)
  cases false t e rest = rest e

-- ---- an opcode has its byte

abbrev IsOf : ℕ → Opcode → Type 0
IsOf byte o = (opcode_byte o ≡ byte) × IsOpcode o

-- what is answered, if anything, is of the byte
abbrev Right : ℕ → Option Opcode → Type 0
Right byte answer = (o : Opcode) → answer ≡ Some o → IsOf byte o

some_same : {A : Type 0} (a b : A) → Some a ≡ Some b → a ≡ b
some_same a b e = cc

right_one : (byte : ℕ) (o : Opcode) → IsOf byte o → Right byte (Some o)
right_one byte o h p e = subst (IsOf byte) (some_same o p e) h

right_none : (byte : ℕ) → Right byte None
right_none byte o e = absurd cc

right_or : (byte : ℕ) (a b : Option Opcode) → Right byte a → Right byte b → Right byte (option_or a b)
right_or byte None b h k = k
right_or byte (Some x) b h k = h

operation_again : (byte class source operation : ℕ) → class ≡ byte % 8 → source ≡ byte / 8 % 2 → operation ≡ byte / 16 → 16 * operation + 8 * source + class ≡ byte
operation_again byte class source operation a b d = omega arith

memory_again : (byte class size mode : ℕ) → class ≡ byte % 8 → size ≡ byte / 8 % 4 → mode ≡ byte / 32 → 32 * mode + 8 * size + class ≡ byte
memory_again byte class size mode a b d = omega arith

single_right : (byte : ℕ) → Right byte (find (λ o. opcode_byte o == byte) single_opcodes)
single_right byte o e = let w = found_one IsOpcode (λ o. opcode_byte o == byte) single_opcodes (tt, (tt, (tt, (tt, (tt, (tt, (tt, (tt, (tt, (tt, tt)))))))))) o e in (eqb-true (opcode_byte o) byte w.1, w.0)

alu_form : (w : AluWidth) (o : Operation) (k : SourceKind) → has_operand o ≡ true → IsOpcode (opcode.Alu w o k)
alu_form w o K h = tt
alu_form w o X h = h

alu_right : (byte : ℕ) → Right byte (alu_opcode (byte % 8) (byte / 8 % 2) (byte / 16))
alu_right byte = first (find (λ w. class_bits w == byte % 8) widths) refl where
  third : (w : AluWidth) (k : SourceKind) → class_bits w ≡ byte % 8 → source_bit k ≡ byte / 8 % 2 → (o : Option Operation) → find (λ x. operation_bits x == byte / 16) operations ≡ o
      → Right byte (o >>= λ x. Some (opcode.Alu w x k))
  third w k a b None e = right_none byte
  third w k a b (Some x) e =
      let f = found_one (λ (y : Operation). has_operand y ≡ true) (λ y. operation_bits y == byte / 16) operations (refl, (refl, (refl, (refl, (refl, (refl, (refl, (refl, (refl, (refl, (refl, (refl, tt)))))))))))) x e in
      right_one byte (opcode.Alu w x k) (operation_again byte (class_bits w) (source_bit k) (operation_bits x) a b (eqb-true (operation_bits x) (byte / 16) f.1), alu_form w x k f.0)

  second : (w : AluWidth) → class_bits w ≡ byte % 8 → (k : Option SourceKind) → find (λ s. source_bit s == byte / 8 % 2) sources ≡ k
      → Right byte (k >>= λ kind. find (λ x. operation_bits x == byte / 16) operations >>= λ x. Some (opcode.Alu w x kind))
  second w a None e = right_none byte
  second w a (Some k) e =
      let f = found_one (λ (s : SourceKind). Unit {0}) (λ s. source_bit s == byte / 8 % 2) sources (tt, (tt, tt)) k e in
      third w k a (eqb-true (source_bit k) (byte / 8 % 2) f.1) (find (λ x. operation_bits x == byte / 16) operations) refl

  first : (w : Option AluWidth) → find (λ w. class_bits w == byte % 8) widths ≡ w
      → Right byte (w >>= λ width. find (λ s. source_bit s == byte / 8 % 2) sources
      >>= λ kind. find (λ x. operation_bits x == byte / 16) operations >>= λ x. Some (opcode.Alu width x kind))
  first None e = right_none byte
  first (Some w) e =
      let f = found_one (λ (x : AluWidth). Unit {0}) (λ x. class_bits x == byte % 8) widths (tt, (tt, tt)) w e in
      second w (eqb-true (class_bits w) (byte % 8) f.1) (find (λ s. source_bit s == byte / 8 % 2) sources) refl

test_right : (byte : ℕ) → Right byte (test_opcode (byte % 8) (byte / 8 % 2) (byte / 16))
test_right byte = first (find (λ n. jump_class n == byte % 8) narrows) refl where
  third : (n : Bool) (k : SourceKind) → jump_class n ≡ byte % 8 → source_bit k ≡ byte / 8 % 2 → (o : Option Test) → find (λ t. test_bits t == byte / 16) tests ≡ o
      → Right byte (o >>= λ t. Some (opcode.Test n t k))
  third n k a b None e = right_none byte
  third n k a b (Some t) e =
      let f = found_one (λ (y : Test). Unit {0}) (λ y. test_bits y == byte / 16) tests (tt, (tt, (tt, (tt, (tt, (tt, (tt, (tt, (tt, (tt, (tt, tt))))))))))) t e in
      right_one byte (opcode.Test n t k) (operation_again byte (jump_class n) (source_bit k) (test_bits t) a b (eqb-true (test_bits t) (byte / 16) f.1), tt)

  second : (n : Bool) → jump_class n ≡ byte % 8 → (k : Option SourceKind) → find (λ s. source_bit s == byte / 8 % 2) sources ≡ k
      → Right byte (k >>= λ kind. find (λ t. test_bits t == byte / 16) tests >>= λ t. Some (opcode.Test n t kind))
  second n a None e = right_none byte
  second n a (Some k) e =
      let f = found_one (λ (s : SourceKind). Unit {0}) (λ s. source_bit s == byte / 8 % 2) sources (tt, (tt, tt)) k e in
      third n k a (eqb-true (source_bit k) (byte / 8 % 2) f.1) (find (λ t. test_bits t == byte / 16) tests) refl

  first : (n : Option Bool) → find (λ n. jump_class n == byte % 8) narrows ≡ n
      → Right byte (n >>= λ narrow. find (λ s. source_bit s == byte / 8 % 2) sources
      >>= λ kind. find (λ t. test_bits t == byte / 16) tests >>= λ t. Some (opcode.Test narrow t kind))
  first None e = right_none byte
  first (Some n) e =
      let f = found_one (λ (x : Bool). Unit {0}) (λ x. jump_class x == byte % 8) narrows (tt, (tt, tt)) n e in
      second n (eqb-true (jump_class n) (byte % 8) f.1) (find (λ s. source_bit s == byte / 8 % 2) sources) refl

-- a load or a store of a size that was found
sized_right : (byte class mode : ℕ) (make : Size → Opcode) (P : Size → Type 0) (xs : List Size) → AllByRecursion P xs → ((s : Size) → P s → IsOpcode (make s))
    → ((s : Size) → opcode_byte (make s) ≡ 32 * mode + 8 * size_bits s + class) → class ≡ byte % 8 → mode ≡ byte / 32
    → Right byte (option_map make (find (λ s. size_bits s == byte / 8 % 4) xs))
sized_right byte class mode make P xs all form bytes a b = at (find (λ s. size_bits s == byte / 8 % 4) xs) refl where
  at : (o : Option Size) → find (λ s. size_bits s == byte / 8 % 4) xs ≡ o → Right byte (option_map make o)
  at None e = right_none byte
  at (Some s) e =
      let f = found_one P (λ s. size_bits s == byte / 8 % 4) xs all s e in
      right_one byte (make s) (bytes s ∙ memory_again byte class (size_bits s) mode a (eqb-true (size_bits s) (byte / 8 % 4) f.1) b, form s f.0)

if_right : (byte : ℕ) (b : Bool) (x y : Option Opcode) → (b ≡ true → Right byte x) → Right byte y → Right byte (cond b x y)
if_right byte true x y h k = h refl
if_right byte false x y h k = k

short : (s : Size) → IsLoad s true → IsOpcode (opcode.Load s true)
short s h = h

load_right : (byte : ℕ) → 1 ≡ byte % 8 → Right byte (load_opcode (byte / 32) (byte / 8 % 4))
load_right byte a =
    if_right byte (byte / 32 == mode_bits false) _ _
    (λ e. sized_right byte 1 3 (λ s. opcode.Load s false) (λ s. Unit {0}) sizes (tt, (tt, (tt, (tt, tt)))) (λ s h. tt) (λ s. refl) a (sym (eqb-true (byte / 32) 3 e)))
    (if_right byte (byte / 32 == mode_bits true) _ _
    (λ e. sized_right byte 1 4 (λ s. opcode.Load s true) (λ s. IsLoad s true) short_sizes (tt, (tt, (tt, tt))) short (λ s. refl) a (sym (eqb-true (byte / 32) 4 e)))
    (right_none byte))

stored_right : (byte class : ℕ) (make : Size → Opcode) → ((s : Size) → IsOpcode (make s)) → ((s : Size) → opcode_byte (make s) ≡ 32 * 3 + 8 * size_bits s + class) → class ≡ byte % 8
    → Right byte (option_map make (stored_size (byte / 32) (byte / 8 % 4)))
stored_right byte class make form bytes a = at (byte / 32 == mode_bits false) refl where
  at : (b : Bool) → (byte / 32 == mode_bits false) ≡ b → Right byte (option_map make (cond b (find (λ s. size_bits s == byte / 8 % 4) sizes) None))
  at true e = sized_right byte class 3 make (λ s. Unit {0}) sizes (tt, (tt, (tt, (tt, tt)))) (λ s h. form s) bytes a (sym (eqb-true (byte / 32) 3 e))
  at false e = right_none byte

memory_right : (byte : ℕ) → Right byte (memory_opcode (byte % 8) (byte / 32) (byte / 8 % 4))
memory_right byte =
    if_right byte (byte % 8 == 1) _ _ (λ e. load_right byte (sym (eqb-true (byte % 8) 1 e)))
    (if_right byte (byte % 8 == 2) _ _ (λ e. stored_right byte 2 (λ s. opcode.StoreImm s) (λ s. tt) (λ s. refl) (sym (eqb-true (byte % 8) 2 e)))
    (if_right byte (byte % 8 == 3) _ _ (λ e. stored_right byte 3 (λ s. opcode.Store s) (λ s. tt) (λ s. refl) (sym (eqb-true (byte % 8) 3 e)))
    (right_none byte)))

-- a byte's opcode has that byte
pub opcode_right_of : (byte : ℕ) (o : Opcode) → opcode_of byte ≡ Some o → (opcode_byte o ≡ byte) × IsOpcode o
opcode_right_of byte =
    right_or byte (find (λ o. opcode_byte o == byte) single_opcodes) _ (single_right byte)
    (right_or byte (alu_opcode (byte % 8) (byte / 8 % 2) (byte / 16)) _ (alu_right byte)
    (right_or byte (test_opcode (byte % 8) (byte / 8 % 2) (byte / 16)) (memory_opcode (byte % 8) (byte / 32) (byte / 8 % 4)) (test_right byte) (memory_right byte)))

-- ---- a slot without a fault is read

abbrev reg : (n : ℕ) → n ≤ 10 → Reg
reg n h = record { number = n; in_range = h }

not_above : (n : ℕ) → nat_lt 10 n ≡ false → n ≤ 10
not_above n h = elim (cases_lt 10 n) [
  | inl above ↦ absurd (true≢false (sym (lt-ltb 10 n above) ∙ h))
  | inr below ↦ below
]

-- the first test of a chain fails, and the rest has no fault
opened : (b : Bool) (f : DecodeFault) (rest : Option DecodeFault) → cond b (Some f) rest ≡ None → (b ≡ false) × (rest ≡ None)
opened true f rest e = absurd cc
opened false f rest e = (refl, e)

there_is : {A : Type 0} (o : Option A) → not (is_some o) ≡ false → (x : A) × (o ≡ Some x)
there_is None h = absurd cc
there_is (Some x) h = (x, refl)

-- the variants of an operation are of it, and have the offset 0 where offsets have no use
abbrev IsVariant : Operation → AluOp → Type 0
IsVariant o v = (operation_of v ≡ o) × (uses_offset o ≡ false → offset_of v ≡ pos 0)

all_variants : (o : Operation) → AllByRecursion (IsVariant o) (variants o)
all_variants Div = ((refl, λ _. refl), ((refl, λ e. absurd cc), tt))
all_variants Mod = ((refl, λ _. refl), ((refl, λ e. absurd cc), tt))
all_variants Mov = ((refl, λ _. refl), ((refl, λ e. absurd cc), ((refl, λ e. absurd cc), ((refl, λ e. absurd cc), tt))))
all_variants _ = ((refl, λ _. refl), tt)

-- what holds of a variant that was found
record IsFound (w : AluWidth) (o : Operation) (k : SourceKind) (z : ℤ) (v : AluOp) : Type 0 where
  same : operation_of v ≡ o
  form : has_form w v k ≡ true
  used : uses_offset o ≡ true → offset_of v ≡ z
  unused : uses_offset o ≡ false → offset_of v ≡ pos 0

found_variant : (w : AluWidth) (o : Operation) (k : SourceKind) (z : ℤ) (v : AluOp) → variant_of w o k z ≡ Some v → IsFound w o k z v
found_variant w o k z v e =
    let f = found_one (IsVariant o) (λ x. (not (uses_offset o) || int_eq (offset_of x) z) && has_form w x k) (variants o) (all_variants o) v e in
    let p = and_parts (not (uses_offset o) || int_eq (offset_of v) z) (has_form w v k) f.1 in
    record { same = f.0.0; form = p.1; used = λ u. at (uses_offset o) u p.0; unused = f.0.1 } where
      at : (u : Bool) → u ≡ true → (not u || int_eq (offset_of v) z) ≡ true → offset_of v ≡ z
      at true t h = (Decides-int_eq (offset_of v) z).0 h
      at false t h = absurd (false≢true t)

low_half : (a b : ℕ) → a < 2 ^ 32 → (a + 2 ^ 32 * b) % 2 ^ 32 ≡ a
low_half a b h = omega arith

high_half : (a b : ℕ) → a < 2 ^ 32 → (a + 2 ^ 32 * b) / 2 ^ 32 ≡ b
high_half a b h = omega arith

module _ (s : Slot) (b : Option Slot) (fits : IsSlot s) (behind : (half : Slot) → b ≡ Some half → IsSlot half) (dst : s.dst ≤ 10) (src : s.src ≤ 10) where
  abbrev Readable : Type 0
  Readable = (x : Insn) × Reads s b x

  whole : (x : Insn) → IsInsn x → first_slot x ≡ s → other_slots x ≡ [] → Reads s b x
  whole x in_range first none = record { in_range = in_range; first = first; others = ap (λ (os : List Slot). take (length os) (slot_list b)) none ∙ sym none }

  alu_k : (w : AluWidth) (o : Operation) → s.opcode ≡ opcode_byte (opcode.Alu w o K) → not (is_some (variant_of w o K s.offset)) ≡ false → has_stray_field (opcode.Alu w o K) s b ≡ false → Readable
  alu_k w o code there stray =
      let v = there_is (variant_of w o K s.offset) there in
      let f = found_variant w o K s.offset v.0 v.1 in
      (insn.Alu w v.0 (reg s.dst dst) (source.Imm s.imm), alu_imm_read s b s.imm w o v.0 (reg s.dst dst) fits refl code refl f.same f.form f.used f.unused stray)

  alu_x : (w : AluWidth) (o : Operation) → s.opcode ≡ opcode_byte (opcode.Alu w o X) → not (is_some (variant_of w o X s.offset)) ≡ false → has_stray_field (opcode.Alu w o X) s b ≡ false → Readable
  alu_x w o code there stray =
      let v = there_is (variant_of w o X s.offset) there in
      let f = found_variant w o X s.offset v.0 v.1 in
      (insn.Alu w v.0 (reg s.dst dst) (source.Reg (reg s.src src)), alu_reg_read s b w o v.0 (reg s.dst dst) (reg s.src src) code refl refl f.same f.form f.used f.unused stray)

  swapped : (kind : SwapKind) → s.opcode ≡ opcode_byte (opcode.Swap kind) → not (is_some (swap_width s.imm)) ≡ false → has_stray_field (opcode.Swap kind) s b ≡ false → Readable
  swapped kind code there stray =
      let w = there_is (swap_width s.imm) there in
      let f = found_one (λ (x : Width). Unit {0}) (λ x. int_eq (pos (swap_bits x)) s.imm) swap_widths (tt, (tt, (tt, tt))) w.0 w.1 in
      let p = or_false (not (s.src == 0)) (is_not_zero s.offset) stray in (
        insn.Swap kind w.0 (reg s.dst dst),
        whole (insn.Swap kind w.0 (reg s.dst dst)) tt
            (slot_is (opcode.Swap kind) (opcode.Swap kind) s s.dst 0 (pos 0) (pos (swap_bits w.0)) code refl refl (sym (zero_is s.src p.0)) (sym (zero_int s.offset p.1)) ((Decides-int_eq (pos (swap_bits w.0)) s.imm).0 f.1)) refl,
      )

  wide : (half : Slot) → b ≡ Some half → s.opcode ≡ opcode_byte opcode.LoadImm → has_stray_field opcode.LoadImm s (Some half) ≡ false → Readable
  wide half is code stray =
      let p = or_false (not (s.src == 0) || is_not_zero s.offset) (is_stray_half (Some half)) stray in
      let q = or_false (not (s.src == 0)) (is_not_zero s.offset) p.0 in
      let h = or_false (not (half.opcode == 0) || not (half.dst == 0) || not (half.src == 0)) (is_not_zero half.offset) p.1 in
      let i = or_false (not (half.opcode == 0) || not (half.dst == 0)) (not (half.src == 0)) h.0 in
      let j = or_false (not (half.opcode == 0)) (not (half.dst == 0)) i.0 in
      let low : ℕ = cast_unsigned w32 s.imm in
      let high : ℕ = cast_unsigned w32 half.imm in
      let value : ℕ = low + 2 ^ 32 * high in
      let gs = Fits-of_z fits.imm in
      let gh = Fits-of_z ((behind half is).imm) in
      let low_small : low < 2 ^ 32 = omega arith in
      let high_small : high < 2 ^ 32 = omega arith in
      let first_imm : signed_32 (value % 2 ^ 32) ≡ s.imm = ap signed_32 (low_half low high low_small) ∙ to_z-of_z w32 s.imm fits.imm in
      let second_imm : signed_32 (value / 2 ^ 32) ≡ half.imm = ap signed_32 (high_half low high low_small) ∙ to_z-of_z w32 half.imm ((behind half is).imm) in
      let half_is : half ≡ half_slot (signed_32 (value / 2 ^ 32)) = same_half half (zero_is half.opcode j.0) (zero_is half.dst j.1) (zero_is half.src i.1) (zero_int half.offset h.1) (signed_32 (value / 2 ^ 32)) (sym second_imm) in (
        insn.LoadImm (reg s.dst dst) value,
        record {
          in_range = small low high low_small high_small;
          first = slot_is opcode.LoadImm opcode.LoadImm s s.dst 0 (pos 0) (signed_32 (value % 2 ^ 32)) code refl refl (sym (zero_is s.src q.0)) (sym (zero_int s.offset q.1)) first_imm;
          others = ap (λ (o : Option Slot). take 1 (slot_list o)) is ∙ ap (λ (x : Slot). x ∷ []) half_is;
        },
      ) where
        small : (x y : ℕ) → x < 2 ^ 32 → y < 2 ^ 32 → x + 2 ^ 32 * y < 2 ^ 64
        small x y h k = omega arith

        same_half : (t : Slot) → t.opcode ≡ 0 → t.dst ≡ 0 → t.src ≡ 0 → t.offset ≡ pos 0 → (z : ℤ) → t.imm ≡ z → t ≡ half_slot z
        same_half t a d r o z e = λ k. record { opcode = a k; dst = d k; src = r k; offset = o k; imm = e k }

  called : s.opcode ≡ opcode_byte opcode.Call → has_stray_field opcode.Call s b ≡ false → Readable
  called code stray =
      let p = or_false (not (s.dst == 0) || nat_lt 1 s.src) (is_not_zero s.offset) stray in
      let q = or_false (not (s.dst == 0)) (nat_lt 1 s.src) p.0 in
      which s.src refl q.1 (zero_is s.dst q.0) (zero_int s.offset p.1) where
        which : (n : ℕ) → s.src ≡ n → nat_lt 1 n ≡ false → s.dst ≡ 0 → s.offset ≡ pos 0 → Readable
        which zero same few d o = (insn.CallHelper s.imm, whole (insn.CallHelper s.imm) fits.imm (slot_is opcode.Call opcode.Call s 0 0 (pos 0) s.imm code refl (sym d) (sym same) (sym o) refl) refl)
        which (suc zero) same few d o = (insn.CallLocal s.imm, whole (insn.CallLocal s.imm) fits.imm (slot_is opcode.Call opcode.Call s 0 1 (pos 0) s.imm code refl (sym d) (sym same) (sym o) refl) refl)
        which (suc (suc n)) same few d o = absurd (true≢false (sym (lt-ltb 1 (suc (suc n)) (omega arith)) ∙ few))

  form_read : (o : Opcode) → s.opcode ≡ opcode_byte o → IsOpcode o → is_truncated o b ≡ false → has_bad_width o s ≡ false → has_bad_offset o s ≡ false → has_stray_field o s b ≡ false → Readable
  form_read (opcode.Alu w o K) code form cut width offset stray = alu_k w o code offset stray
  form_read (opcode.Alu w o X) code form cut width offset stray = alu_x w o code offset stray
  form_read (opcode.Swap kind) code form cut width offset stray = swapped kind code width stray
  form_read opcode.LoadImm code form cut width offset stray =
      let h = there_is b cut in
      wide h.0 h.1 code (subst (λ (o : Option Slot). has_stray_field opcode.LoadImm s o ≡ false) h.1 stray)
  form_read (opcode.Load size signed) code form cut width offset stray = (
    insn.Load size signed (reg s.dst dst) (reg s.src src) s.offset,
    whole (insn.Load size signed (reg s.dst dst) (reg s.src src) s.offset) (form, fits.offset)
        (slot_is (opcode.Load size signed) (opcode.Load size signed) s s.dst s.src s.offset (pos 0) code refl refl refl refl (sym (zero_int s.imm stray))) refl,
  )
  form_read (opcode.StoreImm size) code form cut width offset stray = (
    insn.StoreImm size (reg s.dst dst) s.offset s.imm,
    whole (insn.StoreImm size (reg s.dst dst) s.offset s.imm) (fits.offset, fits.imm)
        (slot_is (opcode.StoreImm size) (opcode.StoreImm size) s s.dst 0 s.offset s.imm code refl refl (sym (zero_is s.src stray)) refl refl) refl,
  )
  form_read (opcode.Store size) code form cut width offset stray = (
    insn.Store size (reg s.dst dst) s.offset (reg s.src src),
    whole (insn.Store size (reg s.dst dst) s.offset (reg s.src src)) fits.offset
        (slot_is (opcode.Store size) (opcode.Store size) s s.dst s.src s.offset (pos 0) code refl refl refl refl (sym (zero_int s.imm stray))) refl,
  )
  form_read opcode.Jump code form cut width offset stray =
      let p = or_false (not (s.dst == 0) || not (s.src == 0)) (is_not_zero s.imm) stray in
      let q = or_false (not (s.dst == 0)) (not (s.src == 0)) p.0 in (
        insn.Jump s.offset,
        whole (insn.Jump s.offset) fits.offset
            (slot_is opcode.Jump opcode.Jump s 0 0 s.offset (pos 0) code refl (sym (zero_is s.dst q.0)) (sym (zero_is s.src q.1)) refl (sym (zero_int s.imm p.1))) refl,
      )
  form_read opcode.JumpLong code form cut width offset stray =
      let p = or_false (not (s.dst == 0) || not (s.src == 0)) (is_not_zero s.offset) stray in
      let q = or_false (not (s.dst == 0)) (not (s.src == 0)) p.0 in (
        insn.JumpLong s.imm,
        whole (insn.JumpLong s.imm) fits.imm
            (slot_is opcode.JumpLong opcode.JumpLong s 0 0 (pos 0) s.imm code refl (sym (zero_is s.dst q.0)) (sym (zero_is s.src q.1)) (sym (zero_int s.offset p.1)) refl) refl,
      )
  form_read (opcode.Test narrow test K) code form cut width offset stray = (
    insn.Test narrow test (reg s.dst dst) (source.Imm s.imm) s.offset,
    whole (insn.Test narrow test (reg s.dst dst) (source.Imm s.imm) s.offset) (fits.imm, fits.offset)
        (slot_is (opcode.Test narrow test K) (opcode.Test narrow test K) s s.dst 0 s.offset s.imm code refl refl (sym (zero_is s.src stray)) refl refl) refl,
  )
  form_read (opcode.Test narrow test X) code form cut width offset stray = (
    insn.Test narrow test (reg s.dst dst) (source.Reg (reg s.src src)) s.offset,
    whole (insn.Test narrow test (reg s.dst dst) (source.Reg (reg s.src src)) s.offset) fits.offset
        (slot_is (opcode.Test narrow test X) (opcode.Test narrow test X) s s.dst s.src s.offset (pos 0) code refl refl refl refl (sym (zero_int s.imm stray))) refl,
  )
  form_read opcode.Call code form cut width offset stray = called code stray
  form_read opcode.Exit code form cut width offset stray =
      let p = or_false (not (s.dst == 0) || not (s.src == 0) || is_not_zero s.offset) (is_not_zero s.imm) stray in
      let q = or_false (not (s.dst == 0) || not (s.src == 0)) (is_not_zero s.offset) p.0 in
      let r = or_false (not (s.dst == 0)) (not (s.src == 0)) q.0 in
      (insn.Exit, whole insn.Exit tt (slot_is opcode.Exit opcode.Exit s 0 0 (pos 0) (pos 0) code refl (sym (zero_is s.dst r.0)) (sym (zero_is s.src r.1)) (sym (zero_int s.offset q.1)) (sym (zero_int s.imm p.1))) refl)

-- a slot without a fault is the first of an instruction's
pub slot_read_of : (s : Slot) (b : Option Slot) → IsSlot s → ((half : Slot) → b ≡ Some half → IsSlot half) → slot_fault s b ≡ None → (x : Insn) × Reads s b x
slot_read_of s b fits behind none = known (opcode_of s.opcode) refl none where
  known : (o : Option Opcode) → opcode_of s.opcode ≡ o → fault_of o s b ≡ None → (x : Insn) × Reads s b x
  known None e h = absurd cc
  known (Some o) e h =
      let right = opcode_right_of s.opcode o e in
      let a = opened (nat_lt 10 s.dst || nat_lt 10 s.src) BadRegister (form_fault o s b) h in
      let r = or_false (nat_lt 10 s.dst) (nat_lt 10 s.src) a.0 in
      let cut = opened (is_truncated o b) TruncatedWide (cond (has_bad_width o s) (Some BadWidth) (cond (has_bad_offset o s) (Some BadOffset) (cond (has_stray_field o s b) (Some FieldNotZero) None))) a.1 in
      let width = opened (has_bad_width o s) BadWidth (cond (has_bad_offset o s) (Some BadOffset) (cond (has_stray_field o s b) (Some FieldNotZero) None)) cut.1 in
      let offset = opened (has_bad_offset o s) BadOffset (cond (has_stray_field o s b) (Some FieldNotZero) None) width.1 in
      let stray = opened (has_stray_field o s b) FieldNotZero None offset.1 in
      form_read s b fits behind (not_above s.dst r.0) (not_above s.src r.1) o (sym right.0) right.1 cut.0 width.0 offset.0 stray.0

-- ---- bytes by slots

abbrev pub AreBytes : List ℕ → Type 0
AreBytes bytes = (i : ℕ) → get_or bytes i 0 < 256

-- 8 bytes are those of a slot
slot_of : (x : List ℕ) → length x ≡ 8 → AreBytes x → (s : Slot) × IsSlot s × (x ≡ slot_bytes s)
slot_of x long small =
    let b0 = small 0 in
    let b1 = small 1 in
    let b2 = small 2 in
    let b3 = small 3 in
    let b4 = small 4 in
    let b5 = small 5 in
    let b6 = small 6 in
    let b7 = small 7 in
    let m : ℕ = get_or x 2 0 + get_or x 3 0 * 256 in
    let n : ℕ = ((get_or x 4 0 + get_or x 5 0 * 256) + get_or x 6 0 * 65536) + get_or x 7 0 * 16777216 in
    let m_small : m < 2 ^ 16 = omega arith in
    let n_small : n < 2 ^ 32 = omega arith in
    let low : bit_and (get_or x 1 0) 15 ≡ get_or x 1 0 % 16 = and_mask (get_or x 1 0) 4 in
    let s : Slot = record { opcode = get_or x 0 0; dst = bit_and (get_or x 1 0) 15; src = get_or x 1 0 / 16; offset = cast_signed w16 m; imm = cast_signed w32 n } in (
      s,
      record {
        opcode = omega arith;
        dst = omega (arith, low);
        src = omega arith;
        offset = sfits_to_z (Fits-of_lt m_small);
        imm = sfits_to_z (Fits-of_lt n_small);
      },
      sym (slot_read x (cast_unsigned w16 (cast_signed w16 m)) (cast_unsigned w32 (cast_signed w32 n)) long small (of_z-to_z w16 m m_small) (of_z-to_z w32 n n_small)),
    )

module _ (bytes : List ℕ) (small : AreBytes bytes) (many : ℕ) (whole : length bytes ≡ 8 * many) where
  pub slot_at : (k : ℕ) → k < many → (s : Slot) × IsAt bytes k s
  slot_at k h =
      let x : List ℕ = take 8 (drop (8 * k) bytes) in
      let long : length x ≡ 8 = length-take-le 8 (drop (8 * k) bytes) (omega (arith, length-drop (8 * k) bytes, whole, h)) in
      let w = slot_of x long (each x refl) in
      (w.0, record { fits = w.1; encoded = w.2 }) where
        each : (x : List ℕ) → x ≡ take 8 (drop (8 * k) bytes) → AreBytes x
        each x is i = elim (cases_lt i 8) [
          | inl below ↦ subst (λ (n : ℕ). n < 256) (sym (ap (λ (y : List ℕ). get_or y i 0) is ∙ get_or-take 8 (drop (8 * k) bytes) i 0 below ∙ get_or-drop (8 * k) bytes i 0)) (small (8 * k + i))
          | inr above ↦ subst (λ (n : ℕ). n < 256) (sym (beyond x i (ap length is ∙ length-take-le 8 (drop (8 * k) bytes) (omega (arith, length-drop (8 * k) bytes, whole, h))) above)) (omega arith)
        ] where
          beyond : (x : List ℕ) (i : ℕ) → length x ≡ 8 → 8 ≤ i → get_or x i 0 ≡ 0
          beyond x i long h = get_or_past x i 0 (omega (arith, long, h))

  pub behind_at : (k : ℕ) → k < many → (b : Option Slot) × IsBehind bytes k b × ((half : Slot) → b ≡ Some half → IsSlot half × (suc k < many))
  behind_at k h = elim (cases_lt (suc k) many) [
    | inl more ↦ let w = slot_at (suc k) more in (Some w.0, w.1, λ half e. (subst IsSlot (some_same w.0 half e) w.1.fits, more))
    | inr last ↦ (None, omega (arith, whole, h, last), λ half e. absurd (never half e))
  ] where
    never : (half : Slot) → None ≡ Some half → ⊥
    never half e = cc

module _ (bytes : List ℕ) (small : AreBytes bytes) (none : length_fault (length bytes) ≡ None) (many : ℕ) (whole : length bytes ≡ 8 * many) where
  abbrev Verdict : Type 0
  Verdict = ((code : List Insn) × IsCode bytes code) ⊎ ((fault : DecodeFault) × (slot : ℕ) × IsRefused bytes fault slot)

  -- an instruction's slots lie within the bytes
  slots_within : (k : ℕ) (os : List Slot) (b : Option Slot) → k < many → take (length os) (slot_list b) ≡ os → ((half : Slot) → b ≡ Some half → IsSlot half × (suc k < many)) → k + suc (length os) ≤ many
  slots_within k [] b more others halves = omega (arith, more)
  slots_within k (o ∷ os) None more others halves = absurd cc
  slots_within k (o ∷ []) (Some half) more others halves = let two = (halves half refl).1 in omega (arith, two)
  slots_within k (o ∷ p ∷ os) (Some half) more others halves = absurd cc

  -- what is read up to a slot
  record Read (k : ℕ) (before : List Insn) : Type 0 where
    within : k ≤ many
    in_range : AllByRecursion IsInsn before
    encoded : take (8 * k) bytes ≡ encoding before

  finished : (k : ℕ) (before : List Insn) → many ≤ k → Read k before → Verdict
  finished k before done r =
      let within = r.within in
      let all : take (8 * k) bytes ≡ bytes = ap (λ (n : ℕ). take n bytes) (omega (arith, whole, within, done)) ∙ take-length bytes in
      inl (before, record { encoded = sym all ∙ r.encoded; in_range = r.in_range; length_is = none })

  -- one instruction more, or the first fault
  step : (k : ℕ) (before : List Insn) → k < many → Read k before → ((next : ℕ) (read : List Insn) → k < next → Read next read → Verdict) → Verdict
  step k before more r rest = judged (slot_at bytes small many whole k more) (behind_at bytes small many whole k more) where
    judged : (s : (s : Slot) × IsAt bytes k s) (b : (b : Option Slot) × IsBehind bytes k b × ((half : Slot) → b ≡ Some half → IsSlot half × (suc k < many))) → Verdict
    judged (s, at) (b, behind, halves) = with_fault (slot_fault s b) refl where
      with_fault : (f : Option DecodeFault) → slot_fault s b ≡ f → Verdict
      with_fault (Some fault) e =
          inr (fault, k, inr (none, record { before = before; in_range = r.in_range; encoded = r.encoded; faulty = record { slot = s; behind = b; is_at = at; is_behind = behind; fault_is = e } }))
      with_fault None e =
          let x = slot_read_of s b at.fits (λ half is. (halves half is).0) e in
          let encodes = read_encodes bytes k s b x.0 at behind x.1 in
          rest (k + length (insn_slots x.0)) (before ++ x.0 ∷ []) (omega arith)
          (record {
            within = slots_within k (other_slots x.0) b more x.1.others halves;
            in_range = fit_more before x.0 r.in_range encodes.1;
            encoded = encoded_more bytes k before x.0 r.encoded encodes;
          })

  go_on : (left k : ℕ) (before : List Insn) → many ≤ k + left → Read k before → Verdict
  go_on zero k before enough r = finished k before (omega (arith, enough)) r
  go_on (suc left) k before enough r = elim (cases_lt k many) [
    | inl more ↦ step k before more r (λ next read later r'. go_on left next read (omega (arith, enough, later)) r')
    | inr done ↦ finished k before done r
  ]

  decided_from_start : Verdict
  decided_from_start = go_on many 0 [] (omega arith) (record { within = omega arith; in_range = tt; encoded = refl })

-- all bytes are code or refused
pub bytes_decided : (bytes : List ℕ) → AreBytes bytes → ((code : List Insn) × IsCode bytes code) ⊎ ((fault : DecodeFault) × (slot : ℕ) × IsRefused bytes fault slot)
bytes_decided bytes small = by_length (length_fault (length bytes)) refl where
  by_length : (f : Option DecodeFault) → length_fault (length bytes) ≡ f → ((code : List Insn) × IsCode bytes code) ⊎ ((fault : DecodeFault) × (slot : ℕ) × IsRefused bytes fault slot)
  by_length (Some fault) e = inr (fault, 0, inl (e, refl))
  by_length None e = decided_from_start bytes small e (length bytes / 8) (whole_slots (length bytes) e) where
    whole_slots : (n : ℕ) → length_fault n ≡ None → n ≡ 8 * (n / 8)
    whole_slots n e = split (n == 0) (n % 8 == 0) refl e where
      split : (a b : Bool) → (n % 8 == 0) ≡ b → cond a (Some Empty) (cond (not b) (Some NotSlots) (cond (nat_lt (8 * 1024) n) (Some TooLong) None)) ≡ None → n ≡ 8 * (n / 8)
      split true b f e = absurd cc
      split false false f e = absurd cc
      split false true f e = let zero_rest = eqb-true (n % 8) 0 f in omega arith
