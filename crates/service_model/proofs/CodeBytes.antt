-- The encoding of instructions is a list of bytes.
use Rattle.std.proofs.Common.{ℕ, zero, suc, ◌+◌, ◌*◌, ◌^◌, ◌/◌, ◌<◌, List, [], ◌∷◌, ◌++◌, sym, subst, arith}
use Rattle.std.specs.Prelude.{All}
use Rattle.std.specs.List.{AllByRecursion, flat_map}
use Rattle.std.specs.Int.{byte_at, bytes_low_first, byte_len, cast_unsigned, w16, w32}
use Rattle.std.proofs.lemmas.Nat.{mod_below}
use Rattle.std.proofs.lemmas.List.Concat.{flat_map-cons}
use Rattle.std.proofs.lemmas.List.Elements.{All-cons, All-head, All-tail, All-nil}
use Rattle.bpf_model.specs.Insn.{Insn}
use Rattle.bpf_model.specs.Insn.TheVariants.{Alu, Swap, LoadImm, Load, StoreImm, Store, Jump, JumpLong, Test, CallHelper, CallLocal, Exit}
use Rattle.bpf_model.specs.Slot.{Slot}
use Rattle.bpf_model.specs.Encoding.{IsInsn, other_slots, insn_slots, slot_bytes}
use Rattle.bpf_model.specs.Verdict.{IsCode}
use Rattle.bpf_model.proofs.Encodings.{IsSlot-first}

abbrev AreBytes : List ℕ → Type 0
AreBytes bytes = All (λ byte. byte < 256) bytes

byte_small : (i n : ℕ) → byte_at i n < 256
byte_small zero n = omega arith
byte_small (suc i) n = mod_below (n / 256 ^ suc i) 256 (omega arith)

low_bytes : (i k n : ℕ) → AreBytes (bytes_low_first i k n)
low_bytes i zero n = All-nil (λ byte. byte < 256)
low_bytes i (suc k) n = All-cons (λ byte. byte < 256) (byte_at i n) (bytes_low_first (suc i) k n) (byte_small i n) (low_bytes (suc i) k n)

one_after : (xs ys : List ℕ) → AreBytes xs → AreBytes ys → AreBytes (xs ++ ys)
one_after [] ys all more = more
one_after (x ∷ xs) ys all more = All-cons (λ byte. byte < 256) x (xs ++ ys) (All-head (λ byte. byte < 256) x xs all) (one_after xs ys (All-tail (λ byte. byte < 256) x xs all) more)

-- ---- slots

record IsSmall (slot : Slot) : Type 0 where
  opcode : slot.opcode < 256
  dst : slot.dst < 16
  src : slot.src < 16

slot_small : (s : Slot) → IsSmall s → AreBytes (slot_bytes s)
slot_small s small =
    let dst = small.dst in
    let src = small.src in
    let offset = bytes_low_first 0 (byte_len w16) (cast_unsigned w16 s.offset) in
    let imm = bytes_low_first 0 (byte_len w32) (cast_unsigned w32 s.imm) in
    All-cons (λ byte. byte < 256) s.opcode ((s.dst + 16 * s.src) ∷ (offset ++ imm)) small.opcode
    (All-cons (λ byte. byte < 256) (s.dst + 16 * s.src) (offset ++ imm) (omega arith) (one_after offset imm (low_bytes 0 (byte_len w16) (cast_unsigned w16 s.offset)) (low_bytes 0 (byte_len w32) (cast_unsigned w32 s.imm))))

others_small : (x : Insn) → AllByRecursion IsSmall (other_slots x)
others_small (LoadImm dst value) = (record { opcode = omega arith; dst = omega arith; src = omega arith }, tt)
others_small _ = tt

appended : (ss ts : List Slot) → AllByRecursion IsSmall ss → AllByRecursion IsSmall ts → AllByRecursion IsSmall (ss ++ ts)
appended [] ts h k = k
appended (s ∷ ss) ts h k = (h.0, appended ss ts h.1 k)

slots_small : (code : List Insn) → AllByRecursion IsInsn code → AllByRecursion IsSmall (flat_map insn_slots code)
slots_small [] all = tt
slots_small (x ∷ xs) all =
    let first = IsSlot-first x all.0 in
    subst (AllByRecursion IsSmall) (sym (flat_map-cons insn_slots x xs))
    (record { opcode = first.opcode; dst = first.dst; src = first.src }, appended (other_slots x) (flat_map insn_slots xs) (others_small x) (slots_small xs all.1))

bytes_small : (ss : List Slot) → AllByRecursion IsSmall ss → AreBytes (flat_map slot_bytes ss)
bytes_small [] all = All-nil (λ byte. byte < 256)
bytes_small (s ∷ ss) all = subst AreBytes (sym (flat_map-cons slot_bytes s ss)) (one_after (slot_bytes s) (flat_map slot_bytes ss) (slot_small s all.0) (bytes_small ss all.1))

pub code_is_bytes : (bytes : List ℕ) (code : List Insn) → IsCode bytes code → AreBytes bytes
code_is_bytes bytes code is = subst AreBytes (sym is.encoded) (bytes_small (flat_map insn_slots code) (slots_small code is.in_range))
