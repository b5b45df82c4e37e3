-- A state that is sharper than another one passes the checks that the other passes, and stays so over an instruction.
use Rattle.std.proofs.Common.{◌≡◌, ℕ, zero, suc, ◌+◌, ◌^◌, ◌<◌, ◌≤◌, Bool, true, false, ◌&&◌, not, cond, eqb, leb, List, [], ◌∷◌, ◌++◌, Option, Some, None, ℤ, refl, sym, ap, subst, arith, inl, inr}
use Rattle.std.specs.Int.{w64, cast_unsigned}
use Rattle.std.specs.List.{list_all}
use Rattle.std.specs.Option.{is_some, option_map}
use Rattle.std.proofs.lemmas.Bool.{leb-true, eqb-true, eq-eqb, le-leb, and_parts, and_from, or_cases, or_left, or_right}
use Rattle.bpf_decode.specs.declared.insn.Insn.{Insn}
use Rattle.bpf_decode.specs.declared.insn.Insn.TheVariants.{Alu, Swap, LoadImm, Load, StoreImm, Store, CallHelper}
use Rattle.bpf_decode.specs.Encoding.{IsInsn}
use Rattle.reg_ranges.specs.Ranges.{Range, single, swap_range_of}
use Rattle.bpf_model.specs.declared.fault.VerifyFault.TheVariants.{UninitRegister, BadAccess, UninitBytes, CallDepth}
use Rattle.bpf_model.specs.Access.{bytes_of}
use Rattle.bpf_model.specs.Machine.{frames, arguments_start}
use Rattle.bpf_model.specs.Words.{stored_range}
use Rattle.bpf_model.specs.AbstractState.{AbstractState, has_operands, operands, all_initialized, extent, in_bounds, is_initialized, address_range, max_size, check_sized, access_in_bounds, access_initialized, all_in_bounds, are_initialized, helper_reads, helper_writes, helper_max_answer, has_accesses, has_bytes, alu_range, range_after_load, range_or_full, after_insn}
use Rattle.bpf_model.specs.Verdict.{calls_local, insn_dataflow_fault}
use Rattle.map_helpers.specs.declared.helper.Access.{Access}
use Rattle.map_helpers.specs.declared.helper.Extent.{Extent}
use Rattle.map_helpers.specs.declared.helper.Extent.TheVariants.{Fixed, Second}
use Rattle.map_helpers.specs.Helpers.{helper_of}
use Rattle.bpf_model.proofs.Options.{map_some, no_fault_of_four}
use Rattle.bpf_model.proofs.Memories.{initialized_each, in_bounds_cases, in_bounds_from}
use Rattle.bpf_model.proofs.Soundness.{IsWellFormed, alu_imm, small_64, offset_64}
use Rattle.verifier_laws.proofs.Ranges.{swap_within}
use Rattle.verifier_laws.proofs.Unfollowed.{FollowsNone}
use Rattle.verifier_laws.proofs.States.{SaysMore, IsSharper, says_itself, says_one, with_range_sharper, address_more, alu_more, swap_more, load_within, store_sharper, stored_within, register_within, helper_sharper}

-- ---- one access

more_some : (o u : Option Range) → SaysMore o u → is_some u ≡ true → is_some o ≡ true
more_some o None more e = absurd cc
more_some o (Some x) more e = let y = more x refl in ap (λ (v : Option Range). is_some v) y.1

in_bounds_more : (d : ℕ) (o u : Option Range) (k n : ℕ) → SaysMore o u → k ≤ n → in_bounds d u n ≡ true → in_bounds d o k ≡ true
in_bounds_more d o None k n more less e = absurd cc
in_bounds_more d o (Some x) k n more less e =
    let y = more x refl in
    let within = y.2 in
    subst (λ (v : Option Range). in_bounds d v k ≡ true) (sym y.1) (in_bounds_from d y.0.lo (extent y.0 k) (elim (in_bounds_cases d x.lo (extent x n) e) [
      | inl (f, g) ↦ inl (omega arith, omega arith)
      | inr (f, g) ↦ inr (omega arith, omega arith)
    ]))

all_from : (f : ℕ → Bool) (a n : ℕ) → ((k : ℕ) → a ≤ k → k < a + n → f k ≡ true) → all_initialized f a n ≡ true
all_from f a zero each = refl
all_from f a (suc n) each =
    and_from (f a) (all_initialized f (a + 1) n) (each a (omega arith) (omega arith)) (all_from f (a + 1) n (λ k low high. each k (omega arith) (omega arith)))

initialized_more : (f g : ℕ → Bool) (o u : Option Range) (k n : ℕ) → ((address : ℕ) → g address ≡ true → f address ≡ true) → SaysMore o u → k ≤ n → is_initialized g u n ≡ true → is_initialized f o k ≡ true
initialized_more f g o None k n all more less e = absurd cc
initialized_more f g o (Some x) k n all more less e =
    let y = more x refl in
    let within = y.2 in
    subst (λ (v : Option Range). is_initialized f v k ≡ true) (sym y.1) (elim (or_cases (leb arguments_start x.lo) (all_initialized g x.lo (extent x n)) e) [
      | inl far ↦
          let start = leb-true arguments_start x.lo far in
          or_left (leb arguments_start y.0.lo) (all_initialized f y.0.lo (extent y.0 k)) (le-leb arguments_start y.0.lo (omega arith))
      | inr near ↦
          or_right (leb arguments_start y.0.lo) (all_initialized f y.0.lo (extent y.0 k)) (all_from f y.0.lo (extent y.0 k) (λ a low high. all a (initialized_each g x.lo (extent x n) near a (omega arith) (omega arith))))
    ])

-- ---- accesses of helpers

all_more : {X : Type 0} (q r : X → Bool) (xs : List X) → ((x : X) → q x ≡ true → r x ≡ true) → list_all q xs ≡ true → list_all r xs ≡ true
all_more q r [] each e = e
all_more q r (x ∷ xs) each e =
    let both = and_parts (q x) (list_all q xs) e in
    and_from (r x) (list_all r xs) (each x both.0) (all_more q r xs each both.1)

-- a size that is known, and isn't above the other
abbrev IsNoMore : Option ℕ → Option ℕ → Type 0
IsNoMore o u = (n : ℕ) → u ≡ Some n → (k : ℕ) × (o ≡ Some k) × (k ≤ n)

sized_more : (q r : ℕ → Bool) (o u : Option ℕ) → IsNoMore o u → ((k n : ℕ) → k ≤ n → q n ≡ true → r k ≡ true) → check_sized q u ≡ true → check_sized r o ≡ true
sized_more q r o None no_more each e = absurd cc
sized_more q r o (Some n) no_more each e =
    let size = no_more n refl in
    subst (λ (v : Option ℕ). check_sized r v ≡ true) (sym size.1) (elim (or_cases (eqb n 0) (q n) e) [
      | inl f ↦
          let none = eqb-true n 0 f in
          let less = size.2 in
          or_left (eqb size.0 0) (r size.0) (eq-eqb size.0 0 (omega arith))
      | inr f ↦ or_right (eqb size.0 0) (r size.0) (each size.0 n size.2 f)
    ])

-- ---- an instruction

no_fault_from : {X : Type 0} (a b c d : Bool) (m n k l : X) → a ≡ true → b ≡ true → c ≡ true → d ≡ false → cond (not a) (Some m) (cond (not b) (Some n) (cond (not c) (Some k) (cond d (Some l) None))) ≡ None
no_fault_from a b c d m n k l e f g h = rw (e, f, g, h) refl

module _ (s t : AbstractState) (p : IsSharper s t) (fits : IsWellFormed t) where
  size_more : (size : Extent) → IsNoMore (max_size s.ranges size) (max_size t.ranges size)
  size_more (Fixed m) n e = (n, e, omega arith)
  size_more Second n e =
      let x = map_some (λ (range : Range). range.hi) (t.ranges 2) n e in
      let y = p.ranges 2 x.0 x.1 in
      let within = y.2 in
      let is = x.2 in
      (y.0.hi, ap (option_map (λ (range : Range). range.hi)) y.1, omega arith)

  pub operands_more : (x : Insn) → has_operands t x ≡ true → has_operands s x ≡ true
  operands_more x e =
      all_more (λ r. is_some (t.ranges r)) (λ r. is_some (s.ranges r)) (operands x) (λ r f. more_some (s.ranges r) (t.ranges r) (p.ranges r) f) e

  helper_accesses_more : (d : ℕ) (accesses : List Access) → all_in_bounds d t.ranges accesses ≡ true → all_in_bounds d s.ranges accesses ≡ true
  helper_accesses_more d accesses e =
      all_more (access_in_bounds d t.ranges) (access_in_bounds d s.ranges) accesses (λ access f. sized_more (λ n. in_bounds d (t.ranges access.register) n) (λ n. in_bounds d (s.ranges access.register) n) (max_size s.ranges access.size) (max_size t.ranges access.size) (size_more access.size) (λ k n less g. in_bounds_more d (s.ranges access.register) (t.ranges access.register) k n (p.ranges access.register) less g) f) e

  helper_bytes_more : (accesses : List Access) → are_initialized t.initialized t.ranges accesses ≡ true → are_initialized s.initialized s.ranges accesses ≡ true
  helper_bytes_more accesses e =
      all_more (access_initialized t.initialized t.ranges) (access_initialized s.initialized s.ranges) accesses (λ access f. sized_more (λ n. is_initialized t.initialized (t.ranges access.register) n) (λ n. is_initialized s.initialized (s.ranges access.register) n) (max_size s.ranges access.size) (max_size t.ranges access.size) (size_more access.size) (λ k n less g. initialized_more s.initialized t.initialized (s.ranges access.register) (t.ranges access.register) k n p.initialized (p.ranges access.register) less g) f) e

  access_more : (d base : ℕ) (offset : ℤ) (size : ℕ) → cast_unsigned w64 offset < 2 ^ 64 → in_bounds d (address_range t base offset) size ≡ true → in_bounds d (address_range s base offset) size ≡ true
  access_more d base offset size small e =
      in_bounds_more d (address_range s base offset) (address_range t base offset) size size (address_more s t p fits base offset small) (omega arith) e

  accesses_more : (d : ℕ) (x : Insn) → IsInsn x → has_accesses d t x ≡ true → has_accesses d s x ≡ true
  accesses_more d (Load size signed dst base offset) is e =
      access_more d base.number offset (bytes_of size) (offset_64 offset is.1) e
  accesses_more d (StoreImm size base offset imm) is e =
      access_more d base.number offset (bytes_of size) (offset_64 offset is.0) e
  accesses_more d (Store size base offset src) is e =
      access_more d base.number offset (bytes_of size) (offset_64 offset is) e
  accesses_more d (CallHelper number) is e =
      helper_accesses_more d (helper_reads (helper_of number) ++ helper_writes (helper_of number)) e
  accesses_more d _ is e = refl

  bytes_more : (x : Insn) → IsInsn x → has_bytes t x ≡ true → has_bytes s x ≡ true
  bytes_more (Load size signed dst base offset) is e =
      initialized_more s.initialized t.initialized (address_range s base.number offset) (address_range t base.number offset) (bytes_of size) (bytes_of size) p.initialized (address_more s t p fits base.number offset (offset_64 offset is.1)) (omega arith) e
  bytes_more (CallHelper number) is e = helper_bytes_more (helper_reads (helper_of number)) e
  bytes_more _ is e = refl

  -- what passes in the state passes in one that is sharper
  pub fault_more : (d : ℕ) (x : Insn) → IsInsn x → insn_dataflow_fault d t x ≡ None → insn_dataflow_fault d s x ≡ None
  fault_more d x is e =
      let passes = no_fault_of_four (has_operands t x) (has_accesses d t x) (has_bytes t x) (calls_local x && leb frames (d + 1)) UninitRegister BadAccess UninitBytes CallDepth e in
      no_fault_from (has_operands s x) (has_accesses d s x) (has_bytes s x) (calls_local x && leb frames (d + 1)) UninitRegister BadAccess UninitBytes CallDepth (operands_more x passes.0) (accesses_more d x is passes.1) (bytes_more x is passes.2) passes.3

  pub insn_sharper : (x : Insn) → IsInsn x → FollowsNone t → has_operands t x ≡ true → IsSharper (after_insn s x) (after_insn t x)
  insn_sharper (Alu width op dst src) is none has =
      with_range_sharper s t dst.number (alu_range s width op dst.number src) (alu_range t width op dst.number src) p (alu_more s t p fits width op dst.number src (alu_imm width op dst src is))
  insn_sharper (Swap kind width dst) is none has =
      with_range_sharper s t dst.number (option_map (swap_range_of kind width) (s.ranges dst.number)) (option_map (swap_range_of kind width) (t.ranges dst.number)) p (swap_more s t p fits dst.number (swap_range_of kind width) (swap_within kind width))
  insn_sharper (LoadImm dst value) is none has =
      with_range_sharper s t dst.number (Some (single value)) (Some (single value)) p (says_itself (single value) (omega arith))
  insn_sharper (Load size signed dst base offset) is none has =
      with_range_sharper s t dst.number (Some (range_after_load s size signed (address_range s base.number offset))) (Some (range_after_load t size signed (address_range t base.number offset))) p (says_one (range_after_load s size signed (address_range s base.number offset)) (range_after_load t size signed (address_range t base.number offset)) (load_within s t p fits none size signed (address_range s base.number offset) (address_range t base.number offset)))
  insn_sharper (StoreImm size base offset imm) is none has =
      let small = small_64 imm is.1 in
      store_sharper s t p fits (address_range s base.number offset) (address_range t base.number offset) (bytes_of size) (stored_range size (single (cast_unsigned w64 imm))) (stored_range size (single (cast_unsigned w64 imm))) (address_more s t p fits base.number offset (offset_64 offset is.0)) (stored_within s t p fits size (single (cast_unsigned w64 imm)) (record { low = omega arith; some = omega arith; high = omega arith }))
  insn_sharper (Store size base offset src) is none has =
      let second = and_parts (is_some (t.ranges base.number)) (is_some (t.ranges src.number) && true) has in
      let value = and_parts (is_some (t.ranges src.number)) true second.1 in
      store_sharper s t p fits (address_range s base.number offset) (address_range t base.number offset) (bytes_of size) (stored_range size (range_or_full (s.ranges src.number))) (stored_range size (range_or_full (t.ranges src.number))) (address_more s t p fits base.number offset (offset_64 offset is)) (stored_within s t p fits size (range_or_full (s.ranges src.number)) (register_within s t p fits src.number value.0))
  insn_sharper (CallHelper number) is none has =
      helper_sharper s t p fits (helper_max_answer (helper_of number)) (helper_writes (helper_of number))
  insn_sharper _ is none has = p
