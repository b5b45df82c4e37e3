-- The abstract state at a slot is true of the machines that come there, and stays true over an instruction.
use Rattle.std.proofs.Common.{◌≡◌, ℕ, zero, suc, ◌+◌, ◌-◌, ◌/◌, ◌^◌, ◌<◌, ◌≤◌, Bool, true, false, ◌&&◌, ◌||◌, cond, eqb, leb, ltb, List, [], ◌∷◌, ◌++◌, length, replicate, get_or, Option, Some, None, ℤ, refl, sym, ap, subst, ◌∙◌, arith, inl, inr}
use Rattle.std.specs.Prelude.{IsSome, FitsSigned}
use Rattle.std.specs.List.{list_all, enumerate_from}
use Rattle.std.specs.Option.{is_some, option_map}
use Rattle.std.specs.Int.{w16, w32, w64, cast_unsigned, from_le_bytes, byte_at, byte_len, bytes_low_first}
use Rattle.std.specs.Ordering.{nat_cmp}
use Rattle.std.specs.Cmp.{nat_cmp_total, unsigned_tied}
use Rattle.std.specs.FinMap as map
use Rattle.std.proofs.Math.Facts.{Fits-of_z, sfits_widen}
use Rattle.std.proofs.lemmas.List.{length-append, length-replicate}
use Rattle.std.proofs.lemmas.Bool.{leb-true, ltb-true, eqb-true}
use Rattle.std.proofs.lemmas.Bool.Decides.{eqb_tells, leb_tells}
use Rattle.std.proofs.lemmas.Nat.{mod_below}
use Rattle.bpf_num.specs.declared.AluOp.{AluOp}
use Rattle.bpf_num.specs.declared.AluOp.TheVariants.{Add}
use Rattle.bpf_num.specs.declared.AluWidth.{AluWidth}
use Rattle.bpf_num.specs.declared.AluWidth.TheVariants.{W64}
use Rattle.bpf_num.specs.declared.swap.SwapKind.{SwapKind}
use Rattle.bpf_num.specs.declared.swap.Width.{Width}
use Rattle.bpf_num.specs.declared.jump.Test as tests
use Rattle.bpf_decode.specs.declared.insn.Insn.{Insn}
use Rattle.bpf_decode.specs.declared.insn.Insn.TheVariants.{Alu, Swap, LoadImm, Load, StoreImm, Store, Test}
use Rattle.bpf_decode.specs.declared.insn.Reg.{Reg}
use Rattle.bpf_decode.specs.declared.insn.Size.{Size}
use Rattle.bpf_decode.specs.declared.insn.Size.TheVariants.{B, H, W, Dw}
use Rattle.bpf_decode.specs.declared.insn.Source.{Source}
use Rattle.bpf_decode.specs.declared.insn.Source.TheVariants as source
use Rattle.bpf_decode.specs.Encoding.{IsInsn}
use Rattle.bpf_num.specs.Arithmetic.{alu_of, reads_destination}
use Rattle.bpf_num.specs.ByteSwap.{byte_swap_of}
use Rattle.bpf_num.specs.Jump.{jump_test_of}
use Rattle.reg_ranges.specs.Ranges.{Range, In, single, is_single, swap_range_of}
use Rattle.reg_ranges.specs.Refine.{Ranges, refine_of, Keeps}
use Rattle.reg_ranges.proofs.Edges.{refine_keeps}
use Rattle.bpf_model.specs.Access.{bytes_of, word_of, address_of, loaded, stored_bytes}
use Rattle.bpf_model.specs.Code.{slots_of}
use Rattle.bpf_model.specs.Machine.{Machine, Memory, Registers, Call, IsCall, start, arguments_start, frames, frame_end, is_in_bounds, bytes_at, stored}
use Rattle.bpf_model.specs.Step.{Continues, source_value, destination_value, tested_immediate, tested_value, effect}
use Rattle.bpf_model.specs.AbstractState.{AbstractState, start_state, has_all, source_operands, alu_operands, all_initialized, extent, in_bounds, is_initialized, source_range, destination_range, transfer, with_range, alu_range, address_range, is_written, range_after_load, range_or_full, after_store, after_insn, tested_range, with_ranges, after_test}
use Rattle.bpf_model.proofs.Options.{some_is, is_some_of, and_true}
use Rattle.bpf_model.proofs.RangeLaws.{IsRange, transfer_in, swap_in, loaded_in}
use Rattle.bpf_model.proofs.Joins.{IsBelow}
use Rattle.bpf_model.proofs.Words.{HoldsWords, in_full, Leaves, words_stored, word_loaded}
use Rattle.bpf_model.specs.Words.{word_start, stored_range}
use Rattle.bpf_model.specs.declared.profile.Profile.{Profile}
use Rattle.bpf_model.specs.declared.profile.Profile.TheVariants.{One}
use Rattle.std.proofs.lemmas.Nat.{from_le_bytes-to_le_bytes_8}
use Rattle.bpf_model.proofs.Memories.{HoldsBytes, find_enumerate, find_inside, bytes_found, bytes_small, initialized_each, stored_within, stored_stays, in_bounds_cases, in_bounds_from, or_true}

-- a register holds a number of the range
pub record Holds (registers : Registers) (r : ℕ) (x : Range) : Type 0 where
  pub value : ℕ
  pub is : map.get registers r ≡ Some value
  pub in_range : In value x

-- an abstract state is true of a machine
pub record Abstracts (state : AbstractState) (m : Machine) : Type 0 where
  pub ranges : (r : ℕ) (x : Range) → state.ranges r ≡ Some x → Holds m.frame.registers r x
  pub initialized : (address : ℕ) → state.initialized address ≡ true → IsSome (map.get m.memory address)
  pub words : HoldsWords m.memory state.words
  pub arguments : (address : ℕ) → arguments_start ≤ address → address < arguments_start + 256 → IsSome (map.get m.memory address)

-- each range holds numbers of 64 bits alone
unfoldable pub IsWellFormed : AbstractState → Type 0
IsWellFormed state =
    ((r : ℕ) (x : Range) → state.ranges r ≡ Some x → IsRange x) × ((w : ℕ) → IsRange (state.words.ranges w))

-- ---- the start

abbrev first_registers : ℕ → List (ℕ × ℕ)
first_registers n = (1, arguments_start) ∷ (2, n) ∷ (10, frame_end 0) ∷ []

record Begins (n r : ℕ) (x : Range) : Type 0 where
  value : ℕ
  is : map.find nat_cmp r (first_registers n) ≡ Some value
  in_range : In value x
  fits : IsRange x

begins : (n r : ℕ) (x : Range) → n ≤ 256 → (start_state One).ranges r ≡ Some x → Begins n r x
begins n r x short h =
    elim (eqb_tells r 1) [
      | inl (e, same) ↦
          let is : single arguments_start ≡ x = some_is _ _ (sym (ap (λ (b : Bool). cond b (Some (single arguments_start)) (cond (eqb r 2) (Some (record { lo = 0; hi = 256 })) (cond (eqb r 10) (Some (single (frame_end 0))) None))) e) ∙ h) in
          subst (λ (y : Range). Begins n r y) is (record {
            value = arguments_start;
            is = subst (λ (q : ℕ). map.find nat_cmp q (first_registers n) ≡ Some arguments_start) (sym same) refl;
            in_range = record { low = omega arith; high = omega arith };
            fits = record { below = omega arith };
          })
      | inr (e, other) ↦
          let h2 : cond (eqb r 2) (Some (record { lo = 0; hi = 256 })) (cond (eqb r 10) (Some (single (frame_end 0))) None) ≡ Some x = sym (ap (λ (b : Bool). cond b (Some (single arguments_start)) (cond (eqb r 2) (Some (record { lo = 0; hi = 256 })) (cond (eqb r 10) (Some (single (frame_end 0))) None))) e) ∙ h in
          elim (eqb_tells r 2) [
            | inl (e2, same) ↦
                let is : record { lo = 0; hi = 256 } ≡ x = some_is _ _ (sym (ap (λ (b : Bool). cond b (Some (record { lo = 0; hi = 256 })) (cond (eqb r 10) (Some (single (frame_end 0))) None)) e2) ∙ h2) in
                subst (λ (y : Range). Begins n r y) is (record {
                  value = n;
                  is = subst (λ (q : ℕ). map.find nat_cmp q (first_registers n) ≡ Some n) (sym same) refl;
                  in_range = record { low = omega arith; high = omega arith };
                  fits = record { below = omega arith };
                })
            | inr (e2, other2) ↦
                let h10 : cond (eqb r 10) (Some (single (frame_end 0))) None ≡ Some x = sym (ap (λ (b : Bool). cond b (Some (record { lo = 0; hi = 256 })) (cond (eqb r 10) (Some (single (frame_end 0))) None)) e2) ∙ h2 in
                elim (eqb_tells r 10) [
                  | inl (e10, same) ↦
                      let is : single (frame_end 0) ≡ x = some_is _ _ (sym (ap (λ (b : Bool). cond b (Some (single (frame_end 0))) None) e10) ∙ h10) in
                      subst (λ (y : Range). Begins n r y) is (record {
                        value = frame_end 0;
                        is = subst (λ (q : ℕ). map.find nat_cmp q (first_registers n) ≡ Some (frame_end 0)) (sym same) refl;
                        in_range = record { low = omega arith; high = omega arith };
                        fits = record { below = omega arith };
                      })
                  | inr (e10, other10) ↦
                      absurd (let none = sym (ap (λ (b : Bool). cond b (Some (single (frame_end 0))) None) e10) ∙ h10 in cc)
                ]
          ]
    ]

pub IsWellFormed-start : (profile : Profile) → IsWellFormed (start_state profile)
unfolding IsWellFormed
IsWellFormed-start profile = (λ r x h. (begins 0 r x (omega arith) h).fits, λ w. record { below = omega arith })

pub padded_length : (bytes : List ℕ) → length bytes ≤ 256 → length (bytes ++ replicate (256 - length bytes) 0) ≡ 256
padded_length bytes short =
    let whole : length bytes + (256 - length bytes) ≡ 256 = omega arith in
    length-append bytes (replicate (256 - length bytes) 0)
    ∙ ap (λ (n : ℕ). length bytes + n) (length-replicate {A = ℕ} (256 - length bytes) 0)
    ∙ whole

-- ---- accesses

-- a machine runs in frame d
pub record RunsAt (d : ℕ) (m : Machine) : Type 0 where
  pub depth : length m.callers ≡ d
  pub has_frame : d < frames

-- an access that may touch only what is there
pub access_there : (state : AbstractState) (m : Machine) (d : ℕ) (x : Range) (a size : ℕ) → Abstracts state m → d < frames → In a x → is_in_bounds d x.lo (extent x size) ≡ true → (leb arguments_start x.lo || all_initialized state.initialized x.lo (extent x size)) ≡ true → (k : ℕ) → a ≤ k → k < a + size → IsSome (map.get m.memory k)
access_there state m d x a size means shallow i inside present k p q =
    let low = i.low in
    let high = i.high in
    elim (leb_tells arguments_start x.lo) [
      | inl (e, far) ↦ elim (in_bounds_cases d x.lo (extent x size) inside) [
        | inl (f, g) ↦ absurd (omega arith)
        | inr (f, g) ↦ means.arguments k (omega arith) (omega arith)
      ]
      | inr (e, near) ↦
          let initialized : all_initialized state.initialized x.lo (extent x size) ≡ true = sym (ap (λ (b : Bool). b || all_initialized state.initialized x.lo (extent x size)) e) ∙ present in
          means.initialized k (initialized_each state.initialized x.lo (extent x size) initialized k (omega arith) (omega arith))
    ]

pub access_inside : (d : ℕ) (x : Range) (a size : ℕ) → In a x → is_in_bounds d x.lo (extent x size) ≡ true → is_in_bounds d a size ≡ true
access_inside d x a size i inside =
    let low = i.low in
    let high = i.high in
    in_bounds_from d a size (elim (in_bounds_cases d x.lo (extent x size) inside) [
      | inl (f, g) ↦ inl (omega arith, omega arith)
      | inr (f, g) ↦ inr (omega arith, omega arith)
    ])

-- ---- bytes of the arguments

padded_small : (bytes : List ℕ) (n : ℕ) → ((i : ℕ) → get_or bytes i 0 < 256) → (k : ℕ) → get_or (bytes ++ replicate n 0) k 0 < 256
padded_small [] zero small k = omega arith
padded_small [] (suc n) small zero = omega arith
padded_small [] (suc n) small (suc k) = padded_small [] n small k
padded_small (x ∷ xs) n small zero = small 0
padded_small (x ∷ xs) n small (suc k) = padded_small xs n (λ i. small (suc i)) k

pub start_bytes : (call : Call) → IsCall call → HoldsBytes (start call).memory
unfolding HoldsBytes
start_bytes call is a byte e =
    let padded : List ℕ = call.arguments ++ replicate (256 - length call.arguments) 0 in
    let at : map.find nat_cmp a (enumerate_from arguments_start padded) ≡ Some byte = sym (map.get-from_entries nat_cmp_total (enumerate_from arguments_start padded) a) ∙ e in
    let inside = find_inside arguments_start padded a byte at in
    let found = find_enumerate arguments_start padded a inside.0 inside.1 in
    let same : get_or padded (a - arguments_start) 0 ≡ byte = some_is _ _ (sym found ∙ at) in
    subst (λ (b : ℕ). b < 256) same (padded_small call.arguments (256 - length call.arguments) is.bytes (a - arguments_start))

pub start_means : (profile : Profile) (call : Call) → IsCall call → Abstracts (start_state profile) (start call)
start_means profile call is = record {
  ranges = λ r x h.
      let b = begins (length call.arguments) r x is.short h in
      record {
        value = b.value;
        is = map.get-from_entries nat_cmp_total (first_registers (length call.arguments)) r ∙ b.is;
        in_range = b.in_range;
      };
  initialized = λ address h. absurd cc;
  words = record { number = λ w bytes e. in_full (start call).memory (word_start w) bytes (start_bytes call is) e };
  arguments = λ address low high.
      let padded : List ℕ = call.arguments ++ replicate (256 - length call.arguments) 0 in
      let long : length padded ≡ 256 = padded_length call.arguments is.short in
      let found = find_enumerate arguments_start padded address low (omega (arith, high, long)) in
      is_some_of _ _ (map.get-from_entries nat_cmp_total (enumerate_from arguments_start padded) address ∙ found);
}

-- ---- the machine goes on

pub wider : (v : ℕ) (x y : Range) → x.lo ≤ y.lo → y.hi ≤ x.hi → In v y → In v x
wider v x y low high i = let l = i.low in let h = i.high in record { low = omega arith; high = omega arith }

-- what is known of the words of a state holds of one that is below it
pub words_below : (memory : Memory) (state j : AbstractState) → HoldsWords memory state.words → IsBelow j state → HoldsWords memory j.words
words_below memory state j holds below = record {
  number = λ w bytes e. let known = below.words w in wider (from_le_bytes w64 bytes) (j.words.ranges w) (state.words.ranges w) known.0 known.1 (holds.number w bytes e);
}

-- the machine at another slot
abbrev pub placed : Machine → ℕ → Machine
placed m slot = record m { frame = record { pc = slot; registers = m.frame.registers } }

pub placed_means : (state j : AbstractState) (m : Machine) (slot : ℕ) → Abstracts state m → IsBelow j state → Abstracts j (placed m slot)
placed_means state j m slot means below = record {
  ranges = λ r y h.
      let known = below.ranges r y h in
      let holds = means.ranges r known.0 known.1 in
      record { value = holds.value; is = holds.is; in_range = wider holds.value y known.0 known.2 known.3 holds.in_range };
  initialized = λ address h. means.initialized address (below.initialized address h);
  words = words_below m.memory state j means.words below;
  arguments = means.arguments;
}

-- the machine after an instruction that wrote a register
abbrev pub moved : Machine → ℕ → ℕ → ℕ → Machine
moved m slots dst value =
    record m { frame = record { pc = m.frame.pc + slots; registers = map.insert m.frame.registers dst value } }

pub moved_means : (state j : AbstractState) (m : Machine) (slots dst value : ℕ) (x : Range) → Abstracts state m → In value x → IsBelow j (with_range state dst (Some x)) → Abstracts j (moved m slots dst value)
moved_means state j m slots dst value x means i below = record {
  ranges = λ r y h.
      let known = below.ranges r y h in
      elim (eqb_tells r dst) [
        | inl (e, same) ↦
            let is : x ≡ known.0 = some_is _ _ (sym (ap (λ (b : Bool). cond b (Some x) (state.ranges r)) e) ∙ known.1) in
            record {
              value = value;
              is = map.get-insert nat_cmp_total m.frame.registers dst value r ∙ ap (λ (b : Bool). cond b (Some value) (map.get m.frame.registers r)) (unsigned_tied r dst ∙ e);
              in_range = wider value y known.0 known.2 known.3 (subst (λ (z : Range). In value z) is i);
            }
        | inr (e, other) ↦
            let before : state.ranges r ≡ Some known.0 = sym (ap (λ (b : Bool). cond b (Some x) (state.ranges r)) e) ∙ known.1 in
            let holds = means.ranges r known.0 before in
            record {
              value = holds.value;
              is = map.get-insert nat_cmp_total m.frame.registers dst value r ∙ ap (λ (b : Bool). cond b (Some value) (map.get m.frame.registers r)) (unsigned_tied r dst ∙ e) ∙ holds.is;
              in_range = wider holds.value y known.0 known.2 known.3 holds.in_range;
            }
      ];
  initialized = λ address h. means.initialized address (below.initialized address h);
  words = words_below m.memory (with_range state dst (Some x)) j means.words below;
  arguments = means.arguments;
}

-- ---- operands

pub some_here : {A : Type 0} (o : Option A) → is_some o ≡ true → (x : A) × (o ≡ Some x)
some_here None h = absurd cc
some_here (Some x) h = (x, refl)

-- an operand: its range and its value
pub record Operand (o : Option Range) (v : Option ℕ) : Type 0 where
  pub range : Range
  pub range_is : o ≡ Some range
  pub value : ℕ
  pub value_is : v ≡ Some value
  pub in_range : In value range
  pub fits : IsRange range

pub register_operand : (state : AbstractState) (m : Machine) (r : ℕ) → Abstracts state m → IsWellFormed state → is_some (state.ranges r) ≡ true → Operand (state.ranges r) (map.get m.frame.registers r)
unfolding IsWellFormed
register_operand state m r means fit h =
    let x = some_here (state.ranges r) h in
    let holds = means.ranges r x.0 x.1 in
    record { range = x.0; range_is = x.1; value = holds.value; value_is = holds.is; in_range = holds.in_range; fits = fit.0 r x.0 x.1 }

-- a single number of 64 bits
pub single_operand : (value : ℕ) → value < 2 ^ 64 → Operand (Some (single value)) (Some value)
single_operand value h = record {
  range = single value;
  range_is = refl;
  value = value;
  value_is = refl;
  in_range = record { low = omega arith; high = omega arith };
  fits = record { below = h };
}

pub small_64 : (z : ℤ) → FitsSigned w32 z → cast_unsigned w64 z < 2 ^ 64
small_64 z h = let fits = Fits-of_z {w = w64} (sfits_widen {w = w32} {w' = w64} tt h) in omega arith

pub offset_64 : (z : ℤ) → FitsSigned w16 z → cast_unsigned w64 z < 2 ^ 64
offset_64 z h = let fits = Fits-of_z {w = w64} (sfits_widen {w = w16} {w' = w64} tt h) in omega arith

pub small_32 : (z : ℤ) → FitsSigned w32 z → cast_unsigned w32 z < 2 ^ 64
small_32 z h = let fits = Fits-of_z {w = w32} h in omega arith

-- an immediate that is a signed number of 32 bits
unfoldable pub ImmInRange : Source → Type 0
ImmInRange (source.Imm value) = FitsSigned w32 value
ImmInRange (source.Reg reg) = Unit {0}

pub alu_imm : (width : AluWidth) (op : AluOp) (dst : Reg) (src : Source) → IsInsn (Alu width op dst src) → ImmInRange src
unfolding ImmInRange
alu_imm width op dst (source.Imm value) h = h.1
alu_imm width op dst (source.Reg reg) h = tt

pub test_imm : (narrow : Bool) (test : tests.Test) (dst : Reg) (src : Source) (offset : ℤ) → IsInsn (Test narrow test dst src offset) → ImmInRange src
unfolding ImmInRange
test_imm narrow test dst (source.Imm value) offset h = h.0
test_imm narrow test dst (source.Reg reg) offset h = tt

source_operand : (state : AbstractState) (m : Machine) (src : Source) → Abstracts state m → IsWellFormed state → ImmInRange src → has_all state.ranges (source_operands src) ≡ true → Operand (source_range state src) (source_value m.frame.registers src)
unfolding ImmInRange
source_operand state m (source.Imm value) means fit small h = single_operand (cast_unsigned w64 value) (small_64 value small)
source_operand state m (source.Reg reg) means fit small h =
    register_operand state m reg.number means fit (and_true _ _ h).0

pub immediate_small : (narrow : Bool) (value : ℤ) → FitsSigned w32 value → tested_immediate narrow value < 2 ^ 64
immediate_small true value h = small_32 value h
immediate_small false value h = small_64 value h

tested_operand : (state : AbstractState) (m : Machine) (narrow : Bool) (src : Source) → Abstracts state m → IsWellFormed state → ImmInRange src → has_all state.ranges (source_operands src) ≡ true → Operand (tested_range state narrow src) (tested_value m.frame.registers narrow src)
unfolding ImmInRange
tested_operand state m narrow (source.Imm value) means fit small h =
    single_operand (tested_immediate narrow value) (immediate_small narrow value small)
tested_operand state m narrow (source.Reg reg) means fit small h =
    register_operand state m reg.number means fit (and_true _ _ h).0

destination_operand : (state : AbstractState) (m : Machine) (op : AluOp) (d : ℕ) → Abstracts state m → IsWellFormed state → has_all state.ranges (cond (reads_destination op) (d ∷ []) []) ≡ true → Operand (destination_range state op d) (destination_value m.frame.registers op d)
destination_operand state m op d means fit h = cases (reads_destination op) h where
  cases : (b : Bool) → has_all state.ranges (cond b (d ∷ []) []) ≡ true → Operand (cond b (state.ranges d) (Some (single 0))) (cond b (map.get m.frame.registers d) (Some 0))
  cases true e = register_operand state m d means fit (and_true _ _ e).0
  cases false e = single_operand 0 (omega arith)

-- ---- instructions that write a register

-- what an instruction that writes a register does, and the range of its result
pub record Moves (state : AbstractState) (m : Machine) (x : Insn) (dst : ℕ) : Type 0 where
  pub value : ℕ
  pub goes : effect m x ≡ Some (Continues (moved m (slots_of x) dst value))
  pub range : Range
  pub after_is : after_insn state x ≡ with_range state dst (Some range)
  pub in_range : In value range

alu_effect : (m : Machine) (width : AluWidth) (op : AluOp) (dst : Reg) (src : Source) (a b : ℕ) → source_value m.frame.registers src ≡ Some b → destination_value m.frame.registers op dst.number ≡ Some a → eqb dst.number 10 ≡ false → effect m (Alu width op dst src) ≡ Some (Continues (moved m (slots_of (Alu width op dst src)) dst.number (alu_of width op a b)))
alu_effect m width op dst src a b b-is a-is ten = rw (b-is, a-is, ten) refl

alu_known : (state : AbstractState) (width : AluWidth) (op : AluOp) (dst : Reg) (src : Source) (a b : Range) → source_range state src ≡ Some b → destination_range state op dst.number ≡ Some a → alu_range state width op dst.number src ≡ Some (transfer width op a b)
alu_known state width op dst src a b b-is a-is = rw (b-is, a-is) refl

all_apart : (p : ℕ → Bool) (xs ys : List ℕ) → list_all p (xs ++ ys) ≡ true → (list_all p xs ≡ true) × (list_all p ys ≡ true)
all_apart p [] ys h = (refl, h)
all_apart p (x ∷ xs) ys h =
    let both = and_true (p x) (list_all p (xs ++ ys)) h in
    let rest = all_apart p xs ys both.1 in
    (and_intro (p x) (list_all p xs) both.0 rest.0, rest.1) where
      and_intro : (a b : Bool) → a ≡ true → b ≡ true → (a && b) ≡ true
      and_intro true b e f = f
      and_intro false b e f = e

pub alu_moves : (state : AbstractState) (m : Machine) (width : AluWidth) (op : AluOp) (dst : Reg) (src : Source) → Abstracts state m → IsWellFormed state → ImmInRange src → has_all state.ranges (alu_operands op dst.number src) ≡ true → eqb dst.number 10 ≡ false → Moves state m (Alu width op dst src) dst.number
alu_moves state m width op dst src means fit small has ten =
    let apart = all_apart (λ r. is_some (state.ranges r)) (cond (reads_destination op) (dst.number ∷ []) []) (source_operands src) has in
    let a = destination_operand state m op dst.number means fit apart.0 in
    let b = source_operand state m src means fit small apart.1 in
    record {
      value = alu_of width op a.value b.value;
      goes = alu_effect m width op dst src a.value b.value b.value_is a.value_is ten;
      range = transfer width op a.range b.range;
      after_is = ap (λ (o : Option Range). with_range state dst.number o) (alu_known state width op dst src a.range b.range b.range_is a.range_is);
      in_range = transfer_in width op a.range b.range a.value b.value a.fits b.fits a.in_range b.in_range;
    }

swap_effect : (m : Machine) (kind : SwapKind) (width : Width) (dst : Reg) (a : ℕ) → map.get m.frame.registers dst.number ≡ Some a → eqb dst.number 10 ≡ false → effect m (Swap kind width dst) ≡ Some (Continues (moved m (slots_of (Swap kind width dst)) dst.number (byte_swap_of kind width a)))
swap_effect m kind width dst a a-is ten = rw (a-is, ten) refl

pub swap_moves : (state : AbstractState) (m : Machine) (kind : SwapKind) (width : Width) (dst : Reg) → Abstracts state m → IsWellFormed state → has_all state.ranges (dst.number ∷ []) ≡ true → eqb dst.number 10 ≡ false → Moves state m (Swap kind width dst) dst.number
swap_moves state m kind width dst means fit has ten =
    let a = register_operand state m dst.number means fit (and_true _ _ has).0 in
    record {
      value = byte_swap_of kind width a.value;
      goes = swap_effect m kind width dst a.value a.value_is ten;
      range = swap_range_of kind width a.range;
      after_is = ap (λ (o : Option Range). with_range state dst.number (option_map (swap_range_of kind width) o)) a.range_is;
      in_range = swap_in kind width a.range a.value a.in_range;
    }

pub wide_moves : (state : AbstractState) (m : Machine) (dst : Reg) (value : ℕ) → eqb dst.number 10 ≡ false → Moves state m (LoadImm dst value) dst.number
wide_moves state m dst value ten = record {
  value = value;
  goes = rw ten refl;
  range = single value;
  after_is = refl;
  in_range = record { low = omega arith; high = omega arith };
}

-- ---- loads and stores

-- where a load or a store accesses memory
record Place (state : AbstractState) (m : Machine) (d base : ℕ) (offset : ℤ) (size : ℕ) : Type 0 where
  range : Range
  range_is : address_range state base offset ≡ Some range
  base_value : ℕ
  base_is : map.get m.frame.registers base ≡ Some base_value
  in_range : In (address_of base_value offset) range
  inside : is_in_bounds d range.lo (extent range size) ≡ true

access_position : (state : AbstractState) (m : Machine) (d base : ℕ) (offset : ℤ) (size : ℕ) → Abstracts state m → IsWellFormed state → FitsSigned w16 offset → is_some (state.ranges base) ≡ true → in_bounds d (address_range state base offset) size ≡ true → Place state m d base offset size
access_position state m d base offset size means fit small has inside =
    let a = register_operand state m base means fit has in
    let b = single_operand (cast_unsigned w64 offset) (offset_64 offset small) in
    let sum = transfer W64 Add a.range (single (cast_unsigned w64 offset)) in
    let is : address_range state base offset ≡ Some (transfer W64 Add a.range (single (cast_unsigned w64 offset))) = ap (λ (o : Option Range). option_map (λ (r : Range). transfer W64 Add r (single (cast_unsigned w64 offset))) o) a.range_is in
    record {
      range = transfer W64 Add a.range (single (cast_unsigned w64 offset));
      range_is = is;
      base_value = a.value;
      base_is = a.value_is;
      in_range = transfer_in W64 Add a.range (single (cast_unsigned w64 offset)) a.value (cast_unsigned w64 offset) a.fits (record { below = offset_64 offset small }) a.in_range (record { low = omega arith; high = omega arith });
      inside = sym (ap (λ (o : Option Range). in_bounds d o size) is) ∙ inside;
    }

load_effect : (m : Machine) (size : Size) (signed : Bool) (dst base : Reg) (offset : ℤ) (a : ℕ) (bytes : List ℕ) → map.get m.frame.registers base.number ≡ Some a → bytes_at m.memory (address_of a offset) (bytes_of size) ≡ Some bytes → eqb dst.number 10 ≡ false → effect m (Load size signed dst base offset) ≡ Some (Continues (moved m (slots_of (Load size signed dst base offset)) dst.number (loaded size signed bytes)))
load_effect m size signed dst base offset a bytes a-is bytes-is ten = rw (a-is, bytes-is, ten) refl

-- what a load gives is of its range
load_in : (state : AbstractState) (m : Machine) (size : Size) (signed : Bool) (a : ℕ) (range : Range) (bytes : List ℕ) → Abstracts state m → HoldsBytes m.memory → In a range → bytes_at m.memory a (bytes_of size) ≡ Some bytes → In (loaded size signed bytes) (range_after_load state size signed (Some range))
load_in state m B signed a range bytes means small i e = loaded_in B signed bytes (bytes_small m.memory a 1 bytes small e)
load_in state m H signed a range bytes means small i e = loaded_in H signed bytes (bytes_small m.memory a 2 bytes small e)
load_in state m W signed a range bytes means small i e = loaded_in W signed bytes (bytes_small m.memory a 4 bytes small e)
load_in state m Dw true a range bytes means small i e = loaded_in Dw true bytes (bytes_small m.memory a 8 bytes small e)
load_in state m Dw false a range bytes means small i e = word_loaded m.memory state.words a range bytes means.words small i e

ap_range : (state : AbstractState) (size : Size) (signed : Bool) (bytes : List ℕ) {x y : Option Range} → x ≡ y → In (loaded size signed bytes) (range_after_load state size signed x) → In (loaded size signed bytes) (range_after_load state size signed y)
ap_range state size signed bytes same i =
    subst (λ (o : Option Range). In (loaded size signed bytes) (range_after_load state size signed o)) same i

pub load_moves : (state : AbstractState) (m : Machine) (d : ℕ) (size : Size) (signed : Bool) (dst base : Reg) (offset : ℤ) → Abstracts state m → d < frames → IsWellFormed state → HoldsBytes m.memory → FitsSigned w16 offset → has_all state.ranges (base.number ∷ []) ≡ true → in_bounds d (address_range state base.number offset) (bytes_of size) ≡ true → is_initialized state.initialized (address_range state base.number offset) (bytes_of size) ≡ true → eqb dst.number 10 ≡ false → Moves state m (Load size signed dst base offset) dst.number
load_moves state m d size signed dst base offset means shallow fit small_memory small has inside there ten =
    let p = access_position state m d base.number offset (bytes_of size) means fit small (and_true _ _ has).0 inside in
    let present = sym (ap (λ (o : Option Range). is_initialized state.initialized o (bytes_of size)) p.range_is) ∙ there in
    let found = bytes_found m.memory (address_of p.base_value offset) (bytes_of size) (access_there state m d p.range (address_of p.base_value offset) (bytes_of size) means shallow p.in_range p.inside present) in
    record {
      value = loaded size signed found.0;
      goes = load_effect m size signed dst base offset p.base_value found.0 p.base_is found.1 ten;
      range = range_after_load state size signed (address_range state base.number offset);
      after_is = refl;
      in_range = ap_range state size signed found.0 (sym p.range_is) (load_in state m size signed (address_of p.base_value offset) p.range found.0 means small_memory p.in_range found.1);
    }

-- the machine after an instruction that stored bytes
abbrev pub kept : Machine → ℕ → ℕ → List ℕ → Machine
kept m slots address bytes =
    record m {
      frame = record { pc = m.frame.pc + slots; registers = m.frame.registers };
      memory = stored m.memory address bytes;
    }

-- what a store does, and the abstract state behind it
pub record Stores (state : AbstractState) (m : Machine) (x : Insn) : Type 0 where
  pub address : ℕ
  pub bytes : List ℕ
  pub goes : effect m x ≡ Some (Continues (kept m (slots_of x) address bytes))
  pub small : (i : ℕ) → get_or bytes i 0 < 256
  pub range : Range
  pub in_range : In address range
  pub stored_is : Range
  pub leaves : Leaves bytes stored_is
  pub after_is : after_insn state x ≡ after_store state (Some range) (length bytes) stored_is

low_small : (i k n j : ℕ) → get_or (bytes_low_first i k n) j 0 < 256
low_small i zero n j = omega arith
low_small i (suc k) n zero = byte_small i n where
  byte_small : (i n : ℕ) → byte_at i n < 256
  byte_small zero n = omega arith
  byte_small (suc i) n = mod_below (n / 256 ^ suc i) 256 (omega arith)
low_small i (suc k) n (suc j) = low_small (suc i) k n j

pub stored_long : (size : Size) (value : ℕ) → length (stored_bytes size value) ≡ bytes_of size
stored_long B value = refl
stored_long _ value = refl

store_imm_effect : (m : Machine) (size : Size) (base : Reg) (offset imm : ℤ) (a : ℕ) → map.get m.frame.registers base.number ≡ Some a → is_in_bounds (length m.callers) (address_of a offset) (length (stored_bytes size (cast_unsigned w64 imm))) ≡ true → effect m (StoreImm size base offset imm) ≡ Some (Continues (kept m (slots_of (StoreImm size base offset imm)) (address_of a offset) (stored_bytes size (cast_unsigned w64 imm))))
store_imm_effect m size base offset imm a a-is inside = rw (a-is, inside) refl

store_effect : (m : Machine) (size : Size) (base : Reg) (offset : ℤ) (src : Reg) (a b : ℕ) → map.get m.frame.registers base.number ≡ Some a → map.get m.frame.registers src.number ≡ Some b → is_in_bounds (length m.callers) (address_of a offset) (length (stored_bytes size b)) ≡ true → effect m (Store size base offset src) ≡ Some (Continues (kept m (slots_of (Store size base offset src)) (address_of a offset) (stored_bytes size b)))
store_effect m size base offset src a b a-is b-is inside = rw (a-is, b-is, inside) refl

store_inside : (state : AbstractState) (m : Machine) (d base : ℕ) (offset : ℤ) (size : Size) (value : ℕ) → RunsAt d m → (p : Place state m d base offset (bytes_of size)) → is_in_bounds (length m.callers) (address_of p.base_value offset) (length (stored_bytes size value)) ≡ true
store_inside state m d base offset size value at p =
    ap (λ (n : ℕ). is_in_bounds n (address_of p.base_value offset) (length (stored_bytes size value))) at.depth
    ∙ ap (λ (n : ℕ). is_in_bounds d (address_of p.base_value offset) n) (stored_long size value)
    ∙ access_inside d p.range (address_of p.base_value offset) (bytes_of size) p.in_range p.inside

stored_after : (state : AbstractState) (m : Machine) (d base : ℕ) (offset : ℤ) (size : Size) (value : ℕ) (x : Range) → (p : Place state m d base offset (bytes_of size)) → after_store state (address_range state base offset) (bytes_of size) x ≡ after_store state (Some p.range) (length (stored_bytes size value)) x
stored_after state m d base offset size value x p =
    ap (λ (o : Option Range). after_store state o (bytes_of size) x) p.range_is
    ∙ ap (λ (n : ℕ). after_store state (Some p.range) n x) (sym (stored_long size value))

-- a store of 8 bytes leaves its number in the word
leaves_of : (size : Size) (value : ℕ) (x : Range) → value < 2 ^ 64 → In value x → Leaves (stored_bytes size value) (stored_range size x)
leaves_of Dw value x small i =
    inl (refl, subst (λ (n : ℕ). In n x) (sym (from_le_bytes-to_le_bytes_8 value small)) i)
leaves_of _ value x small i = inr refl

below_64 : (value : ℕ) (x : Range) → In value x → IsRange x → value < 2 ^ 64
below_64 value x i fits = let high = i.high in let below = fits.below in omega (arith, high, below)

ap_leaves : (size : Size) (value : ℕ) {x y : Option Range} → x ≡ y → Leaves (stored_bytes size value) (stored_range size (range_or_full x)) → Leaves (stored_bytes size value) (stored_range size (range_or_full y))
ap_leaves size value same leaves =
    subst (λ (o : Option Range). Leaves (stored_bytes size value) (stored_range size (range_or_full o))) same leaves

pub imm_stores : (state : AbstractState) (m : Machine) (d : ℕ) (size : Size) (base : Reg) (offset imm : ℤ) → Abstracts state m → IsWellFormed state → RunsAt d m → FitsSigned w16 offset → cast_unsigned w64 imm < 2 ^ 64 → has_all state.ranges (base.number ∷ []) ≡ true → in_bounds d (address_range state base.number offset) (bytes_of size) ≡ true → Stores state m (StoreImm size base offset imm)
imm_stores state m d size base offset imm means fit at small imm_small has inside =
    let p = access_position state m d base.number offset (bytes_of size) means fit small (and_true _ _ has).0 inside in
    record {
      address = address_of p.base_value offset;
      bytes = stored_bytes size (cast_unsigned w64 imm);
      goes = store_imm_effect m size base offset imm p.base_value p.base_is (store_inside state m d base.number offset size (cast_unsigned w64 imm) at p);
      small = low_small 0 (byte_len (word_of size)) (cast_unsigned w64 imm);
      range = p.range;
      in_range = p.in_range;
      stored_is = stored_range size (single (cast_unsigned w64 imm));
      leaves = leaves_of size (cast_unsigned w64 imm) (single (cast_unsigned w64 imm)) imm_small (record { low = omega arith; high = omega arith });
      after_is = stored_after state m d base.number offset size (cast_unsigned w64 imm) (stored_range size (single (cast_unsigned w64 imm))) p;
    }

pub register_stores : (state : AbstractState) (m : Machine) (d : ℕ) (size : Size) (base : Reg) (offset : ℤ) (src : Reg) → Abstracts state m → IsWellFormed state → RunsAt d m → FitsSigned w16 offset → has_all state.ranges (base.number ∷ src.number ∷ []) ≡ true → in_bounds d (address_range state base.number offset) (bytes_of size) ≡ true → Stores state m (Store size base offset src)
register_stores state m d size base offset src means fit at small has inside =
    let both = and_true (is_some (state.ranges base.number)) (is_some (state.ranges src.number) && true) has in
    let p = access_position state m d base.number offset (bytes_of size) means fit small both.0 inside in
    let b = register_operand state m src.number means fit (and_true (is_some (state.ranges src.number)) true both.1).0 in
    record {
      address = address_of p.base_value offset;
      bytes = stored_bytes size b.value;
      goes = store_effect m size base offset src p.base_value b.value p.base_is b.value_is (store_inside state m d base.number offset size b.value at p);
      small = low_small 0 (byte_len (word_of size)) b.value;
      range = p.range;
      in_range = p.in_range;
      stored_is = stored_range size (range_or_full (state.ranges src.number));
      leaves = ap_leaves size b.value (sym b.range_is) (leaves_of size b.value b.range (below_64 b.value b.range b.in_range b.fits) b.in_range);
      after_is = stored_after state m d base.number offset size b.value (stored_range size (range_or_full (state.ranges src.number))) p;
    }

-- bytes that a write initialized were written
pub written_there : (memory : Memory) (range : Range) (address : ℕ) (bytes : List ℕ) (k : ℕ) → In address range → is_written (Some range) (length bytes) k ≡ true → IsSome (map.get (stored memory address bytes) k)
written_there memory range address bytes k i h =
    let ends = and_true (is_single range && leb range.lo k) (ltb k (range.lo + length bytes)) h in
    let one = and_true (is_single range) (leb range.lo k) ends.0 in
    let same = eqb-true range.lo range.hi one.0 in
    let low = leb-true _ _ one.1 in
    let high = ltb-true _ _ ends.1 in
    let il = i.low in
    let ih = i.high in
    is_some_of _ _ (stored_within memory address bytes k (omega arith) (omega arith))

pub kept_means : (state j : AbstractState) (m : Machine) (slots address : ℕ) (bytes : List ℕ) (range value : Range) → Abstracts state m → In address range → HoldsBytes (stored m.memory address bytes) → Leaves bytes value → IsBelow j (after_store state (Some range) (length bytes) value) → Abstracts j (kept m slots address bytes)
kept_means state j m slots address bytes range value means i small leaves below = record {
  ranges = λ r y h.
      let known = below.ranges r y h in
      let holds = means.ranges r known.0 known.1 in
      record { value = holds.value; is = holds.is; in_range = wider holds.value y known.0 known.2 known.3 holds.in_range };
  initialized = λ k h.
      elim (or_true (is_written (Some range) (length bytes) k) (state.initialized k) (below.initialized k h)) [
        | inl new ↦ written_there m.memory range address bytes k i new
        | inr old ↦ stored_stays m.memory address bytes k (means.initialized k old)
      ];
  words = words_below (stored m.memory address bytes) (after_store state (Some range) (length bytes) value) j (words_stored m.memory state.words address bytes range value means.words small i leaves) below;
  arguments = λ k p q. stored_stays m.memory address bytes k (means.arguments k p q);
}

-- ---- tests

-- a register's range may be replaced by another that holds its value
narrowed : (state : AbstractState) (m : Machine) (d value : ℕ) (x : Range) → Abstracts state m → map.get m.frame.registers d ≡ Some value → In value x → Abstracts (with_range state d (Some x)) m
narrowed state m d value x means is i = record {
  ranges = λ r y h.
      elim (eqb_tells r d) [
        | inl (e, same) ↦
            let y-is : x ≡ y = some_is _ _ (sym (ap (λ (b : Bool). cond b (Some x) (state.ranges r)) e) ∙ h) in
            record {
              value = value;
              is = ap (λ (k : ℕ). map.get m.frame.registers k) same ∙ is;
              in_range = subst (λ (z : Range). In value z) y-is i;
            }
        | inr (e, other) ↦
            means.ranges r y (sym (ap (λ (b : Bool). cond b (Some x) (state.ranges r)) e) ∙ h)
      ];
  initialized = means.initialized;
  words = record { number = λ w bytes e. means.words.number w bytes e };
  arguments = means.arguments;
}

-- both operands have their new ranges
with_ranges_means : (state : AbstractState) (m : Machine) (narrow : Bool) (d : ℕ) (src : Source) (a b : ℕ) (r : Ranges) → Abstracts state m → map.get m.frame.registers d ≡ Some a → tested_value m.frame.registers narrow src ≡ Some b → In a r.a → In b r.b → Abstracts (with_ranges state d src r) m
with_ranges_means state m narrow d (source.Imm value) a b r means a-is b-is ia ib = narrowed state m d a r.a means a-is ia
with_ranges_means state m narrow d (source.Reg reg) a b r means a-is b-is ia ib = cases (eqb d reg.number) where
  cases : (p : Bool) → Abstracts (cond p state (with_range (with_range state d (Some r.a)) reg.number (Some r.b))) m
  cases true = means
  cases false =
      narrowed (with_range state d (Some r.a)) m reg.number b r.b (narrowed state m d a r.a means a-is ia) b-is ib

-- what a test does, and the state on the edge that it takes
pub record Tests (state : AbstractState) (m : Machine) (narrow : Bool) (test : tests.Test) (d : ℕ) (src : Source) : Type 0 where
  pub a : ℕ
  pub a_is : map.get m.frame.registers d ≡ Some a
  pub b : ℕ
  pub b_is : tested_value m.frame.registers narrow src ≡ Some b
  pub after : AbstractState
  pub after_is : after_test state narrow test d src (jump_test_of test narrow a b) ≡ Some after
  pub means : Abstracts after m

after_test_is : (state : AbstractState) (narrow : Bool) (test : tests.Test) (d : ℕ) (src : Source) (taken : Bool) (x y : Range) (r : Ranges) → tested_range state narrow src ≡ Some y → state.ranges d ≡ Some x → refine_of test narrow x y taken ≡ Some r → after_test state narrow test d src taken ≡ Some (with_ranges state d src r)
after_test_is state narrow test d src taken x y r y-is x-is r-is = rw (y-is, x-is, r-is) refl

kept_some : (o : Option Ranges) (x y : ℕ) → Keeps o x y → (r : Ranges) × (o ≡ Some r) × In x r.a × In y r.b
kept_some None x y h = absurd h
kept_some (Some r) x y h = (r, refl, h.0, h.1)

pub test_means : (state : AbstractState) (m : Machine) (narrow : Bool) (test : tests.Test) (d : ℕ) (src : Source) → Abstracts state m → IsWellFormed state → ImmInRange src → has_all state.ranges (d ∷ source_operands src) ≡ true → Tests state m narrow test d src
test_means state m narrow test d src means fit small has =
    let both = and_true (is_some (state.ranges d)) (has_all state.ranges (source_operands src)) has in
    let x = register_operand state m d means fit both.0 in
    let y = tested_operand state m narrow src means fit small both.1 in
    let r = kept_some (refine_of test narrow x.range y.range (jump_test_of test narrow x.value y.value)) x.value y.value (refine_keeps test narrow x.range y.range (jump_test_of test narrow x.value y.value) x.value y.value x.in_range y.in_range refl) in
    record {
      a = x.value;
      a_is = x.value_is;
      b = y.value;
      b_is = y.value_is;
      after = with_ranges state d src r.0;
      after_is = after_test_is state narrow test d src (jump_test_of test narrow x.value y.value) x.range y.range r.0 y.range_is x.range_is r.1;
      means = with_ranges_means state m narrow d src x.value y.value r.0 means x.value_is y.value_is r.2 r.3;
    }
