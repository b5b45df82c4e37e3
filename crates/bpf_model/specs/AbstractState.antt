-- Statement: the abstract state at a slot, and what an instruction makes of it. d is the depth of the frame in which it
-- runs.
use Rattle.std.specs.Prelude.{◌≡◌, ◌⊎◌, ℕ, zero, suc, ◌+◌, ◌-◌, ◌*◌, ◌^◌, Bool, true, false, ◌&&◌, ◌||◌, not, ◌==◌, nat_le, nat_lt, if◌then◌else◌, List, [], ◌∷◌, ◌++◌, fold, Option, Some, None, ℤ}
use Rattle.std.specs.Int.{w64, cast_unsigned}
use Rattle.std.specs.List.{list_all, list_any}
use Rattle.std.specs.Option.{is_some, option_map}
use Rattle.bpf_num.specs.declared.AluOp.{AluOp}
use Rattle.bpf_num.specs.declared.AluOp.TheVariants.{Add}
use Rattle.bpf_num.specs.declared.AluWidth.{AluWidth}
use Rattle.bpf_num.specs.declared.AluWidth.TheVariants.{W32, W64}
use Rattle.bpf_num.specs.declared.jump.Test as tests
use Rattle.bpf_decode.specs.declared.insn.Insn.{Insn}
use Rattle.bpf_decode.specs.declared.insn.Insn.TheVariants.{Alu, Swap, LoadImm, Load, StoreImm, Store, Jump, JumpLong, Test, CallHelper, CallLocal, Exit}
use Rattle.bpf_decode.specs.declared.insn.Size.{Size}
use Rattle.bpf_decode.specs.declared.insn.Size.TheVariants.{B, H, W, Dw}
use Rattle.bpf_decode.specs.declared.insn.Source.{Source}
use Rattle.bpf_decode.specs.declared.insn.Source.TheVariants as source
use Rattle.bpf_num.specs.Bind.{◌>>=◌}
use Rattle.bpf_num.specs.Arithmetic.{reads_destination}
use Rattle.reg_ranges.specs.Ranges.{Range, range, single, is_single, full, join_of, transfer64_of, transfer32_of, swap_range_of}
use Rattle.reg_ranges.specs.Refine.{Ranges, refine_of}
use Rattle.bpf_model.specs.Access.{bytes_of}
use Rattle.bpf_model.specs.Code.{slots_of, target_of}
use Rattle.bpf_model.specs.Machine.{arguments_start, frame_end, is_in_frame, is_in_bounds}
use Rattle.bpf_model.specs.Step.{tested_immediate}
use Rattle.bpf_model.specs.Words.{Words, start_words, may_write, words_after, stored_range, word_at, join_words, words_without}
use Rattle.bpf_model.specs.declared.profile.Profile.{Profile}
use Rattle.map_helpers.specs.declared.helper.Access.{Access}
use Rattle.map_helpers.specs.declared.helper.Extent.{Extent}
use Rattle.map_helpers.specs.declared.helper.Extent.TheVariants.{Fixed, Second}
use Rattle.map_helpers.specs.declared.helper.Helper.{Helper}
use Rattle.map_helpers.specs.Helpers.{helper_of, arguments_of, fixed_size, reads, writes, max_answer}

-- The range of each register that holds a number for certain, the bytes of the stack that are initialized for certain,
-- and what is known of the words of the stack, whatever the code is called with.
pub record AbstractState : Type 0 where
  pub ranges : ℕ → Option Range
  pub initialized : ℕ → Bool
  pub words : Words

-- As a call begins: r1 has the address of the arguments, r2 their length, r10, the frame pointer, the
-- end of the frame. (RFC 9669, 2.1)
abbrev pub start_state : Profile → AbstractState
start_state profile = record {
  ranges = λ r.
      if r == 1 then Some (single arguments_start)
      else if r == 2 then Some (range 0 256)
      else if r == 10 then Some (single (frame_end 0))
      else None;
  initialized = λ a. false;
  words = start_words profile;
}

-- The join of what two states say of a register.
abbrev pub join_option : Option Range → Option Range → Option Range
join_option (Some a) (Some b) = Some (join_of a b)
join_option (Some a) None = None
join_option None b = None

-- The join of two states: what is certain in both.
abbrev pub join : AbstractState → AbstractState → AbstractState
join a b = record {
  ranges = λ r. join_option (a.ranges r) (b.ranges r);
  initialized = λ address. a.initialized address && b.initialized address;
  words = join_words a.words b.words;
}

-- The join of all these states; there is none where no edge leads to a slot.
abbrev pub join_all : List AbstractState → Option AbstractState
join_all [] = None
join_all (s ∷ ss) = Some (fold join s ss)

-- ---- what an instruction reads

abbrev pub source_operands : Source → List ℕ
source_operands (source.Imm value) = []
source_operands (source.Reg reg) = reg.number ∷ []

abbrev pub helper_operands : Option Helper → List ℕ
helper_operands None = []
helper_operands (Some helper) = arguments_of helper

-- The registers that an arithmetic instruction reads.
abbrev pub alu_operands : AluOp → ℕ → Source → List ℕ
alu_operands op dst src = (if reads_destination op then dst ∷ [] else []) ++ source_operands src

-- The registers that an instruction reads, in the order in which they are checked.
abbrev pub operands : Insn → List ℕ
operands (Alu width op dst src) = alu_operands op dst.number src
operands (Swap kind width dst) = dst.number ∷ []
operands (Load size signed dst base offset) = base.number ∷ []
operands (StoreImm size base offset imm) = base.number ∷ []
operands (Store size base offset src) = base.number ∷ src.number ∷ []
operands (Test narrow test dst src offset) = dst.number ∷ source_operands src
operands (CallHelper number) = helper_operands (helper_of number)
operands Exit = 0 ∷ []
operands _ = []

-- Whether all these registers hold a number for certain.
abbrev pub has_all : (ℕ → Option Range) → List ℕ → Bool
has_all ranges registers = list_all (λ r. is_some (ranges r)) registers

abbrev pub has_operands : AbstractState → Insn → Bool
has_operands state insn = has_all state.ranges (operands insn)

-- ---- accesses to memory

-- Whether so many bytes from an address on are all initialized.
abbrev pub all_initialized : (ℕ → Bool) → ℕ → ℕ → Bool
all_initialized initialized address zero = true
all_initialized initialized address (suc n) = initialized address && all_initialized initialized (address + 1) n

-- How many bytes an access of this size may touch, from the least address on.
abbrev pub extent : Range → ℕ → ℕ
extent range size = range.hi + size - range.lo

-- Whether all bytes that an access may touch lie in the frames in use, or all in the arguments.
abbrev pub in_bounds : ℕ → Option Range → ℕ → Bool
in_bounds d None size = false
in_bounds d (Some range) size = is_in_bounds d range.lo (extent range size)

-- Whether all bytes of the stack that an access may touch are initialized. The arguments always are.
abbrev pub is_initialized : (ℕ → Bool) → Option Range → ℕ → Bool
is_initialized initialized None size = false
is_initialized initialized (Some range) size =
    nat_le arguments_start range.lo || all_initialized initialized range.lo (extent range size)

-- A write initialized its bytes where its address is a single number.
abbrev pub is_written : Option Range → ℕ → ℕ → Bool
is_written None size address = false
is_written (Some range) size address =
    is_single range && nat_le range.lo address && nat_lt address (range.lo + size)

-- The range of the address that a load or a store accesses: its base's, and the offset added. (RFC 9669, 5.1)
abbrev pub address_range : AbstractState → ℕ → ℤ → Option Range
address_range state base offset =
    option_map (λ r. transfer64_of Add r (single (cast_unsigned w64 offset))) (state.ranges base)

abbrev pub helper_reads : Option Helper → List Access
helper_reads None = []
helper_reads (Some helper) = reads helper

abbrev pub helper_writes : Option Helper → List Access
helper_writes None = []
helper_writes (Some helper) = writes helper

abbrev pub helper_max_answer : Option Helper → ℕ
helper_max_answer None = 0
helper_max_answer (Some helper) = max_answer helper

-- The greatest number of bytes that an access of a helper may have.
abbrev pub max_size : (ℕ → Option Range) → Extent → Option ℕ
max_size ranges (Fixed n) = Some n
max_size ranges Second = option_map (λ range. range.hi) (ranges 2)

-- A check of so many bytes. It passes where they are none.
abbrev pub check_sized : (ℕ → Bool) → Option ℕ → Bool
check_sized check None = false
check_sized check (Some n) = n == 0 || check n

-- Whether all bytes that an access of a helper may touch are in bounds.
abbrev pub access_in_bounds : ℕ → (ℕ → Option Range) → Access → Bool
access_in_bounds d ranges access =
    check_sized (λ n. in_bounds d (ranges access.register) n) (max_size ranges access.size)

-- Whether all bytes of the stack that an access of a helper may touch are initialized.
abbrev pub access_initialized : (ℕ → Bool) → (ℕ → Option Range) → Access → Bool
access_initialized initialized ranges access =
    check_sized (λ n. is_initialized initialized (ranges access.register) n) (max_size ranges access.size)

abbrev pub all_in_bounds : ℕ → (ℕ → Option Range) → List Access → Bool
all_in_bounds d ranges accesses = list_all (access_in_bounds d ranges) accesses

abbrev pub are_initialized : (ℕ → Bool) → (ℕ → Option Range) → List Access → Bool
are_initialized initialized ranges accesses = list_all (access_initialized initialized ranges) accesses

-- Whether all bytes that an instruction may touch are in bounds: of a helper those that it reads, then those that it
-- writes.
abbrev pub has_accesses : ℕ → AbstractState → Insn → Bool
has_accesses d state (Load size signed dst base offset) =
    in_bounds d (address_range state base.number offset) (bytes_of size)
has_accesses d state (StoreImm size base offset imm) =
    in_bounds d (address_range state base.number offset) (bytes_of size)
has_accesses d state (Store size base offset src) =
    in_bounds d (address_range state base.number offset) (bytes_of size)
has_accesses d state (CallHelper number) =
    all_in_bounds d state.ranges (helper_reads (helper_of number) ++ helper_writes (helper_of number))
has_accesses d state _ = true

-- Whether all bytes that an instruction may read are initialized.
abbrev pub has_bytes : AbstractState → Insn → Bool
has_bytes state (Load size signed dst base offset) =
    is_initialized state.initialized (address_range state base.number offset) (bytes_of size)
has_bytes state (CallHelper number) =
    are_initialized state.initialized state.ranges (helper_reads (helper_of number))
has_bytes state _ = true

-- ---- what an instruction makes of a state

abbrev pub source_range : AbstractState → Source → Option Range
source_range state (source.Imm value) = Some (single (cast_unsigned w64 value))
source_range state (source.Reg reg) = state.ranges reg.number

-- The first operand, where it is read.
abbrev pub destination_range : AbstractState → AluOp → ℕ → Option Range
destination_range state op dst = if reads_destination op then state.ranges dst else Some (single 0)

-- What an instruction of a width makes of its operands' ranges.
abbrev pub transfer : AluWidth → AluOp → Range → Range → Range
transfer W32 op a b = transfer32_of op a b
transfer W64 op a b = transfer64_of op a b

abbrev pub alu_range : AbstractState → AluWidth → AluOp → ℕ → Source → Option Range
alu_range state width op dst src = do
  b ← source_range state src
  a ← destination_range state op dst
  Some (transfer width op a b)

-- What can be loaded: any number of a size; where its sign is extended, any number at all.
abbrev pub loaded_range : Size → Bool → Range
loaded_range size false = range 0 (2 ^ (8 * bytes_of size) - 1)
loaded_range size true = full W64

-- What a load gives: of 8 bytes what is known of the word there.
abbrev pub range_after_load : AbstractState → Size → Bool → Option Range → Range
range_after_load state B signed address = loaded_range B signed
range_after_load state H signed address = loaded_range H signed
range_after_load state W signed address = loaded_range W signed
range_after_load state Dw true address = loaded_range Dw true
range_after_load state Dw false address = word_at state.words address

abbrev pub with_range : AbstractState → ℕ → Option Range → AbstractState
with_range state dst range = record state { ranges = λ r. if r == dst then range else state.ranges r }

-- What is known of the number that a register holds.
abbrev pub range_or_full : Option Range → Range
range_or_full None = full W64
range_or_full (Some range) = range

-- A store initializes its bytes where its address is a single number. The words that it may touch hold another number
-- from then on: what was stored, where that is known.
abbrev pub after_store : AbstractState → Option Range → ℕ → Range → AbstractState
after_store state range size value =
    record state {
      initialized = λ address. is_written range size address || state.initialized address;
      words = words_after state.words range size value;
    }

-- After a helper r0 holds a number up to its greatest answer, and r1 to r5 nothing. What it wrote is initialized where
-- its address is a single number, and nothing is known of the words that it may have written.
abbrev pub after_helper : AbstractState → ℕ → List Access → AbstractState
after_helper state most written = record {
  ranges = λ r.
      if r == 0 then Some (range 0 most)
      else if nat_le 6 r then state.ranges r
      else None;
  initialized = λ address.
      list_any (λ access. is_written (state.ranges access.register) (fixed_size access.size) address) written
      || state.initialized address;
  words = record {
    followed = state.words.followed;
    ranges = λ w.
        if list_any (λ access. may_write (state.ranges access.register) (fixed_size access.size) w) written then full W64
        else state.words.ranges w;
  };
}

-- As a function of the code is entered at depth d: r1 to r5 are its caller's, r10, the frame pointer, is the end of its
-- frame; no other register holds anything. What its callers initialized is initialized, and their words are known.
-- (RFC 9669, 2.1)
abbrev pub entry_state : ℕ → AbstractState → AbstractState
entry_state d state = record {
  ranges = λ r.
      if r == 10 then Some (single (frame_end d))
      else if nat_le 1 r && nat_le r 5 then state.ranges r
      else None;
  initialized = state.initialized;
  words = state.words;
}

-- Behind a call, given the state at it and that at the exit of the callee, whose frame is at depth d: r0 is the
-- callee's, r6 to r10 are the caller's own, r1 to r5 hold nothing. What is initialized at the exit is, and words that
-- are known there are, but for the callee's frame. (RFC 9669, 2.1)
abbrev pub after_call : ℕ → AbstractState → AbstractState → AbstractState
after_call d state returned = record {
  ranges = λ r.
      if r == 0 then returned.ranges 0
      else if nat_le 6 r then state.ranges r
      else None;
  initialized = λ address. returned.initialized address && not (is_in_frame d address);
  words = words_without d returned.words;
}

-- The state behind an instruction. Jumps and tests write nothing; what a local call does, its callee says.
abbrev pub after_insn : AbstractState → Insn → AbstractState
after_insn state (Alu width op dst src) = with_range state dst.number (alu_range state width op dst.number src)
after_insn state (Swap kind width dst) =
    with_range state dst.number (option_map (swap_range_of kind width) (state.ranges dst.number))
after_insn state (LoadImm dst value) = with_range state dst.number (Some (single value))
after_insn state (Load size signed dst base offset) =
    with_range state dst.number (Some (range_after_load state size signed (address_range state base.number offset)))
after_insn state (StoreImm size base offset imm) =
    after_store state (address_range state base.number offset) (bytes_of size) (stored_range size (single (cast_unsigned w64 imm)))
after_insn state (Store size base offset src) =
    after_store state (address_range state base.number offset) (bytes_of size) (stored_range size (range_or_full (state.ranges src.number)))
after_insn state (CallHelper number) =
    after_helper state (helper_max_answer (helper_of number)) (helper_writes (helper_of number))
after_insn state _ = state

-- ---- edges

-- An edge: a slot that may run next, and the abstract state that flows to it.
pub record Edge : Type 0 where
  pub target : ℕ
  pub state : AbstractState

abbrev pub edge : ℕ → AbstractState → Edge
edge target state = record { target = target; state = state }

-- The edge to a slot, where there is such a slot and such a state.
abbrev pub edge_if : Option ℕ → Option AbstractState → List Edge
edge_if (Some target) (Some state) = edge target state ∷ []
edge_if (Some target) None = []
edge_if None state = []

-- What a test compares with.
abbrev pub tested_range : AbstractState → Bool → Source → Option Range
tested_range state narrow (source.Imm value) = Some (single (tested_immediate narrow value))
tested_range state narrow (source.Reg reg) = state.ranges reg.number

-- The operands of a test have new ranges. Where both are one register, it keeps its range.
abbrev pub with_ranges : AbstractState → ℕ → Source → Ranges → AbstractState
with_ranges state dst (source.Imm value) r = with_range state dst (Some r.a)
with_ranges state dst (source.Reg src) r =
    if dst == src.number then state
    else with_range (with_range state dst (Some r.a)) src.number (Some r.b)

-- The state behind a test that is taken, or isn't, unless that can't be. (RFC 9669, 4.3)
abbrev pub after_test : AbstractState → Bool → tests.Test → ℕ → Source → Bool → Option AbstractState
after_test state narrow test dst src taken = do
  b ← tested_range state narrow src
  a ← state.ranges dst
  r ← refine_of test narrow a b taken
  Some (with_ranges state dst src r)

-- The edge to the slot behind an instruction.
abbrev pub onward : ℕ → AbstractState → Insn → List Edge
onward slot state insn = edge (slot + slots_of insn) (after_insn state insn) ∷ []

-- The edges out of an instruction at a slot, within its function: of a test first the one to the slot behind it. From a
-- local call one leads behind it, where its callee returns: the state there is given by the slot of the callee and the
-- state at the call.
abbrev pub edges : (ℕ → AbstractState → Option AbstractState) → ℕ → AbstractState → Insn → List Edge
edges behind slot state (Alu width op dst src) = onward slot state (Alu width op dst src)
edges behind slot state (Swap kind width dst) = onward slot state (Swap kind width dst)
edges behind slot state (LoadImm dst value) = onward slot state (LoadImm dst value)
edges behind slot state (Load size signed dst base offset) = onward slot state (Load size signed dst base offset)
edges behind slot state (StoreImm size base offset imm) = onward slot state (StoreImm size base offset imm)
edges behind slot state (Store size base offset src) = onward slot state (Store size base offset src)
edges behind slot state (Jump offset) = edge_if (target_of slot offset) (Some state)
edges behind slot state (JumpLong offset) = edge_if (target_of slot offset) (Some state)
edges behind slot state (Test narrow test dst src offset) =
    edge_if (Some (slot + 1)) (after_test state narrow test dst.number src false)
    ++ edge_if (target_of slot offset) (after_test state narrow test dst.number src true)
edges behind slot state (CallHelper number) = onward slot state (CallHelper number)
edges behind slot state (CallLocal offset) =
    edge_if (Some (slot + 1)) (target_of slot offset >>= λ target. behind target state)
edges behind slot state Exit = []

-- x is an element of the list.
abbrev pub IsOneOf : {X : Type 0} → X → List X → Type 0
IsOneOf x [] = ⊥
IsOneOf x (y ∷ ys) = (x ≡ y) ⊎ IsOneOf x ys
