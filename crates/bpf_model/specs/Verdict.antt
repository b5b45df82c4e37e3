-- Statement: which code is accepted, and with which bound; which is refused, and by which first fault.
use Rattle.std.specs.Prelude.{◌≡◌, ℕ, zero, suc, ◌+◌, ◌<◌, Bool, true, false, ◌&&◌, not, ◌==◌, nat_le, if◌then◌else◌, List, [], ◌∷◌, ◌++◌, length, slice_get, Option, Some, None, ◌⊎◌, option_and_then, ℤ, pos, negsuc}
use Rattle.std.specs.Option.{is_none}
use Rattle.bpf_decode.specs.declared.insn.Insn.{Insn}
use Rattle.bpf_decode.specs.declared.insn.Insn.TheVariants.{Alu, Swap, LoadImm, Load, StoreImm, Store, Jump, JumpLong, Test, CallHelper, CallLocal, Exit}
use Rattle.bpf_decode.specs.declared.refusal.DecodeFault.{DecodeFault}
pub use Rattle.bpf_decode.specs.Faults.{IsCode, IsRefused}
use Rattle.bpf_model.specs.declared.fault.VerifyFault.{VerifyFault}
use Rattle.bpf_model.specs.declared.fault.VerifyFault.TheVariants.{Decode, JumpBackward, JumpOutside, FallsOffEnd, UnknownHelper, WritesFramePointer, UninitRegister, BadAccess, UninitBytes, CallDepth, TooComplex}
use Rattle.bpf_model.specs.Code.{slots_of, insns_by_slot, insn_at, target_of}
use Rattle.map_helpers.specs.Helpers.{helper_of}
use Rattle.bpf_model.specs.AbstractState.{AbstractState, start_state, has_operands, has_accesses, has_bytes}
use Rattle.bpf_model.specs.Machine.{frames}
use Rattle.bpf_model.specs.declared.profile.Profile.{Profile}
use Rattle.bpf_model.specs.declared.profile.Profile.TheVariants.{One}
use Rattle.bpf_model.specs.Dataflow.{Activation, activation, called, entered, exits, state_at, IsBound}

-- Whether a jump leads to its own slot or an earlier one. Code may not loop. (RFC 9669, 4.3)
abbrev pub is_backward : ℤ → Bool
is_backward (pos n) = false
is_backward (negsuc n) = true

-- Whether an instruction is a jump, or a test, that leads back.
abbrev pub jumps_back : Insn → Bool
jumps_back (Jump offset) = is_backward offset
jumps_back (JumpLong offset) = is_backward offset
jumps_back (Test narrow test dst src offset) = is_backward offset
jumps_back _ = false

-- The offset of a jump, a test or a local call, of which the last may lead back.
abbrev pub offset_of : Insn → Option ℤ
offset_of (Jump offset) = Some offset
offset_of (JumpLong offset) = Some offset
offset_of (Test narrow test dst src offset) = Some offset
offset_of (CallLocal offset) = Some offset
offset_of _ = None

-- Whether no instruction begins where an offset leads to: it leads out of the code, or into a second half.
abbrev pub leads_outside : List Insn → ℕ → Option ℤ → Bool
leads_outside code slot None = false
leads_outside code slot (Some offset) = is_none (option_and_then (insn_at code) (target_of slot offset))

-- Whether the slot behind an instruction may run next.
abbrev pub falls_through : Insn → Bool
falls_through (Jump offset) = false
falls_through (JumpLong offset) = false
falls_through Exit = false
falls_through _ = true

-- Whether an instruction calls a helper that this host doesn't have.
abbrev pub calls_unknown : Insn → Bool
calls_unknown (CallHelper number) = is_none (helper_of number)
calls_unknown _ = false

-- Whether an instruction would write r10, the frame pointer: it is its destination. (RFC 9669, 2.1)
abbrev pub writes_r10 : Insn → Bool
writes_r10 (Alu width op dst src) = dst.number == 10
writes_r10 (Swap kind width dst) = dst.number == 10
writes_r10 (LoadImm dst value) = dst.number == 10
writes_r10 (Load size signed dst base offset) = dst.number == 10
writes_r10 _ = false

-- What is wrong with an instruction at a slot, whether it is reached or not.
abbrev pub insn_structure_fault : List Insn → ℕ → Insn → Option VerifyFault
insn_structure_fault code slot insn =
    if jumps_back insn then Some JumpBackward
    else if leads_outside code slot (offset_of insn) then Some JumpOutside
    else if falls_through insn && nat_le (length (insns_by_slot code)) (slot + slots_of insn) then Some FallsOffEnd
    else if calls_unknown insn then Some UnknownHelper
    else if writes_r10 insn then Some WritesFramePointer
    else None

abbrev pub slot_structure_fault : List Insn → ℕ → Option Insn → Option VerifyFault
slot_structure_fault code slot None = None
slot_structure_fault code slot (Some insn) = insn_structure_fault code slot insn

abbrev pub structure_fault : List Insn → ℕ → Option VerifyFault
structure_fault code slot = slot_structure_fault code slot (insn_at code slot)

-- Whether an instruction calls a function of the code.
abbrev pub calls_local : Insn → Bool
calls_local (CallLocal offset) = true
calls_local _ = false

-- What is wrong with an instruction that is visited in frame d, given the abstract state there: an operand that may
-- hold nothing, an access that may be out of bounds, a byte that is read and may not be initialized, a local call for
-- which no frame is left. Each is checked for all accesses before the next.
abbrev pub insn_dataflow_fault : ℕ → AbstractState → Insn → Option VerifyFault
insn_dataflow_fault d state insn =
    if not (has_operands state insn) then Some UninitRegister
    else if not (has_accesses d state insn) then Some BadAccess
    else if not (has_bytes state insn) then Some UninitBytes
    else if calls_local insn && nat_le frames (d + 1) then Some CallDepth
    else None

-- A visit: the slot, and what is wrong there.
pub record Visit : Type 0 where
  pub slot : ℕ
  pub fault : Option VerifyFault

-- The visits of a function, given its slot and the state that it is entered in.
abbrev pub Visits : Type 0
Visits = ℕ → AbstractState → List Visit

abbrev pub visits_of_callee : Activation → Visits → AbstractState → Option ℕ → List Visit
visits_of_callee a callee state None = []
visits_of_callee a callee state (Some target) = callee target (entered a state)

abbrev pub visits_of : Activation → Visits → ℕ → Option AbstractState → Option Insn → List Visit
visits_of a callee slot (Some state) (Some insn) =
    record { slot = slot; fault = insn_dataflow_fault a.depth state insn }
    ∷ visits_of_callee a callee state (called slot insn)
visits_of a callee slot (Some state) None = []
visits_of a callee slot None insn = []

-- The visits at a slot, where a path leads to it: its own, then, of a local call, those of its callee.
abbrev pub visits_at : List Insn → Activation → Visits → ℕ → List Visit
visits_at code a callee slot = visits_of a callee slot (state_at code a slot) (insn_at code slot)

-- The visits at the first n slots, ascending.
abbrev pub visits_below : List Insn → Activation → Visits → ℕ → List Visit
visits_below code a callee zero = []
visits_below code a callee (suc n) = visits_below code a callee n ++ visits_at code a callee n

-- The visits of functions, where so many frames are left.
abbrev pub visits_in : List Insn → ℕ → Visits
visits_in code zero entry state = []
visits_in code (suc left) entry state =
    visits_below code (activation left (exits code left) entry state) (visits_in code left) (length (insns_by_slot code))

-- The visits of code, in order.
abbrev pub visits : Profile → List Insn → List Visit
visits profile code = visits_in code frames 0 (start_state profile)

-- So many visits are made at most.
abbrev pub max_visits : ℕ
max_visits = 65536

abbrev pub visit_fault : ℕ → Option Visit → Option VerifyFault
visit_fault index None = None
visit_fault index (Some visit) = if nat_le max_visits index then Some TooComplex else visit.fault

-- What is wrong with the visit of an index, from 0.
abbrev pub dataflow_fault : Profile → List Insn → ℕ → Option VerifyFault
dataflow_fault profile code index = visit_fault index (slice_get (visits profile code) index)

-- The slot, or the visit, is the least that has a fault, and it has this one.
abbrev pub IsFirst : (ℕ → Option VerifyFault) → VerifyFault → ℕ → Type 0
IsFirst fault_at fault index = (fault_at index ≡ Some fault) × ((k : ℕ) → k < index → fault_at k ≡ None)

-- The first visit that has a fault is at this slot, and has this one.
pub record IsFirstVisit (profile : Profile) (code : List Insn) (fault : VerifyFault) (slot : ℕ) : Type 0 where
  pub index : ℕ
  pub visit : Visit
  pub visit_is : slice_get (visits profile code) index ≡ Some visit
  pub slot_is : slot ≡ visit.slot
  pub first : IsFirst (dataflow_fault profile code) fault index

-- Code that is accepted: no slot and no visit has a fault, and the bound is that of its longest path.
pub record IsAccepted (profile : Profile) (code : List Insn) (bound : ℕ) : Type 0 where
  pub structure : (slot : ℕ) → structure_fault code slot ≡ None
  pub dataflow : (index : ℕ) → dataflow_fault profile code index ≡ None
  pub longest : IsBound profile code bound

-- Code that is refused, for its first fault: of its structure, or else of its visits.
abbrev pub IsRejected : Profile → List Insn → VerifyFault → ℕ → Type 0
IsRejected profile code fault slot =
    IsFirst (structure_fault code) fault slot
    ⊎ ((k : ℕ) → structure_fault code k ≡ None) × IsFirstVisit profile code fault slot

-- The verdict of a profile on bytes: accepted with a bound.
abbrev pub AcceptsUnder : Profile → List ℕ → ℕ → Type 0
AcceptsUnder profile bytes bound = (code : List Insn) × IsCode bytes code × IsAccepted profile code bound

-- The verdict of a profile on bytes: refused, with the first fault and its slot. The decoder's come first.
abbrev pub RefusesUnder : Profile → List ℕ → VerifyFault → ℕ → Type 0
RefusesUnder profile bytes fault slot =
    ((reason : DecodeFault) × IsRefused bytes reason slot × (fault ≡ Decode reason))
    ⊎ ((code : List Insn) × IsCode bytes code × IsRejected profile code fault slot)

-- The verdicts of the first profile.
abbrev pub Accepts : List ℕ → ℕ → Type 0
Accepts bytes bound = AcceptsUnder One bytes bound

abbrev pub Refuses : List ℕ → VerifyFault → ℕ → Type 0
Refuses bytes fault slot = RefusesUnder One bytes fault slot
