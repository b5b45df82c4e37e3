-- Statement: the data flow. The abstract state at a slot is the join over all edges to it. Edges lead to later slots of
-- the same function, so a slot's state depends on earlier slots alone. A local call is followed where it stands: its
-- callee is entered anew with the state at the call.
use Rattle.std.specs.Prelude.{◌≡◌, ℕ, zero, suc, ◌+◌, ◌-◌, ◌≤◌, ◌==◌, Bool, true, false, if◌then◌else◌, List, [], ◌∷◌, ◌++◌, length, map, filter, Option, Some, None}
use Rattle.std.specs.Option.{option_map}
use Rattle.bpf_decode.specs.declared.insn.Insn.{Insn}
use Rattle.bpf_decode.specs.declared.insn.Insn.TheVariants.{Alu, Swap, LoadImm, Load, StoreImm, Store, Jump, JumpLong, Test, CallHelper, CallLocal, Exit}
use Rattle.bpf_model.specs.Code.{insns_by_slot, insn_at, target_of}
use Rattle.bpf_model.specs.Machine.{frames}
use Rattle.bpf_model.specs.declared.profile.Profile.{Profile}
use Rattle.bpf_model.specs.AbstractState.{AbstractState, Edge, start_state, entry_state, after_call, join_all, edges, IsOneOf}

-- The slot of the function that an instruction calls, if it calls one of the code.
abbrev pub called : ℕ → Insn → Option ℕ
called slot (CallLocal offset) = target_of slot offset
called slot _ = None

-- Whether a function returns here.
abbrev pub is_exit : Insn → Bool
is_exit Exit = true
is_exit _ = false

-- The states at the exits of a function, given its slot and the state that it is entered in.
abbrev pub Exits : Type 0
Exits = ℕ → AbstractState → List AbstractState

-- A function that was entered: the depth of its frame, its slot, the abstract state there, and the exits of the
-- functions that it may call.
pub record Activation : Type 0 where
  pub depth : ℕ
  pub entry : ℕ
  pub state : AbstractState
  pub exits : Exits

-- The function that is entered where so many frames are left for those that it calls.
abbrev pub activation : ℕ → Exits → ℕ → AbstractState → Activation
activation left exits entry state = record { depth = frames - 1 - left; entry = entry; state = state; exits = exits }

-- The state in which a function is entered by a call.
abbrev pub entered : Activation → AbstractState → AbstractState
entered a state = entry_state (a.depth + 1) state

-- The state behind a call: the join over the exits of its callee, if there are any.
abbrev pub behind : Activation → ℕ → AbstractState → Option AbstractState
behind a target state = option_map (after_call (a.depth + 1) state) (join_all (a.exits target (entered a state)))

abbrev pub edges_of : Activation → ℕ → Option AbstractState → Option Insn → List Edge
edges_of a slot (Some state) (Some insn) = edges (behind a) slot state insn
edges_of a slot (Some state) None = []
edges_of a slot None insn = []

-- The states of those of these edges that lead to this slot.
abbrev pub flows_to : ℕ → List Edge → List AbstractState
flows_to t es = map (λ e. e.state) (filter (λ e. e.target == t) es)

-- The states that come to slot t over the edges out of the first n slots, and as the function is entered.
abbrev pub incoming : List Insn → Activation → ℕ → ℕ → List AbstractState
incoming code a zero t = if t == a.entry then a.state ∷ [] else []
incoming code a (suc n) t =
    incoming code a n t ++ flows_to t (edges_of a n (join_all (incoming code a n n)) (insn_at code n))

-- The state at a slot, or none where no edge leads to it.
abbrev pub state_at : List Insn → Activation → ℕ → Option AbstractState
state_at code a t = join_all (incoming code a t t)

-- The edges out of a slot.
abbrev pub edges_at : List Insn → Activation → ℕ → List Edge
edges_at code a slot = edges_of a slot (state_at code a slot) (insn_at code slot)

abbrev pub exit_of : Option AbstractState → Option Insn → List AbstractState
exit_of (Some state) (Some insn) = if is_exit insn then state ∷ [] else []
exit_of (Some state) None = []
exit_of None insn = []

-- The states at the exits among the first n slots, ascending.
abbrev pub exits_below : List Insn → Activation → ℕ → List AbstractState
exits_below code a zero = []
exits_below code a (suc n) = exits_below code a n ++ exit_of (state_at code a n) (insn_at code n)

-- The exits of functions, where so many frames are left. Where none is left no function returns.
abbrev pub exits : List Insn → ℕ → Exits
exits code zero entry state = []
exits code (suc left) entry state =
    exits_below code (activation left (exits code left) entry state) (length (insns_by_slot code))

-- ---- the bound

-- A bound of a function, given its slot and the state that it is entered in.
abbrev pub Bounds : Type 1
Bounds = ℕ → AbstractState → ℕ → Type 0

abbrev pub TakesIn : Activation → Bounds → AbstractState → Option ℕ → ℕ → Type 0
TakesIn a HasBound state None count = count ≡ 1
TakesIn a HasBound state (Some target) count = (bound : ℕ) × HasBound target (entered a state) bound × (count ≡ 1 + bound)

-- An instruction takes so many: itself, and for a local call those of its callee.
pub record Takes (code : List Insn) (a : Activation) (HasBound : Bounds) (slot count : ℕ) : Type 0 where
  pub state : AbstractState
  pub state_is : state_at code a slot ≡ Some state
  pub insn : Insn
  pub insn_is : insn_at code slot ≡ Some insn
  pub takes : TakesIn a HasBound state (called slot insn) count

-- A path of n edges from the entry to slot t, on which so many instructions run before t.
abbrev pub Path : List Insn → Activation → Bounds → ℕ → ℕ → ℕ → Type 0
Path code a HasBound zero count t = (t ≡ a.entry) × (count ≡ 0)
Path code a HasBound (suc n) count t =
    (s : ℕ) × (e : Edge) × (before : ℕ) × (own : ℕ) × Path code a HasBound n before s
    × Takes code a HasBound s own
    × IsOneOf e (edges_at code a s)
    × (e.target ≡ t)
    × (count ≡ before + own)

-- The greatest number of instructions on a path of a function, those of its last slot counted.
pub record IsLongest (code : List Insn) (a : Activation) (HasBound : Bounds) (bound : ℕ) : Type 0 where
  pub enough : (n t before own : ℕ) → Path code a HasBound n before t → Takes code a HasBound t own → before + own ≤ bound
  pub met : (n : ℕ) × (t : ℕ) × (before : ℕ) × (own : ℕ) × Path code a HasBound n before t × Takes code a HasBound t own × (bound ≡ before + own)

-- The bounds of functions, where so many frames are left. Where none is left nothing runs.
abbrev pub HasBound : List Insn → ℕ → Bounds
HasBound code zero entry state bound = bound ≡ 0
HasBound code (suc left) entry state bound =
    IsLongest code (activation left (exits code left) entry state) (HasBound code left) bound

-- The greatest number of instructions on a path of the code.
abbrev pub IsBound : Profile → List Insn → ℕ → Type 0
IsBound profile code bound = HasBound code frames 0 (start_state profile) bound
