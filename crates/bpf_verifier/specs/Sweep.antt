-- Internal: what the sweep of a function has found as it comes to a slot.
use Rattle.std.specs.Prelude.{◌≡◌, ◌≢◌, ◌⊎◌, ℕ, suc, ◌+◌, ◌-◌, ◌<◌, ◌≤◌, max, replicate, List, [], ◌∷◌, ◌++◌, length, slice_index_or, slice_set, Option, Some, None, Box, ℤ}
use Rattle.std.specs.List.{AllByRecursion}
use Rattle.std.specs.Option.{option_map}
use Rattle.std.specs.declared.alloc.Global.{Global}
use Rattle.bpf_decode.specs.declared.insn.Insn.{Insn}
use Rattle.bpf_model.specs.Code.{insns_by_slot, insn_at, target_of}
use Rattle.bpf_model.specs.declared.profile.Profile.{Profile}
use Rattle.bpf_model.specs.Profiles.{followed_words}
use Rattle.bpf_model.specs.AbstractState as model
use Rattle.bpf_model.specs.AbstractState.{Edge, join_all, IsOneOf}
use Rattle.bpf_model.specs.Dataflow.{Activation, activation, entered, incoming, edges_at, exits, exits_below, Takes, Path, HasBound}
use Rattle.bpf_model.specs.Verdict.{structure_fault, Visit as ModelVisit, max_visits, visit_fault, visits_below, visits_in}
use Rattle.bpf_model.specs.declared.fault.VerifyFault.{VerifyFault}
use Rattle.bpf_verifier.specs.declared.dataflow.Visit.{Visit}
use Rattle.bpf_verifier.specs.declared.dataflow.Returned.{Returned}
use Rattle.bpf_verifier.specs.Observed.{IsActive}
use Rattle.bpf_verifier.specs.Represents.{Represents, RepresentsOption, join_with}

-- What is pending for each slot.
abbrev pub Pending : ℕ → Type 0
Pending n = List (Option (Box (Visit n) Global))

-- The visit that is there, if one is.
abbrev pub visit_in : {n : ℕ} → Option (Box (Visit n) Global) → Option (Visit n)
visit_in {n} o = option_map (λ (b : Box (Visit n) Global). b.value) o

-- What is pending represents a state, or there is neither.
abbrev pub RepresentsVisit : {n : ℕ} → Option (Visit n) → Option model.AbstractState → Type 0
RepresentsVisit {n} o of = RepresentsOption (option_map (λ (v : Visit n). v.state) o) of

-- What is pending for a slot.
abbrev pub pending_at : {n : ℕ} → Pending n → ℕ → Option (Visit n)
pending_at pending t = visit_in (slice_index_or pending t None)

-- The greater count of steps.
abbrev pub StepsJoined : {n : ℕ} → Option (Visit n) → ℕ → ℕ → Type 0
StepsJoined None steps after = after ≡ steps
StepsJoined (Some before) steps after = after ≡ max before.steps steps

-- What is pending after one more edge has brought a state, and so many steps.
abbrev pub VisitJoined : {n : ℕ} → Option (Visit n) → model.AbstractState → ℕ → Option (Visit n) → Type 0
VisitJoined before state steps None = ⊥
VisitJoined before state steps (Some after) =
    ((of : Option model.AbstractState) → RepresentsVisit before of → Represents after.state (join_with of state))
    × StepsJoined before steps after.steps

-- A visit brings this state and so many steps, where there is one.
abbrev pub Brings : {n : ℕ} → Option (Box (Visit n) Global) → Option model.AbstractState → ℕ → Type 0
Brings None None steps = Unit {0}
Brings None (Some of) steps = ⊥
Brings (Some visit) None steps = ⊥
Brings (Some visit) (Some of) steps = Represents visit.value.state of × (visit.value.steps ≡ steps)

-- An edge has brought its state to its target, and nowhere else.
pub record Pushed {n : ℕ} (e : Edge) (steps : ℕ) (old new : Pending n) : Type 0 where
  pub length_is : length new ≡ length old
  pub others : (t : ℕ) → t ≢ e.target → pending_at new t ≡ pending_at old t
  pub joined : e.target < length old → VisitJoined (pending_at old e.target) e.state steps (pending_at new e.target)

-- These edges have, one after the other.
abbrev pub Flowed : {n : ℕ} → List Edge → ℕ → Pending n → Pending n → Type 0
Flowed [] steps old new = old ≡ new
Flowed {n} (e ∷ es) steps old new = (mid : Pending n) × Pushed e steps old mid × Flowed es steps mid new

-- A visit takes no fewer steps.
abbrev pub HasAtLeast : {n : ℕ} → Option (Visit n) → ℕ → Type 0
HasAtLeast None steps = ⊥
HasAtLeast (Some visit) steps = steps ≤ visit.steps

-- What holds of the steps of a visit, where there is one.
abbrev pub OfSteps : {n : ℕ} → (ℕ → Type 0) → Option (Visit n) → Type 0
OfSteps P None = Unit {0}
OfSteps P (Some visit) = P visit.steps

-- No count of steps is above the number of visits since there were this many, and those are few.
pub record AreFew {n : ℕ} (base visits : ℕ) (pending : Pending n) (bound : ℕ) : Type 0 where
  pub pending_few : (t : ℕ) → OfSteps (λ steps. base + steps ≤ visits) (pending_at pending t)
  pub bound_few : base + bound ≤ visits
  pub visits_few : visits ≤ max_visits

-- Code whose structure has no fault.
abbrev pub IsStructured : List Insn → Type 0
IsStructured code = (slot : ℕ) → structure_fault code slot ≡ None

-- No visit has a fault.
abbrev pub AreRight : List ModelVisit → Type 0
AreRight visits = AllByRecursion (λ (v : ModelVisit). v.fault ≡ None) visits

-- Behind so many visits, which have none, comes one that has this fault at this slot.
pub record Fails (base : ℕ) (visits : List ModelVisit) (fault : VerifyFault) (slot : ℕ) : Type 0 where
  pub first : List ModelVisit
  pub visit : ModelVisit
  pub rest : List ModelVisit
  pub whole : visits ≡ first ++ visit ∷ rest
  pub right : AreRight first
  pub few : base + length first ≤ max_visits
  pub fault_is : visit_fault (base + length first) (Some visit) ≡ Some fault
  pub slot_is : slot ≡ visit.slot

-- A function that is swept: the code, how many frames are left for those that it calls, its slot, the state that it is
-- entered in, and how many visits there were before.
pub record Entered : Type 0 where
  pub code : List Insn
  pub left : ℕ
  pub entry : ℕ
  pub state : model.AbstractState
  pub base : ℕ

abbrev pub activation_of : Entered → Activation
activation_of f = activation f.left (exits f.code f.left) f.entry f.state

-- An instruction begins at the function's slot, and the code is well structured.
pub record IsEntered (f : Entered) : Type 0 where
  pub structured : IsStructured f.code
  pub insn : Insn
  pub begins : insn_at f.code f.entry ≡ Some insn

-- A function of these slots, for whose callees so many frames are left, and that runs at its depth under a profile that
-- follows so many words.
pub record IsRunning (words : ℕ) (slots : List (Option Insn)) (left : ℕ) (f : Entered) : Type 0 where
  pub slots_are : slots ≡ insns_by_slot f.code
  pub left_is : f.left ≡ left
  pub entered : IsEntered f
  pub profile : Profile
  pub follows : followed_words profile ≡ words
  pub active : IsActive profile f.code (7 - left) (activation_of f)

-- As the sweep comes to a slot: for it and each later one the state that all edges out of the slots before have
-- brought, and the length of the longest path; no visit of the slots before has a fault; what came to their exits, the
-- bound of their paths, and how many visits there were.
pub record SweepAt {words : ℕ} (f : Entered) (slot : ℕ) (pending : Pending words) (returned : Returned words) (visits : ℕ) : Type 0 where
  pub long : length pending ≡ length (insns_by_slot f.code)
  pub states : (t : ℕ) → slot ≤ t → t < length pending →
      RepresentsVisit (pending_at pending t) (join_all (incoming f.code (activation_of f) slot t))
  pub longest : (t : ℕ) → slot ≤ t → t < length pending → (n s before own : ℕ) (e : Edge) → s < slot →
      Path f.code (activation_of f) (HasBound f.code f.left) n before s →
      Takes f.code (activation_of f) (HasBound f.code f.left) s own →
      IsOneOf e (edges_at f.code (activation_of f) s) → e.target ≡ t →
      HasAtLeast (pending_at pending t) (before + own)
  pub met : (t : ℕ) → slot ≤ t → t < length pending →
      OfSteps (λ count. (n : ℕ) × Path f.code (activation_of f) (HasBound f.code f.left) n count t) (pending_at pending t)
  pub right : AreRight (visits_below f.code (activation_of f) (visits_in f.code f.left) slot)
  pub count : visits ≡ f.base + length (visits_below f.code (activation_of f) (visits_in f.code f.left) slot)
  pub exits_are : RepresentsVisit (visit_in returned.exit) (join_all (exits_below f.code (activation_of f) slot))
  pub enough : (n t before own : ℕ) → t < slot → Path f.code (activation_of f) (HasBound f.code f.left) n before t →
      Takes f.code (activation_of f) (HasBound f.code f.left) t own → before + own ≤ returned.bound
  pub reached : ((slot ≤ f.entry) × (returned.bound ≡ 0))
      ⊎ ((n : ℕ) × (t : ℕ) × (before : ℕ) × (own : ℕ) × Path f.code (activation_of f) (HasBound f.code f.left) n before t
      × Takes f.code (activation_of f) (HasBound f.code f.left) t own
      × (returned.bound ≡ before + own))

-- What a function has given as its sweep begins: no exit yet, and no path.
abbrev pub nothing_returned : {n : ℕ} → Returned n
nothing_returned = record { exit = None; bound = 0 }

-- What is pending as a function is entered, for so many slots: the visit of its own alone.
abbrev pub IsStart : {n : ℕ} → Pending n → ℕ → ℕ → Box (Visit n) Global → Type 0
IsStart pending slots entry visit = pending ≡ slice_set (replicate slots None) entry (Some visit)

-- A function was followed: none of its visits has a fault, and these are its exits, its bound and the number of visits
-- behind it.
pub record Followed {n : ℕ} (f : Entered) (returned : Returned n) (visits : ℕ) : Type 0 where
  pub right : AreRight (visits_in f.code (suc f.left) f.entry f.state)
  pub count : visits ≡ f.base + length (visits_in f.code (suc f.left) f.entry f.state)
  pub exits_are : RepresentsVisit (visit_in returned.exit) (join_all (exits f.code (suc f.left) f.entry f.state))
  pub bound : HasBound f.code (suc f.left) f.entry f.state returned.bound

-- A call in a function, whose state there is this, of the function at a slot, where so many frames are left for those
-- that the callee calls.
abbrev pub callee_of : Entered → model.AbstractState → ℕ → ℕ → ℕ → Entered
callee_of f state target left visits =
    record { code = f.code; left = left; entry = target; state = entered (activation_of f) state; base = visits }

-- It was followed.
abbrev pub CalledBack : {n : ℕ} → Entered → ℕ → ℤ → model.AbstractState → ℕ → Option (Returned n) → ℕ → Type 0
CalledBack f slot offset state before None visits = ⊥
CalledBack f slot offset state before (Some returned) visits =
    (target : ℕ) × (left : ℕ) × (target_of slot offset ≡ Some target) × (f.left ≡ suc left)
    × Followed (callee_of f state target left before) returned visits

-- One of its visits failed.
abbrev pub FailsInCall : Entered → ℕ → ℤ → model.AbstractState → ℕ → VerifyFault → ℕ → Type 0
FailsInCall f slot offset state before fault at_slot =
    (target : ℕ) × (left : ℕ) × (target_of slot offset ≡ Some target) × (f.left ≡ suc left)
    × Fails before (visits_in f.code (suc left) target (entered (activation_of f) state)) fault at_slot
