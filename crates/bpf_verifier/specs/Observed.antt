-- Statement: what the verifier reports of a visit: what the data flow says holds before the instruction.
use Rattle.std.specs.Prelude.{◌≡◌, ℕ, zero, suc, ◌+◌, ◌-◌, List, Option, Some}
use Rattle.bpf_decode.specs.declared.insn.Insn.{Insn}
use Rattle.bpf_model.specs.AbstractState as model
use Rattle.bpf_model.specs.AbstractState.{start_state}
use Rattle.bpf_model.specs.Code.{insns_by_slot, insn_at}
use Rattle.bpf_model.specs.Dataflow.{Activation, activation, called, entered, exits, state_at}
use Rattle.bpf_model.specs.Machine.{frames}
use Rattle.bpf_model.specs.declared.profile.Profile.{Profile}
use Rattle.bpf_model.specs.Profiles.{followed_words}
use Rattle.bpf_verifier.specs.declared.abstract_state.AbstractState.{AbstractState}
use Rattle.bpf_verifier.specs.Represents.{Represents}

-- The function that is entered at a slot in a state, where so many frames are left for those that it calls.
abbrev pub function : List Insn → ℕ → ℕ → model.AbstractState → Activation
function code left entry state = activation left (exits code left) entry state

-- A function that runs at a depth, under a profile: at depth 0 the one that begins at slot 0; one deeper, one that a local call of such a
-- function enters, with the state there.
abbrev pub IsActive : Profile → List Insn → ℕ → Activation → Type 0
IsActive profile code zero a = a ≡ function code (frames - 1) 0 (start_state profile)
IsActive profile code (suc depth) a =
    (caller : Activation) × (site : ℕ) × (state : model.AbstractState) × (insn : Insn) × (target : ℕ) × (left : ℕ)
    × IsActive profile code depth caller
    × (state_at code caller site ≡ Some state)
    × (insn_at code site ≡ Some insn)
    × (called site insn ≡ Some target)
    × (left + suc depth ≡ frames - 1)
    × (a ≡ function code left target (entered caller state))

-- A visit: of this instruction, at this slot of a function that runs at this depth, where the state is that of the data
-- flow.
pub record IsVisit {n : ℕ} (slots : List (Option Insn)) (depth slot : ℕ) (insn : Insn) (state : AbstractState n) : Type 0 where
  pub profile : Profile
  pub follows : followed_words profile ≡ n
  pub code : List Insn
  pub slots_are : slots ≡ insns_by_slot code
  pub running : Activation
  pub active : IsActive profile code depth running
  pub insn_is : insn_at code slot ≡ Some insn
  pub of : model.AbstractState
  pub of_is : state_at code running slot ≡ Some of
  pub represents : Represents state of
