-- Statement: what the exports answer that tell where a replica stands.
use Rattle.std.specs.Prelude.{◌≡◌, ◌⊎◌, ℕ, List, Option, Some, None}
use Rattle.host_types.specs.declared.View.{View}
use Rattle.handles.specs.Told.{AreTold}
use Rattle.handles.specs.Members.{MemberFacts}
use Rattle.pbft_model.specs.Core.{Core}
use Rattle.handles.specs.Halts as halts
use Rattle.handles.specs.Steps.{leaves_left_of}
use Rattle.handles.specs.Halt.{Halt}
use Rattle.service_model.specs.Encoding.{encoded}
use Rattle.member_calls.specs.Statuses.{bit, number_of}
use Rattle.member_calls.specs.declared.standing.Standing.{Standing}
use Rattle.member_calls.specs.declared.status.Status.TheVariants.{NoReplica, NoState, Memory}

abbrev pub halt_number : Option Halt → ℕ
halt_number None = 0
halt_number (Some halt) = halts.number_of halt

abbrev pub standing_of : MemberFacts → Standing
standing_of m = record {
  low = m.replica.status.low.0;
  executed = m.replica.status.executed.0;
  view = m.replica.status.view.0;
  active = bit m.replica.status.active;
  halted = halt_number m.replica.status.halted;
  leaves = leaves_left_of m.replica.core;
}

abbrev pub StandsIn : Option MemberFacts → ℕ → Standing → Standing → Type 0
StandsIn None status before after = (status ≡ number_of NoReplica) × (after ≡ before)
StandsIn (Some m) status before after = (status ≡ 0) × (after ≡ standing_of m)

abbrev pub StateOf : Option Core → ℕ → ℕ → List ℕ → List ℕ → Type 0
StateOf None status told before after = (status ≡ number_of NoState) × (after ≡ before)
StateOf (Some core) status told before after =
    AreTold (encoded core.service) status told before after ⊎ ((status ≡ number_of Memory) × (after ≡ before))

abbrev pub StateIn : Option MemberFacts → ℕ → ℕ → List ℕ → List ℕ → Type 0
StateIn None status told before after = (status ≡ number_of NoReplica) × (after ≡ before)
StateIn (Some m) status told before after = StateOf m.replica.core status told before after
