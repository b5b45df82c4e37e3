-- Statement: the stages that a script passes, during its steps and behind them.
use Rattle.std.specs.Prelude.{◌≡◌, ℕ, List, [], ◌∷◌, ◌++◌}
use Rattle.std.specs.List.{AllByRecursion}
use Rattle.host_types.specs.Configuration.{Configuration}
use Rattle.host_types.specs.declared.ReplicaId.{ReplicaId}
use Rattle.lms_tree.specs.SigningState.{SigningState}
use Rattle.drained_records.specs.Leading.{IsSoundWorld}
use Rattle.drained_records.specs.Worlds.{Runs, first_world}
use Rattle.drained_records.specs.Event.{Event}
use Rattle.world_queue.specs.Accepted.{HasHeard as HasHeardSince}
use Rattle.world_queue.specs.Sessions.{SessionState}
use Rattle.script_text.specs.Heads.{HeadFacts}
use Rattle.script_text.specs.declared.script.NamedStep.{NamedStep}
use Rattle.script_text.specs.declared.script.Script.{Script}
use Rattle.script_text.specs.declared.script.Step.{Step}
use Rattle.script_text.specs.declared.script.Step.TheVariants as steps
use Rattle.world_script.specs.Expecting.{Scene, first_scene}
use Rattle.world_script.specs.Keys.{configuration_of, correct_from, replica_signers}
use Rattle.world_script.specs.Scripts.{Plays}
use Rattle.world_script.specs.Facts.{StageFacts}
use Rattle.world_script.specs.Stages.{AllTimeOut, Deliveries}
use Rattle.world_script.specs.Starts.{is_faulty}

-- A part of a step: some of its deliveries, or of its timeouts.
abbrev pub DoesPart : StageFacts → Step → StageFacts → Type 0
DoesPart s (steps.Deliver f order) t = (n : ℕ) × (text : List ℕ) × Deliveries f order n s text t
DoesPart s (steps.Timeout at) t = (first later : List ReplicaId) × (at ≡ first ++ later) × AllTimeOut s first t
DoesPart s other t = t ≡ s

abbrev pub DoesPartOfFirst : StageFacts → List NamedStep → StageFacts → Type 0
DoesPartOfFirst s [] t = t ≡ s
DoesPartOfFirst s (x ∷ later) t = DoesPart s x.step t

-- A stage behind some steps of a script and a part of the next one.
pub record Passes (script : Script) (t : StageFacts) : Type 0 where
  pub before : List NamedStep
  pub later : List NamedStep
  pub splits : script.steps ≡ before ++ later
  pub text : List ℕ
  pub scene : Scene
  pub plays : Plays (first_scene script.head) before text scene
  pub part : DoesPartOfFirst scene.stage later t

-- the signers that the correct replicas of a script begin with
abbrev pub correct_signers : HeadFacts → List SigningState
correct_signers h = correct_from (is_faulty h) 0 (replica_signers h)

-- A session made its open request, or none yet, and was then offered messages, which all opened.
pub record HasHeard (c : Configuration) (x : SessionState) : Type 0 where
  pub config : x.config ≡ c
  pub asking : SessionState
  pub under : asking.config ≡ c
  pub fresh : asking.answers ≡ []
  pub heard : HasHeardSince asking x

-- Events lead to the stage's world from the head's first one, none of them refused; and the world is sound. Each session
-- has heard authentic messages.
pub record IsOnRun (h : HeadFacts) (t : StageFacts) : Type 0 where
  pub events : List Event
  pub runs : Runs (first_world (configuration_of h) (is_faulty h) (correct_signers h)) events t.world
  pub sound : IsSoundWorld (configuration_of h) (is_faulty h) (correct_signers h) t.world
  pub heard : AllByRecursion (HasHeard (configuration_of h)) t.sessions
