-- Statement: what comes of a script under one order of its deliveries.
use Rattle.std.specs.Prelude.{◌≡◌, ◌≢◌, ℕ, List, [], Some, None, Ok, Err, map}
use Rattle.script_text.specs.ScriptKind.TheVariants as kinds
use Rattle.script_text.specs.declared.script.Script.{Script}
use Rattle.script_text.specs.declared.script.Step.{Step}
use Rattle.script_text.specs.declared.script.Step.TheVariants as steps
use Rattle.world_script.specs.Waiting.{first_open}
use Rattle.world_script.specs.AuditFault.TheVariants as audits
use Rattle.world_script.specs.Audits.{IsAudit}
use Rattle.world_script.specs.Execution.{Execution}
use Rattle.world_script.specs.Expecting.{Scene, differing_line, first_scene}
use Rattle.world_script.specs.Facts.{StageFacts}
use Rattle.world_script.specs.Scripts.{BreaksOff, Plays}
use Rattle.world_script.specs.Stages.{Overruns}
use Rattle.world_script.specs.Worlds.{WorldFacts}
use Rattle.world_trace.specs.declared.explore.Outcome.{Outcome}
use Rattle.world_trace.specs.declared.explore.Outcome.TheVariants as outcomes
use Rattle.world_trace.specs.declared.explore.Wanted.{Wanted}
use Rattle.world_trace.specs.declared.explore.Wanted.TheVariants as wants

-- All steps of a script are done.
pub record ComesTo (script : Script) (t : StageFacts) : Type 0 where
  pub text : List ℕ
  pub scene : Scene
  pub plays : Plays (first_scene script.head) script.steps text scene
  pub stage_is : t ≡ scene.stage

-- The rows of the correct replicas agree.
abbrev pub Agrees : WorldFacts → Type 0
Agrees w = (history : List Execution) × IsAudit (map (λ m. m.rows) w.members) (Ok history)

-- Where answers are wanted, no client's request is open.
abbrev pub AnswersWanted : Wanted → StageFacts → Type 0
AnswersWanted wants.Agreement t = Unit {0}
AnswersWanted wants.Answers t = first_open t.sessions ≡ None

-- An `expect` finds other lines, from this one on.
abbrev pub FindsOther : ℕ → Scene → Step → List ℕ → Type 0
FindsOther line s (steps.Expect expected) text = (differing_line expected s.unread ≡ Some line) × (text ≡ [])
FindsOther line s other text = ⊥

abbrev pub IsOutcome : Script → Wanted → Outcome → Type 0
IsOutcome script wanted outcomes.Agreed = (t : StageFacts) × ComesTo script t × Agrees t.world × AnswersWanted wanted t
IsOutcome script wanted (outcomes.Audited fault) =
    (t : StageFacts) × ComesTo script t × (fault ≢ audits.Memory) × IsAudit (map (λ m. m.rows) t.world.members) (Err fault)
IsOutcome script wanted (outcomes.Unanswered client time) =
    (t : StageFacts) × ComesTo script t × Agrees t.world × (wanted ≡ wants.Answers) × (first_open t.sessions ≡ Some (client, time))
IsOutcome script wanted (outcomes.Unexpected number line) = (text : List ℕ) × BreaksOff (first_scene script.head) script.steps number (FindsOther line) text
IsOutcome script wanted (outcomes.Faulted fault) =
    (fault.kind ≡ kinds.TooManyDeliveries) × ((text : List ℕ) × BreaksOff (first_scene script.head) script.steps fault.step (λ s. Overruns s.stage) text)
