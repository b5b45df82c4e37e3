-- Internal: how a step goes under an order.
use Rattle.std.specs.Prelude.{◌≡◌, ◌≢◌, ℕ, List, [], Option, Some, None, Err, Ok, map}
use Rattle.script_text.specs.Orders.{named_in}
use Rattle.script_text.specs.ScriptKind.TheVariants as kinds
use Rattle.script_text.specs.declared.script.DeliveryOrder.{DeliveryOrder}
use Rattle.script_text.specs.declared.script.NamedStep.{NamedStep}
use Rattle.script_text.specs.declared.script.Step.{Step}
use Rattle.script_text.specs.declared.script.Step.TheVariants as steps
use Rattle.world_script.specs.Waiting.{first_open}
use Rattle.world_script.specs.AuditFault.TheVariants as audits
use Rattle.world_script.specs.Audits.{IsAudit}
use Rattle.world_script.specs.Endings.{StepEnds}
use Rattle.world_script.specs.Expecting.{Scene, differing_line}
use Rattle.world_script.specs.Facts.{StageFacts}
use Rattle.world_script.specs.declared.fault.RunFault.TheVariants.{TooManyDeliveries}
use Rattle.world_script.specs.declared.played.Played.TheVariants.{Whole}
use Rattle.world_trace.specs.Exploring.{Agrees, AnswersWanted, FindsOther}
use Rattle.world_trace.specs.declared.explore.Outcome.{Outcome}
use Rattle.world_trace.specs.declared.explore.Outcome.TheVariants as outcomes
use Rattle.world_trace.specs.declared.explore.Wanted.{Wanted}
use Rattle.world_trace.specs.declared.explore.Wanted.TheVariants as wants

-- the first line in which an `expect` finds other lines
abbrev pub differing_in : List ℕ → Step → Option ℕ
differing_in unread (steps.Expect expected) = differing_line expected unread
differing_in unread other = None

-- A step of its own where the order changes it.
abbrev pub IsUnder : DeliveryOrder → NamedStep → Option NamedStep → Type 0
IsUnder order x None = named_in order x ≡ x
IsUnder order x (Some y) = y ≡ named_in order x

-- A step is done, or ends the script; what it prints goes nowhere.
abbrev pub StepExplored : ℕ → Scene → NamedStep → Option Outcome → Scene → Type 0
StepExplored number s x None t = StepEnds number s x None None (Ok Whole) t
StepExplored number s x (Some (outcomes.Unexpected at line)) t = (at ≡ number) × FindsOther line s x.step []
StepExplored number s x (Some (outcomes.Faulted fault)) t = (fault ≡ record { kind = kinds.TooManyDeliveries; step = number }) × StepEnds number s x None None (Err TooManyDeliveries) t
StepExplored number s x (Some other) t = ⊥

-- What holds at a stage behind all steps, as an outcome.
abbrev pub Judges : Wanted → StageFacts → Outcome → Type 0
Judges wanted t outcomes.Agreed = Agrees t.world × AnswersWanted wanted t
Judges wanted t (outcomes.Audited fault) = (fault ≢ audits.Memory) × IsAudit (map (λ m. m.rows) t.world.members) (Err fault)
Judges wanted t (outcomes.Unanswered client time) = Agrees t.world × (wanted ≡ wants.Answers) × (first_open t.sessions ≡ Some (client, time))
Judges wanted t (outcomes.Unexpected number line) = ⊥
Judges wanted t (outcomes.Faulted fault) = ⊥
