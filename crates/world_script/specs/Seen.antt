-- Statement: what is seen of a script while it runs, and what one who watches is told of it.
use Rattle.std.proofs.Common.{zero, suc}
use Rattle.std.specs.Prelude.{◌≡◌, ℕ, Bool, true, false, List, [], ◌∷◌, ◌++◌, map, filter, Option, Some, None, Result, Ok, Err, IfSome, String, string_bytes}
use Rattle.std.specs.Option.{option_map}
use Rattle.std.specs.declared.alloc.Global.{Global}
use Rattle.host_types.specs.declared.ReplicaId.{ReplicaId}
use Rattle.drained_records.specs.Event.TheVariants as events
use Rattle.drained_records.specs.Facts.{RowFacts}
use Rattle.drained_records.specs.Status.{Status}
use Rattle.drained_records.specs.Worlds.{MemberFacts, Where, WorldFacts, member_of}
use Rattle.script_text.specs.Node.{Node}
use Rattle.script_text.specs.Node.TheVariants.{Replica, Client}
use Rattle.script_text.specs.declared.script.DeliveryOrder.{DeliveryOrder}
use Rattle.script_text.specs.declared.script.Filter.{Filter}
use Rattle.script_text.specs.declared.script.NamedStep.{NamedStep}
use Rattle.script_text.specs.declared.script.QueueEdit.{QueueEdit}
use Rattle.script_text.specs.declared.script.QueueEdit.TheVariants as edits
use Rattle.script_text.specs.declared.script.Step.{Step}
use Rattle.script_text.specs.declared.script.Step.TheVariants as steps
use Rattle.world_queue.specs.Letters.{LetterFacts, is_meant}
use Rattle.world_queue.specs.declared.fates.Fate.{Fate}
use Rattle.world_queue.specs.declared.fates.Fate.TheVariants as fates
use Rattle.world_script.specs.Endings.{Ends, StepEnds}
use Rattle.world_script.specs.Expecting.{Scene}
use Rattle.world_script.specs.Facts.{StageFacts}
use Rattle.world_script.specs.Stages.{AllTimeOut, Befalls, Deliveries, HandsTo, Occurs, Overruns, Prints, Receives, TimesOut, Turn, fate_at, is_running, max_deliveries, quiet}
use Rattle.world_script.specs.declared.fault.RunFault.{RunFault}
use Rattle.world_script.specs.declared.fault.RunFault.TheVariants.{TooManyDeliveries, Write, Memory}
use Rattle.world_script.specs.declared.played.Played.{Played}
use Rattle.world_script.specs.declared.played.Played.TheVariants.{Whole, Unexpected}

-- What is seen: a letter that was handed over, with where its addressee stood before, how many letters that were meant it passed
-- over, the row that it gave, what was printed and the world then; a letter that was lost; a timeout, with where the replica stood
-- before, the row that it gave and the world then; and what a step printed that hands nothing over, with the stage behind it.
pub data Seen : Type 0 where
  Handed : Option Status → LetterFacts → ℕ → Option RowFacts → List ℕ → WorldFacts → Seen
  Lost : LetterFacts → Seen
  TimedOut : Option Status → ReplicaId → Option RowFacts → WorldFacts → Seen
  Printed : StageFacts → Step → List ℕ → Seen

-- where a correct replica stands; a client stands nowhere
abbrev pub standing : WorldFacts → Node → Option Status
standing w (Replica id) = option_map (λ (m : MemberFacts). m.replica.status) (member_of w id.0)
standing w (Client client) = None

-- ---- what is seen of an event

-- the row of what happened at a replica that runs; elsewhere there is none
abbrev pub row_where : (Runs Rests : Type 0) (b : Bool) → (Runs → Option RowFacts) → Where b Runs Rests → Option RowFacts
row_where Runs Rests true row happened = row happened
row_where Runs Rests false row rested = None

-- the row that an addressee gave
abbrev pub row_of : (node : Node) (s : StageFacts) (bytes text : List ℕ) (t : StageFacts) → HandsTo node s bytes text t → Option RowFacts
row_of (Replica id) s bytes text t handed =
    row_where (Receives s id bytes text t) (◌≡◌ {A = Turn} (text, t) (quiet s)) (is_running s.world id) (λ (r : Receives s id bytes text t). r.occurs.row) handed
row_of (Client client) s bytes text t handed = None

abbrev pub handing : (letter : LetterFacts) (passed : ℕ) (s : StageFacts) (text : List ℕ) (t : StageFacts) → HandsTo letter.to s letter.bytes text t → Seen
handing letter passed s text t handed =
    Handed (standing s.world letter.to) letter passed (row_of letter.to s letter.bytes text t handed) text t.world

-- the row that a replica gave whose timer expired
abbrev pub expired_row : (s : StageFacts) (at : ReplicaId) (t : StageFacts) → TimesOut s at t → Option RowFacts
expired_row s at t expires = row_where (Occurs s at (events.Timeout at) t) (t ≡ s) (is_running s.world at) (λ (o : Occurs s at (events.Timeout at) t). o.row) expires

abbrev pub expiring : (s : StageFacts) (at : ReplicaId) (t : StageFacts) → TimesOut s at t → Seen
expiring s at t expires = TimedOut (standing s.world (Replica at)) at (expired_row s at t expires) t.world

-- what is seen of a delivery, by what becomes of it
abbrev pub befalling : (what : Fate) (f : Filter) (s : StageFacts) (text : List ℕ) (t : StageFacts) → Befalls what f s text t → Seen
befalling (fates.Handed passed) f s text t d = handing d.letter passed (record s { queue = d.left }) text t d.handed
befalling (fates.Lost passed) f s text t d = Lost d.letter
befalling (fates.Repeated passed) f s text t d = handing d.letter passed (record s { queue = d.left ++ d.letter ∷ [] }) text t d.handed
befalling (fates.TimedOut at) f s text t d = expiring s at t d.times_out

-- ---- what is seen of a step

-- of so many deliveries, one after another
abbrev pub deliveries_seen : (f : Filter) (order : DeliveryOrder) (n : ℕ) (s : StageFacts) (text : List ℕ) (t : StageFacts) → Deliveries f order n s text t → List Seen
deliveries_seen f order zero s text t none = []
deliveries_seen f order (suc n) s text t (before, line, u, first, last, is) =
    deliveries_seen f order n s before u first ++ befalling (fate_at f order n u) f u line t last ∷ []

-- of timeouts, one after another
abbrev pub timeouts_seen : (s : StageFacts) (ids : List ReplicaId) (t : StageFacts) → AllTimeOut s ids t → List Seen
timeouts_seen s [] t none = []
timeouts_seen s (id ∷ ids) t (u, first, rest) = expiring s id u first ∷ timeouts_seen u ids t rest

-- each letter that a change of the queue loses, in its order
abbrev pub losses_seen : StageFacts → QueueEdit → List Seen
losses_seen s (edits.Drop f) = map Lost (filter (is_meant f) s.queue)
losses_seen s other = []

-- what is printed, if anything is
abbrev pub print_seen : StageFacts → Step → List ℕ → List Seen
print_seen t step [] = []
print_seen t step (c ∷ cs) = Printed t step (c ∷ cs) ∷ []

-- what a step that hands nothing over does, before what it prints is seen
abbrev pub acts_seen : (s : StageFacts) (step : Step) (text : List ℕ) (t : StageFacts) → Prints s step text t → List Seen
acts_seen s (steps.Timeout at) text t p = timeouts_seen s at t p.1
acts_seen s (steps.Edit e) text t p = losses_seen s e
acts_seen s other text t p = []

abbrev pub step_seen : (s : StageFacts) (step : Step) (text : List ℕ) (t : StageFacts) → Prints s step text t → List Seen
step_seen s (steps.Deliver f order) text t p = deliveries_seen f order p.0 s text t p.2
step_seen s other text t p = acts_seen s other text t p ++ print_seen t other text

-- of a step that means more messages than it delivers
abbrev pub overrun_seen : (s : StageFacts) (step : Step) (text : List ℕ) → Overruns s step text → List Seen
overrun_seen s (steps.Deliver f order) text o = deliveries_seen f order max_deliveries s text o.0 o.1
overrun_seen s other text o = []

-- ---- who is told

-- One who was told something is told what is seen behind it.
abbrev pub Tells : (List Seen → Type 0) → List Seen → (List Seen → Type 0) → Type 0
Tells old seen new = (before : List Seen) → old before → new (before ++ seen)

-- what is seen of a step, unless memory ran out or a write failed
abbrev pub run_seen : (s : StageFacts) (step : Step) (old new : Option (List ℕ)) (result : Result (String Global) RunFault) (t : StageFacts) → Ends s step old new result t → Option (List Seen)
run_seen s step old new (Ok text) t e = Some (step_seen s step (string_bytes text) t e.0)
run_seen s step old new (Err TooManyDeliveries) t e = Some (overrun_seen s step e.0 e.1)
run_seen s step old new (Err Memory) t e = None
run_seen s step old new (Err Write) t e = None

-- the same; of an `expect` nothing is seen
abbrev pub end_seen : (number : ℕ) (s : Scene) (x : NamedStep) (old new : Option (List ℕ)) (result : Result Played RunFault) (t : Scene) → StepEnds number s x old new result t → Option (List Seen)
end_seen number s x old new (Ok Whole) t e = Some (step_seen s.stage x.step e.0 e.1 e.2)
end_seen number s x old new (Ok Unexpected) t e = Some []
end_seen number s x old new (Err TooManyDeliveries) t e = Some (overrun_seen s.stage x.step e.0 e.1)
end_seen number s x old new (Err Memory) t e = None
end_seen number s x old new (Err Write) t e = None

-- A step ends, and one who watches is told what is seen of it.
abbrev pub RunTells : (s : StageFacts) (step : Step) (old new : Option (List ℕ)) (result : Result (String Global) RunFault) (t : StageFacts) → (List Seen → Type 0) → (List Seen → Type 0) → Type 0
RunTells s step old new result t told later =
    (e : Ends s step old new result t) × IfSome (run_seen s step old new result t e) (λ seen. Tells told seen later)

abbrev pub StepTells : (number : ℕ) (s : Scene) (x : NamedStep) (old new : Option (List ℕ)) (result : Result Played RunFault) (t : Scene) → (List Seen → Type 0) → (List Seen → Type 0) → Type 0
StepTells number s x old new result t told later =
    (e : StepEnds number s x old new result t) × IfSome (end_seen number s x old new result t e) (λ seen. Tells told seen later)
