-- Internal: what the parts of a stage do.
use Rattle.std.specs.Prelude.{◌≡◌, ◌≢◌, ℕ, List, [], Option, Some, None, Ok, ◌++◌, ◌∷◌, Bool, true, false}
use Rattle.host_types.specs.declared.ReplicaId.{ReplicaId}
use Rattle.script_text.specs.declared.script.Filter.{Filter}
use Rattle.pbft_codec.specs.Encoding.{signed_text}
use Rattle.pbft_codec.specs.declared.body.Body.{Body}
use Rattle.pbft_codec.specs.declared.body.request.RequestBody.{RequestBody}
use Rattle.pbft_codec.specs.declared.signed.Signed.{Signed}
use Rattle.script_text.specs.declared.script.Order.{Order}
use Rattle.script_text.specs.declared.script.Step.{Step}
use Rattle.script_text.specs.declared.script.Step.TheVariants as steps
use Rattle.script_text.specs.Node.{Node}
use Rattle.script_text.specs.Node.TheVariants.{Client}
use Rattle.sha2.specs.Sha256.{sha256}
use Rattle.world_queue.specs.Letters.{IsTaken, LetterFacts, copies, first_meant, letter_of}
use Rattle.drained_records.specs.Facts.{RowFacts}
use Rattle.drained_records.specs.Worlds.{Gives, WorldFacts, member_of}
use Rattle.drained_records.specs.Event.{Event}
use Rattle.world_script.specs.Facts.{StageFacts}
use Rattle.world_queue.specs.declared.fates.Fate.{Fate}
use Rattle.world_queue.specs.declared.fates.Fate.TheVariants as fates
use Rattle.world_script.specs.Seen.{Seen, Tells, acts_seen, befalling, expired_row, expiring, handing, row_of, step_seen, timeouts_seen}
use Rattle.world_script.specs.Stages.{AllTimeOut, Befalls, HandsTo, Prints, TimesOut, halt_in, lacked_memory, letters_in, queued, receivers}

-- An event happens at a replica, which gives this row or none.
pub record Happened (s : StageFacts) (id : ReplicaId) (event : Event) (row : Option RowFacts) (t : StageFacts) : Type 0 where
  pub world : WorldFacts
  pub gives : Gives s.world event (Ok row) world
  pub continues : lacked_memory (halt_in (member_of world id.0)) ≡ false
  pub new : t ≡ queued (record s { world = world }) (letters_in s.world.config id row)
  pub config : world.config ≡ s.world.config

-- A message with this request is queued as an order says.
abbrev pub with_message : StageFacts → Order → Signed Body → RequestBody → StageFacts
with_message s o m b = record s {
  made = s.made ++ record { client = o.client; time = b.time; digest = record { 0 = sha256 (signed_text m) } } ∷ [];
  queue = s.queue ++ copies (letter_of (Client o.client) m) (receivers s.world.config o.to);
}

-- the stage with these letters ahead of its own
abbrev pub ahead : List LetterFacts → StageFacts → StageFacts
ahead os s = record s { queue = os ++ s.queue }

-- A letter is taken out that is meant, behind so many others that are.
abbrev pub IsLeft : Filter → ℕ → StageFacts → LetterFacts → StageFacts → Type 0
IsLeft f passed s letter t = (left : List LetterFacts) × IsTaken f passed s.queue letter left × (t ≡ record s { queue = left })

-- Bytes come to a node, which gives this row or none.
abbrev pub Takes : Node → StageFacts → List ℕ → List ℕ → Option RowFacts → StageFacts → Type 0
Takes node s bytes text row t = (handed : HandsTo node s bytes text t) × (row ≡ row_of node s bytes text t handed)

-- A timer expires, and the replica gives this row or none.
abbrev pub Expires : StageFacts → ReplicaId → Option RowFacts → StageFacts → Type 0
Expires s at row t = (times_out : TimesOut s at t) × (row ≡ expired_row s at t times_out)

-- ---- what is told

abbrev pub TellsHanding : LetterFacts → ℕ → StageFacts → List ℕ → StageFacts → (List Seen → Type 0) → (List Seen → Type 0) → Type 0
TellsHanding letter passed s text t told later =
    (handed : HandsTo letter.to s letter.bytes text t) × Tells told (handing letter passed s text t handed ∷ []) later

abbrev pub TellsTimeout : StageFacts → ReplicaId → StageFacts → (List Seen → Type 0) → (List Seen → Type 0) → Type 0
TellsTimeout s at t told later = (expires : TimesOut s at t) × Tells told (expiring s at t expires ∷ []) later

abbrev pub TellsTimeouts : StageFacts → List ReplicaId → StageFacts → (List Seen → Type 0) → (List Seen → Type 0) → Type 0
TellsTimeouts s ids t told later = (all : AllTimeOut s ids t) × Tells told (timeouts_seen s ids t all) later

abbrev pub TellsFate : Fate → Filter → StageFacts → List ℕ → StageFacts → (List Seen → Type 0) → (List Seen → Type 0) → Type 0
TellsFate what f s text t told later = (befalls : Befalls what f s text t) × Tells told (befalling what f s text t befalls ∷ []) later

-- The first letter that is meant is delivered, and those that were passed over are set aside; or none is meant.
abbrev pub DeliversNext : Filter → StageFacts → Option (List ℕ) → List LetterFacts → StageFacts → (List Seen → Type 0) → (List Seen → Type 0) → Type 0
DeliversNext f s None aside t told later = (first_meant f s.queue ≡ None) × (t ≡ s) × Tells told [] later
DeliversNext f s (Some text) aside t told later = TellsFate (fates.Handed 0) f s text (ahead aside t) told later × (first_meant f aside ≡ None)

-- One more is meant; or none is, and nothing changes.
abbrev pub HasMore : Filter → StageFacts → StageFacts → Bool → Type 0
HasMore f s t true = first_meant f s.queue ≢ None
HasMore f s t false = (first_meant f s.queue ≡ None) × (t ≡ s)

-- A step that delivers nothing: what it does is told.
abbrev pub TellsActs : StageFacts → Step → List ℕ → StageFacts → (List Seen → Type 0) → (List Seen → Type 0) → Type 0
TellsActs s (steps.Deliver f order) text t told later = text ≡ []
TellsActs s other text t told later = (prints : Prints s other text t) × Tells told (acts_seen s other text t prints) later

-- And what it prints.
abbrev pub TellsStep : StageFacts → Step → List ℕ → StageFacts → (List Seen → Type 0) → (List Seen → Type 0) → Type 0
TellsStep s (steps.Deliver f order) text t told later = text ≡ []
TellsStep s other text t told later = (prints : Prints s other text t) × Tells told (step_seen s other text t prints) later
