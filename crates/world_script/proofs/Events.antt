-- The events that lead to a stage's world.
use Rattle.std.proofs.Common.{◌≡◌, ℕ, zero, suc, Bool, true, false, List, [], ◌∷◌, ◌++◌, length, Option, Some, None, Ok, Err, refl, sym, ap, subst, ◌∙◌}
use Rattle.std.specs.Prelude.{Result}
use Rattle.host_types.specs.declared.ReplicaId.{ReplicaId}
use Rattle.seal.specs.Opening.{CheckedMessage, opening}
use Rattle.seal.specs.declared.fault.SealFault.{SealFault}
use Rattle.drained_records.proofs.RunLaws.{runs_lead, sound_worlds}
use Rattle.drained_records.specs.Worlds.{Runs, Where, WorldFacts, first_world}
use Rattle.drained_records.specs.Event.{Event}
use Rattle.world_queue.specs.Sessions.{SessionState}
use Rattle.host_types.specs.declared.ClientId.{ClientId}
use Rattle.script_text.specs.Heads.{IsLegal}
use Rattle.script_text.specs.declared.script.DeliveryOrder.{DeliveryOrder}
use Rattle.script_text.specs.declared.script.Filter.{Filter}
use Rattle.pbft_codec.specs.declared.body.Body.{Body}
use Rattle.script_text.specs.declared.script.Forgery.{Forgery}
use Rattle.script_text.specs.Node.{Node}
use Rattle.script_text.specs.Node.TheVariants.{Replica, Client}
use Rattle.script_text.specs.declared.script.Order.{Order}
use Rattle.script_text.specs.declared.script.NamedStep.{NamedStep}
use Rattle.script_text.specs.declared.script.Script.{Script}
use Rattle.script_text.specs.declared.script.Step.{Step}
use Rattle.script_text.specs.declared.script.Step.TheVariants as steps
use Rattle.world_queue.specs.declared.forging.Forger.{Forger}
use Rattle.world_script.specs.Edits.{edited}
use Rattle.world_script.specs.Expecting.{Scene, behind, first_scene}
use Rattle.world_script.specs.Keys.{configuration_of}
use Rattle.world_script.specs.Passing.{DoesPart, DoesPartOfFirst, IsOnRun, Passes, correct_signers}
use Rattle.world_script.specs.Scripts.{Plays}
use Rattle.world_script.specs.Facts.{StageFacts}
use Rattle.world_script.specs.Stages.{AllTimeOut, Befalls, Deliveries, Delivers, HandsTo, Occurs, Prints, Receives, TimesOut, Turn, at_client, fate_at, forged_body, forged_by, forged_for, is_running, message_of, quiet, requested_by, with_named, with_queue}
use Rattle.world_queue.specs.Parties.{signing_forger, signing_session}
use Rattle.world_queue.specs.Letters.{LetterFacts}
use Rattle.world_queue.specs.declared.fates.Fate.{Fate}
use Rattle.world_queue.specs.declared.fates.Fate.TheVariants.{Handed, Lost, Repeated, TimedOut}
use Rattle.world_script.specs.Starts.{is_faulty, start_of}
use Rattle.world_script.proofs.Hearing.{passed_hears}
use Rattle.world_script.proofs.LegalHeads.{head_configuration, head_listed}

-- ---- runs

runs_on : (w u v : WorldFacts) (es fs : List Event) → Runs w es u → Runs u fs v → Runs w (es ++ fs) v
runs_on w u v [] fs first second = subst (λ (x : WorldFacts). Runs x fs v) first second
runs_on w u v (e ∷ es) fs (row, mid, gives, rest) second = (row, mid, gives, runs_on mid u v es fs rest second)

-- Events lead from one world to another.
abbrev pub Leads : WorldFacts → WorldFacts → Type 0
Leads w v = (events : List Event) × Runs w events v

stays : (w v : WorldFacts) → v ≡ w → Leads w v
stays w v same = ([], same)

on : (w u v : WorldFacts) → Leads w u → Leads u v → Leads w v
on w u v (es, first) (fs, second) = (es ++ fs, runs_on w u v es fs first second)

-- ---- the parts of a step

occurs_leads : (s : StageFacts) (id : ReplicaId) (event : Event) (t : StageFacts) → Occurs s id event t → Leads s.world t.world
occurs_leads s id event t o = (event ∷ [], (o.row, o.world, o.gives, ap (λ (x : StageFacts). x.world) o.new))

where_leads : (b : Bool) (A : Type 0) (s t : StageFacts) → (A → Leads s.world t.world) → Where b A (t ≡ s) → Leads s.world t.world
where_leads true A s t does h = does h
where_leads false A s t does h = stays s.world t.world (ap (λ (x : StageFacts). x.world) h)

times_leads : (s : StageFacts) (id : ReplicaId) (t : StageFacts) → TimesOut s id t → Leads s.world t.world
times_leads s id t h = where_leads (is_running s.world id) (Occurs s id _ t) s t (occurs_leads s id _ t) h

all_time_leads : (s : StageFacts) (ids : List ReplicaId) (t : StageFacts) → AllTimeOut s ids t → Leads s.world t.world
all_time_leads s [] t h = stays s.world t.world (ap (λ (x : StageFacts). x.world) h)
all_time_leads s (id ∷ ids) t (u, first, rest) = on s.world u.world t.world (times_leads s id u first) (all_time_leads u ids t rest)

turned : (s t : StageFacts) (text : List ℕ) (turn : Turn) → turn.1.world ≡ s.world → ◌≡◌ {A = Turn} (text, t) turn → Leads s.world t.world
turned s t text turn same is = stays s.world t.world (ap (λ (x : Turn). x.1.world) is ∙ same)

at_replica_leads : (s : StageFacts) (id : ReplicaId) (bytes text : List ℕ) (t : StageFacts) (b : Bool) → Where b (Receives s id bytes text t) (◌≡◌ {A = Turn} (text, t) (quiet s)) → Leads s.world t.world
at_replica_leads s id bytes text t true r = occurs_leads s id _ t r.occurs
at_replica_leads s id bytes text t false same = turned s t text (quiet s) refl same

client_world : (s : StageFacts) (client : ClientId) (o : Result CheckedMessage SealFault) → (at_client s client o).1.world ≡ s.world
client_world s client (Ok m) = refl
client_world s client (Err fault) = refl

hands_leads : (node : Node) (s : StageFacts) (bytes text : List ℕ) (t : StageFacts) → HandsTo node s bytes text t → Leads s.world t.world
hands_leads (Replica id) s bytes text t h = at_replica_leads s id bytes text t (is_running s.world id) h
hands_leads (Client client) s bytes text t h = turned s t text (at_client s client (opening s.world.config bytes)) (client_world s client (opening s.world.config bytes)) h

delivers_leads : (f : Filter) (passed : ℕ) (s : StageFacts) (text : List ℕ) (t : StageFacts) → Delivers f passed s text t → Leads s.world t.world
delivers_leads f passed s text t d = hands_leads d.letter.to (record s { queue = d.left }) d.letter.bytes text t d.handed

befalls_leads : (what : Fate) (f : Filter) (s : StageFacts) (text : List ℕ) (t : StageFacts) → Befalls what f s text t → Leads s.world t.world
befalls_leads (Handed passed) f s text t d = delivers_leads f passed s text t d
befalls_leads (Lost passed) f s text t d = turned s t text (quiet (record s { queue = d.left })) refl d.turn
befalls_leads (Repeated passed) f s text t d = hands_leads d.letter.to (record s { queue = d.left ++ d.letter ∷ [] }) d.letter.bytes text t d.handed
befalls_leads (TimedOut at) f s text t d = times_leads s at t d.times_out

deliveries_lead : (f : Filter) (order : DeliveryOrder) (n : ℕ) (s : StageFacts) (text : List ℕ) (t : StageFacts) → Deliveries f order n s text t → Leads s.world t.world
deliveries_lead f order zero s text t h = stays s.world t.world (ap (λ (x : StageFacts). x.world) h.1)
deliveries_lead f order (suc n) s text t (before, line, u, first, last, is) =
    on s.world u.world t.world (deliveries_lead f order n s before u first) (befalls_leads (fate_at f order n u) f u line t last)

-- ---- steps

requested_world : (s : StageFacts) (o : Order) (session : Option SessionState) → (requested_by s o session).1.world ≡ s.world
requested_world s o None = refl
requested_world s o (Some session) = refl

forged_world : (s : StageFacts) (f : Forgery) (body : Body) (g : Option Forger) → (forged_by s f body g).1.world ≡ s.world
forged_world s f body None = refl
forged_world s f body (Some g) = refl

forged_for_world : (s : StageFacts) (f : Forgery) (body : Option Body) → (forged_for s f body).1.world ≡ s.world
forged_for_world s f None = refl
forged_for_world s f (Some body) = forged_world s f body (signing_forger s.forgers f.from)

prints_leads : (s : StageFacts) (step : Step) (text : List ℕ) (t : StageFacts) → Prints s step text t → Leads s.world t.world
prints_leads s (steps.Request o) text t h = turned s t text (requested_by s o (signing_session s.sessions o.client)) (requested_world s o (signing_session s.sessions o.client)) h
prints_leads s (steps.Deliver f order) text t h = deliveries_lead f order h.0 s text t h.2
prints_leads s (steps.Timeout at) text t h = all_time_leads s at t h.1
prints_leads s (steps.Forge f) text t h = turned s t text (forged_for s f (forged_body s f.message)) (forged_for_world s f (forged_body s f.message)) h
prints_leads s (steps.Edit e) text t h = turned s t text (with_queue s (edited s e)) refl h
prints_leads s other text t h = stays s.world t.world (ap (λ (x : StageFacts). x.world) h.1)

named_world : (t : StageFacts) (name : Option (List ℕ)) (letter : Option LetterFacts) → t.world ≡ (with_named t name letter).world
named_world t None letter = refl
named_world t (Some name) None = refl
named_world t (Some name) (Some letter) = refl

plays_lead : (s : Scene) (xs : List NamedStep) (text : List ℕ) (t : Scene) → Plays s xs text t → Leads s.stage.world t.stage.world
plays_lead s [] text t h = stays s.stage.world t.stage.world (ap (λ (x : Scene). x.stage.world) h.1)
plays_lead s (x ∷ xs) text t (line, more, u, first, holds, rest, is) =
    on s.stage.world u.world t.stage.world (prints_leads s.stage x.step line u first)
    (subst (λ (w : WorldFacts). Leads w t.stage.world) (sym (named_world u x.name (message_of (length s.stage.queue) x.step u))) (plays_lead (behind s x line u) xs more t rest))

part_leads : (s : StageFacts) (step : Step) (t : StageFacts) → DoesPart s step t → Leads s.world t.world
part_leads s (steps.Deliver f order) t (n, text, h) = deliveries_lead f order n s text t h
part_leads s (steps.Timeout at) t (first, later, splits, h) = all_time_leads s first t h
part_leads s other t h = stays s.world t.world (ap (λ (x : StageFacts). x.world) h)

first_part_leads : (s : StageFacts) (xs : List NamedStep) (t : StageFacts) → DoesPartOfFirst s xs t → Leads s.world t.world
first_part_leads s [] t h = stays s.world t.world (ap (λ (x : StageFacts). x.world) h)
first_part_leads s (x ∷ xs) t h = part_leads s x.step t h

pub passed_leads : (script : Script) (t : StageFacts) → Passes script t → Leads (start_of script.head).world t.world
passed_leads script t p =
    on (start_of script.head).world p.scene.stage.world t.world (plays_lead (first_scene script.head) p.before p.text p.scene p.plays) (first_part_leads p.scene.stage p.later t p.part)

pub on_run : (script : Script) (t : StageFacts) → IsLegal script.head.f script.head.k script.head.clients → Passes script t → IsOnRun script.head t
on_run script t known p =
    let h = script.head in
    let w = passed_leads script t p in
    record {
      events = w.0;
      runs = w.1;
      heard = passed_hears script t p;
      sound = sound_worlds (configuration_of h) (is_faulty h) (correct_signers h) (head_configuration h known) (head_listed h) w.0 t.world
          (runs_lead (first_world (configuration_of h) (is_faulty h) (correct_signers h)) w.0 t.world w.1);
    }
