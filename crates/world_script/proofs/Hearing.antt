-- What the clients of a script have heard.
use Rattle.std.proofs.Common.{◌≡◌, ℕ, zero, suc, Bool, true, false, cond, inl, inr, List, [], ◌∷◌, ◌++◌, length, map, Option, Some, None, Ok, Err, refl, sym, ap, subst, ◌∙◌}
use Rattle.std.specs.Prelude.{MatchOption, Result, nat_lt}
use Rattle.std.specs.List.{AllByRecursion}
use Rattle.host_types.specs.Configuration.{Configuration, replicas_for}
use Rattle.host_types.specs.declared.ClientId.{ClientId}
use Rattle.host_types.specs.declared.ReplicaId.{ReplicaId}
use Rattle.pbft_codec.specs.declared.body.Body.{Body}
use Rattle.pbft_codec.specs.CodecFault.{CodecFault}
use Rattle.pbft_codec.specs.declared.signed.Signed.{Signed}
use Rattle.pbft_codec.specs.Reading.{reading}
use Rattle.pbft_codec.specs.Encoding.{encoding}
use Rattle.seal.specs.Opening.{CheckedMessage, opening, unless_fault, verified}
use Rattle.seal.specs.Parts.{messages_in}
use Rattle.seal.specs.Signers.{IsAuthentic, first_fault}
use Rattle.seal.specs.declared.fault.SealFault.{SealFault}
use Rattle.seal.proofs.Authenticity.{all_authentic}
use Rattle.drained_records.specs.Input.{Input}
use Rattle.drained_records.specs.Input.TheVariants as inputs
use Rattle.drained_records.specs.Output.{Output}
use Rattle.drained_records.specs.Worlds as worlds
use Rattle.drained_records.specs.Worlds.{Answer, Comes, Forwards, Gives, Hands, MemberFacts, Passes as PassesBy, Where, WorldFacts, member_of, output_of}
use Rattle.drained_records.specs.Event.{Event}
use Rattle.drained_records.specs.Event.TheVariants as events
use Rattle.world_queue.specs.Sessions.{SessionState, offered}
use Rattle.script_text.specs.Client.{Client}
use Rattle.script_text.specs.declared.script.DeliveryOrder.{DeliveryOrder}
use Rattle.script_text.specs.declared.script.Filter.{Filter}
use Rattle.script_text.specs.declared.script.Forgery.{Forgery}
use Rattle.script_text.specs.Node.{Node}
use Rattle.script_text.specs.Node.TheVariants as nodes
use Rattle.script_text.specs.declared.script.Order.{Order}
use Rattle.script_text.specs.declared.script.NamedStep.{NamedStep}
use Rattle.script_text.specs.declared.script.Script.{Script}
use Rattle.script_text.specs.declared.script.Step.{Step}
use Rattle.script_text.specs.declared.script.Step.TheVariants as steps
use Rattle.script_text.specs.Heads.{HeadFacts}
use Rattle.world_queue.specs.declared.forging.Forger.{Forger}
use Rattle.world_script.specs.Edits.{edited}
use Rattle.world_script.specs.Expecting.{Scene, behind, first_scene}
use Rattle.world_script.specs.Keys.{configuration_of}
use Rattle.world_queue.specs.Letters.{LetterFacts}
use Rattle.world_queue.specs.declared.fates.Fate.{Fate}
use Rattle.world_queue.specs.declared.fates.Fate.TheVariants.{Handed, Lost, Repeated, TimedOut}
use Rattle.world_script.specs.Passing.{DoesPart, DoesPartOfFirst, HasHeard, Passes}
use Rattle.world_script.specs.Scripts.{Plays}
use Rattle.world_script.specs.Facts.{StageFacts}
use Rattle.world_script.specs.Stages.{AllTimeOut, Befalls, Deliveries, Delivers, HandsTo, Occurs, Prints, Receives, TimesOut, Turn, at_client, fate_at, forged_body, forged_by, forged_for, is_running, message_of, quiet, requested_by, with_named, with_queue}
use Rattle.world_queue.specs.Parties.{after_asking, at_first, is_of, signing_forger, signing_session}
use Rattle.world_queue.proofs.Hearing.{heard_more, heard_none, offer_same}
use Rattle.world_script.specs.Starts.{session_for, start_of}

-- ---- an event keeps the configuration

where_same : (b : Bool) (A B C : Type 0) → (A → C) → (B → C) → Where b A B → C
where_same true A B C f g x = f x
where_same false A B C f g x = g x

hands_same : (w : WorldFacts) (m : MemberFacts) (input : Input) (r : Answer) (t : WorldFacts) → Hands w m input r t → t.config ≡ w.config
hands_same w m input r t h = elim h [ inl gives ↦ ap (λ (x : WorldFacts). x.config) gives.new | inr gives ↦ ap (λ (x : WorldFacts). x.config) gives.new ]

comes_same : (w : WorldFacts) (id : ℕ) (input : Input) (r : Answer) (t : WorldFacts) → Comes w id input r t → t.config ≡ w.config
comes_same w id input r t h = by (member_of w id) h where
  by : (o : Option MemberFacts) → MatchOption o (PassesBy w r t) (λ m. Hands w m input r t) → t.config ≡ w.config
  by None passes = ap (λ (x : WorldFacts). x.config) passes.1
  by (Some m) hands = hands_same w m input r t hands

delivers_same : (w : WorldFacts) (id : ℕ) (x : Result CheckedMessage SealFault) (r : Answer) (t : WorldFacts) → worlds.Delivers w id x r t → t.config ≡ w.config
delivers_same w id (Ok m) r t comes = comes_same w id (inputs.Message m) r t comes
delivers_same w id (Err f) r t passes = ap (λ (x : WorldFacts). x.config) passes.1

forwards_same : (w : WorldFacts) (id : ℕ) (o : Option Output) (r : Answer) (t : WorldFacts) → Forwards w id o r t → t.config ≡ w.config
forwards_same w id None r t refuses = ap (λ (x : WorldFacts). x.config) refuses.1
forwards_same w id (Some output) r t delivers = delivers_same w id (opening w.config (encoding output.message.message)) r t delivers

gives_same : (w : WorldFacts) (event : Event) (r : Answer) (t : WorldFacts) → Gives w event r t → t.config ≡ w.config
gives_same w (events.Deliver to bytes) r t g =
    where_same (nat_lt to.0 (replicas_for w.config.f)) _ _ (t.config ≡ w.config) (delivers_same w to.0 (opening w.config bytes) r t) (λ n. ap (λ (x : WorldFacts). x.config) n.1) g
gives_same w (events.Forward to from output) r t g =
    where_same (nat_lt to.0 (replicas_for w.config.f)) _ _ (t.config ≡ w.config)
    (where_same (nat_lt from.0 (replicas_for w.config.f)) _ _ (t.config ≡ w.config) (forwards_same w to.0 (output_of w from.0 output) r t) (λ n. ap (λ (x : WorldFacts). x.config) n.1))
    (λ n. ap (λ (x : WorldFacts). x.config) n.1) g
gives_same w (events.Timeout at) r t g =
    where_same (nat_lt at.0 (replicas_for w.config.f)) _ _ (t.config ≡ w.config) (comes_same w at.0 inputs.Timeout r t) (λ n. ap (λ (x : WorldFacts). x.config) n.1) g

-- ---- what opens is authentic

same_ok : (x y : CheckedMessage) → ◌≡◌ {A = Result CheckedMessage SealFault} (Ok x) (Ok y) → x ≡ y
same_ok x y h = cc h

never_ok : (x : CheckedMessage) (f : SealFault) → ◌≡◌ {A = Result CheckedMessage SealFault} (Err f) (Ok x) → ⊥
never_ok x f h = cc h

faultless : (c : Configuration) (m : Signed Body) (o : Option SealFault) (x : CheckedMessage) → unless_fault c m o ≡ Ok x → (o ≡ None) × (x.message ≡ m)
faultless c m None x is = (refl, ap (λ (y : CheckedMessage). y.message) (sym (same_ok _ x is)))
faultless c m (Some f) x is = absurd (never_ok x f is)

verified_authentic : (c : Configuration) (r : Result (Signed Body) CodecFault) (x : CheckedMessage) → verified c r ≡ Ok x → IsAuthentic c x.message
verified_authentic c (Ok m) x is =
    let w = faultless c m (first_fault c (messages_in m)) x is in
    subst (IsAuthentic c) (sym w.1) (all_authentic c (messages_in m) w.0).0
verified_authentic c (Err fault) x is = absurd (never_ok x _ is)

opened_authentic : (c : Configuration) (bytes : List ℕ) (x : CheckedMessage) → opening c bytes ≡ Ok x → IsAuthentic c x.message
unfolding opening
opened_authentic c bytes x is = verified_authentic c (reading bytes) x is

-- ---- one session

heard_offer : (c : Configuration) (m : Signed Body) → IsAuthentic c m → (x : SessionState) → HasHeard c x → HasHeard c (offered x m)
heard_offer c m authentic x h = record {
  config = (offer_same x m.id m.body).0 ∙ h.config;
  asking = h.asking;
  under = h.under;
  fresh = h.fresh;
  heard = heard_more h.asking x m h.heard (subst (λ (k : Configuration). IsAuthentic k m) (sym h.under) authentic);
}

heard_fresh : (c : Configuration) (x : SessionState) → x.config ≡ c → x.answers ≡ [] → HasHeard c x
heard_fresh c x config fresh = record { config = config; asking = x; under = config; fresh = fresh; heard = heard_none x }

-- ---- all sessions

at_first_heard : (c : Configuration) (test : SessionState → Bool) (change : SessionState → SessionState) (xs : List SessionState) → ((x : SessionState) → HasHeard c x → HasHeard c (change x))
    → AllByRecursion (HasHeard c) xs → AllByRecursion (HasHeard c) (at_first test change xs)
at_first_heard c test change [] f all = tt
at_first_heard c test change (x ∷ xs) f all = split (test x) (at_first_heard c test change xs f all.1) where
  split : (b : Bool) → AllByRecursion (HasHeard c) (at_first test change xs) → AllByRecursion (HasHeard c) (cond b (change x ∷ xs) (x ∷ at_first test change xs))
  split true rest = (f x all.0, all.1)
  split false rest = (all.0, rest)

-- The world is under the configuration, and each session has heard authentic messages.
record Hears (c : Configuration) (s : StageFacts) : Type 0 where
  config : s.world.config ≡ c
  heard : AllByRecursion (HasHeard c) s.sessions

same_hears : (c : Configuration) (s t : StageFacts) → t.world ≡ s.world → t.sessions ≡ s.sessions → Hears c s → Hears c t
same_hears c s t world sessions h = record {
  config = ap (λ (w : WorldFacts). w.config) world ∙ h.config;
  heard = subst (AllByRecursion (HasHeard c)) (sym sessions) h.heard;
}

occurs_hears : (c : Configuration) (s : StageFacts) (id : ReplicaId) (event : Event) (t : StageFacts) → Occurs s id event t → Hears c s → Hears c t
occurs_hears c s id event t o h = record {
  config = ap (λ (x : StageFacts). x.world.config) o.new ∙ gives_same s.world event _ o.world o.gives ∙ h.config;
  heard = subst (AllByRecursion (HasHeard c)) (sym (ap (λ (x : StageFacts). x.sessions) o.new)) h.heard;
}

times_hears : (c : Configuration) (s : StageFacts) (id : ReplicaId) (t : StageFacts) → TimesOut s id t → Hears c s → Hears c t
times_hears c s id t o h =
    where_same (is_running s.world id) (Occurs s id (events.Timeout id) t) (t ≡ s) (Hears c t) (λ occurs. occurs_hears c s id (events.Timeout id) t occurs h) (λ same. subst (Hears c) (sym same) h) o

all_time_hears : (c : Configuration) (s : StageFacts) (ids : List ReplicaId) (t : StageFacts) → AllTimeOut s ids t → Hears c s → Hears c t
all_time_hears c s [] t same h = subst (Hears c) (sym same) h
all_time_hears c s (id ∷ ids) t (u, first, rest) h = all_time_hears c u ids t rest (times_hears c s id u first h)

turn_hears : (c : Configuration) (t : StageFacts) (text : List ℕ) (turn : Turn) → Hears c turn.1 → ◌≡◌ {A = Turn} (text, t) turn → Hears c t
turn_hears c t text turn h is = subst (Hears c) (sym (ap (λ (x : Turn). x.1) is)) h

client_hears : (c : Configuration) (s : StageFacts) (client : ClientId) (o : Result CheckedMessage SealFault) → ((x : CheckedMessage) → o ≡ Ok x → IsAuthentic c x.message) → Hears c s → Hears c (at_client s client o).1
client_hears c s client (Ok m) opened h = record {
  config = h.config;
  heard = at_first_heard c (is_of client) (λ (x : SessionState). offered x m.message) s.sessions (heard_offer c m.message (opened m refl)) h.heard;
}
client_hears c s client (Err fault) opened h = h

hands_hears : (c : Configuration) (node : Node) (s : StageFacts) (bytes text : List ℕ) (t : StageFacts) → HandsTo node s bytes text t → Hears c s → Hears c t
hands_hears c (nodes.Replica id) s bytes text t o h =
    where_same (is_running s.world id) (Receives s id bytes text t) (◌≡◌ {A = Turn} (text, t) (quiet s)) (Hears c t) (λ r. occurs_hears c s id (events.Deliver id bytes) t r.occurs h)
    (λ same. turn_hears c t text (quiet s) h same) o
hands_hears c (nodes.Client client) s bytes text t o h =
    turn_hears c t text (at_client s client (opening s.world.config bytes))
    (client_hears c s client (opening s.world.config bytes) (λ x is. subst (λ (k : Configuration). IsAuthentic k x.message) h.config (opened_authentic s.world.config bytes x is)) h) o

delivers_hears : (c : Configuration) (f : Filter) (passed : ℕ) (s : StageFacts) (text : List ℕ) (t : StageFacts) → Delivers f passed s text t → Hears c s → Hears c t
delivers_hears c f passed s text t d h =
    hands_hears c d.letter.to (record s { queue = d.left }) d.letter.bytes text t d.handed (record { config = h.config; heard = h.heard })

befalls_hears : (c : Configuration) (what : Fate) (f : Filter) (s : StageFacts) (text : List ℕ) (t : StageFacts) → Befalls what f s text t → Hears c s → Hears c t
befalls_hears c (Handed passed) f s text t d h = delivers_hears c f passed s text t d h
befalls_hears c (Lost passed) f s text t d h = turn_hears c t text (quiet (record s { queue = d.left })) (record { config = h.config; heard = h.heard }) d.turn
befalls_hears c (Repeated passed) f s text t d h =
    hands_hears c d.letter.to (record s { queue = d.left ++ d.letter ∷ [] }) d.letter.bytes text t d.handed (record { config = h.config; heard = h.heard })
befalls_hears c (TimedOut at) f s text t d h = times_hears c s at t d.times_out h

deliveries_hear : (c : Configuration) (f : Filter) (order : DeliveryOrder) (n : ℕ) (s : StageFacts) (text : List ℕ) (t : StageFacts) → Deliveries f order n s text t → Hears c s → Hears c t
deliveries_hear c f order zero s text t o h = subst (Hears c) (sym o.1) h
deliveries_hear c f order (suc n) s text t (before, line, u, first, last, is) h =
    befalls_hears c (fate_at f order n u) f u line t last (deliveries_hear c f order n s before u first h)

requested_hears : (c : Configuration) (s : StageFacts) (o : Order) (session : Option SessionState) → Hears c s → Hears c (requested_by s o session).1
requested_hears c s o None h = h
requested_hears c s o (Some session) h = record {
  config = h.config;
  heard = at_first_heard c (is_of o.client) (after_asking o.op) s.sessions (λ x heard. heard_fresh c (after_asking o.op x) heard.config refl) h.heard;
}

forged_hears : (c : Configuration) (s : StageFacts) (f : Forgery) (body : Body) (g : Option Forger) → Hears c s → Hears c (forged_by s f body g).1
forged_hears c s f body None h = h
forged_hears c s f body (Some g) h = record { config = h.config; heard = h.heard }

forged_for_hears : (c : Configuration) (s : StageFacts) (f : Forgery) (body : Option Body) → Hears c s → Hears c (forged_for s f body).1
forged_for_hears c s f None h = h
forged_for_hears c s f (Some body) h = forged_hears c s f body (signing_forger s.forgers f.from) h

prints_hears : (c : Configuration) (s : StageFacts) (step : Step) (text : List ℕ) (t : StageFacts) → Prints s step text t → Hears c s → Hears c t
prints_hears c s (steps.Request o) text t p h = turn_hears c t text (requested_by s o (signing_session s.sessions o.client)) (requested_hears c s o (signing_session s.sessions o.client) h) p
prints_hears c s (steps.Deliver f order) text t p h = deliveries_hear c f order p.0 s text t p.2 h
prints_hears c s (steps.Timeout at) text t p h = all_time_hears c s at t p.1 h
prints_hears c s (steps.Forge f) text t p h = turn_hears c t text (forged_for s f (forged_body s f.message)) (forged_for_hears c s f (forged_body s f.message) h) p
prints_hears c s (steps.Edit e) text t p h = turn_hears c t text (with_queue s (edited s e)) (record { config = h.config; heard = h.heard }) p
prints_hears c s other text t p h = subst (Hears c) (sym p.1) h

named_hears : (c : Configuration) (t : StageFacts) (name : Option (List ℕ)) (letter : Option LetterFacts) → Hears c t → Hears c (with_named t name letter)
named_hears c t None letter h = h
named_hears c t (Some name) None h = h
named_hears c t (Some name) (Some letter) h = record { config = h.config; heard = h.heard }

plays_hear : (c : Configuration) (s : Scene) (xs : List NamedStep) (text : List ℕ) (t : Scene) → Plays s xs text t → Hears c s.stage → Hears c t.stage
plays_hear c s [] text t p h = subst (λ (x : Scene). Hears c x.stage) (sym p.1) h
plays_hear c s (x ∷ xs) text t (line, more, u, first, holds, rest, is) h =
    plays_hear c (behind s x line u) xs more t rest (named_hears c u x.name (message_of (length s.stage.queue) x.step u) (prints_hears c s.stage x.step line u first h))

part_hears : (c : Configuration) (s : StageFacts) (step : Step) (t : StageFacts) → DoesPart s step t → Hears c s → Hears c t
part_hears c s (steps.Deliver f order) t (n, text, p) h = deliveries_hear c f order n s text t p h
part_hears c s (steps.Timeout at) t (first, later, splits, p) h = all_time_hears c s first t p h
part_hears c s other t same h = subst (Hears c) (sym same) h

first_part_hears : (c : Configuration) (s : StageFacts) (xs : List NamedStep) (t : StageFacts) → DoesPartOfFirst s xs t → Hears c s → Hears c t
first_part_hears c s [] t same h = subst (Hears c) (sym same) h
first_part_hears c s (x ∷ xs) t p h = part_hears c s x.step t p h

fresh_heard : (h : HeadFacts) (cs : List Client) → AllByRecursion (HasHeard (configuration_of h)) (map (session_for h) cs)
fresh_heard h [] = tt
fresh_heard h (c ∷ cs) = (heard_fresh (configuration_of h) (session_for h c) refl refl, fresh_heard h cs)

pub passed_hears : (script : Script) (t : StageFacts) → Passes script t → AllByRecursion (HasHeard (configuration_of script.head)) t.sessions
passed_hears script t p =
    let c = configuration_of script.head in
    let started : Hears c (start_of script.head) = record { config = refl; heard = fresh_heard script.head script.head.clients } in
    (first_part_hears c p.scene.stage p.later t p.part (plays_hear c (first_scene script.head) p.before p.text p.scene p.plays started)).heard
