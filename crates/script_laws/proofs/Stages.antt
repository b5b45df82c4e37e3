-- Stages that differ in no more than in what the protocol's rows leave open of a row: a step prints the same of both.
use Rattle.std.proofs.Common.{◌≡◌, ℕ, zero, suc, ◌<◌, ◌≤◌, ◌⊎◌, inl, inr, Bool, true, false, List, [], ◌∷◌, ◌++◌, find, Option, Some, None, Result, Ok, Err, refl, sym, ap, subst, ◌∙◌, arith}
use Rattle.std.specs.Prelude.{is_some, nat_lt}
use Rattle.std.proofs.lemmas.Bool.{cases_lt, false≢true}
use Rattle.host_types.specs.Configuration.{Configuration, replicas_for}
use Rattle.host_types.specs.declared.ClientId.{ClientId}
use Rattle.host_types.specs.declared.ReplicaId.{ReplicaId}
use Rattle.pbft_model.specs.Acts.{Destination, All, ToReplica, ToClient}
use Rattle.pbft_model.specs.Rows as model
use Rattle.seal.specs.Opening.{CheckedMessage, opening}
use Rattle.seal.specs.declared.fault.SealFault.{SealFault}
use Rattle.world_script.specs.Dest.{Dest}
use Rattle.world_script.specs.Dest.TheVariants as dests
use Rattle.world_script.specs.Facts.{RowFacts, destination_of, output_of}
use Rattle.world_script.specs.Input.TheVariants as inputs
use Rattle.world_script.specs.Output.{Output}
use Rattle.world_script.specs.Worlds.{Delivers, Gives, Refuses, Where, WorldFacts, member_of}
use Rattle.world_script.specs.Event.{Event}
use Rattle.world_script.specs.Event.TheVariants as events
use Rattle.world_script.specs.WorldFault.TheVariants as faults
use Rattle.script_text.specs.Node.{Node}
use Rattle.script_text.specs.Node.TheVariants.{Replica, Client}
use Rattle.script_text.specs.declared.script.DeliveryOrder.{DeliveryOrder}
use Rattle.script_text.specs.declared.script.Filter.{Filter}
use Rattle.world_script.specs.Fate.{Fate}
use Rattle.world_script.specs.Fate.TheVariants.{Handed, Lost, Repeated, TimedOut}
use Rattle.world_script.specs.Fates.{fate}
use Rattle.world_script.specs.Letters.{IsTaken, LetterFacts, all_but, copies, first_meant, is_meant, letter_of, meant_count}
use Rattle.world_script.specs.Parties.{after_offer, is_of, text_at}
use Rattle.world_script.specs.Sessions.{SessionState}
use Rattle.world_script.specs.Facts.{StageFacts}
use Rattle.world_script.specs.Stages.{AllTimeOut, AtReplica, Befalls, Deliveries, HandsTo, Occurs, Receives, TimesOut, Turn, all_replicas, at_client, fate_at, halt_in, is_running, lacked_memory, letters_in, letters_of, queued, quiet, receivers_of, refusal_of}
use Rattle.script_laws.proofs.Alike.{Alike, AreOne, SameRow, comes_one, passes_one, same_running}
use Rattle.script_laws.proofs.Lists.{flat_alike, one_split, passing_found}

pub record Like (s t : StageFacts) : Type 0 where
  pub worlds : Alike s.world t.world
  pub forgers : s.forgers ≡ t.forgers
  pub sessions : s.sessions ≡ t.sessions
  pub made : s.made ≡ t.made
  pub named : s.named ≡ t.named
  pub queue : s.queue ≡ t.queue

pub record Printed (one other : List ℕ) (t u : StageFacts) : Type 0 where
  pub text : one ≡ other
  pub stages : Like t u

-- ---- what a row gives is queued

receivers_for : Configuration → ReplicaId → Destination → List Node
receivers_for c from All = all_but (Replica from) (all_replicas c)
receivers_for c from (ToReplica id) = Replica (record { 0 = id }) ∷ []
receivers_for c from (ToClient id) = Client (record { 0 = id }) ∷ []

receivers_so : (c : Configuration) (from : ReplicaId) (to : Dest) → receivers_of c from to ≡ receivers_for c from (destination_of to)
unfolding receivers_for
receivers_so c from dests.All = refl
receivers_so c from (dests.Replica id) = refl
receivers_so c from (dests.Client id) = refl

letters_for : Configuration → ReplicaId → model.Output → List LetterFacts
letters_for c from o = copies (letter_of (Replica from) o.message) (receivers_for c from o.to)

letters_so : (c : Configuration) (from : ReplicaId) (o : Output) → letters_of c from o ≡ letters_for c from (output_of o)
unfolding letters_for
letters_so c from o = ap (copies (letter_of (Replica from) o.message.message)) (receivers_so c from o.to)

pub same_letters : (c : Configuration) (from : ReplicaId) (r q : Option RowFacts) → SameRow r q → letters_in c from r ≡ letters_in c from q
same_letters c from None None same = refl
same_letters c from None (Some q) same = absurd (false≢true (ap is_some same))
same_letters c from (Some r) None same = absurd (false≢true (sym (ap is_some same)))
same_letters c from (Some r) (Some q) same =
    flat_alike output_of (letters_of c from) (letters_for c from) (letters_so c from) r.outputs q.outputs (ap outputs_in same) where
      outputs_in : Option model.Row → List model.Output
      outputs_in None = []
      outputs_in (Some row) = row.outputs

-- ---- events

at_there : {X : Type 0} (b : Bool) (w t : WorldFacts) (row : Option RowFacts) → Where b X (Refuses faults.NoSuchReplica w (Ok row) t) → X
at_there true w t row is = is
at_there false w t row refuses = absurd (no refuses.0) where
  no : {A B : Type 0} {a : A} {b : B} → Ok a ≡ Err b → ⊥
  no h = cc h

delivered_one : (w v : WorldFacts) (id : ℕ) (o : Result CheckedMessage SealFault) (r q : Option RowFacts) (t u : WorldFacts) → Alike w v
    → lacked_memory (halt_in (member_of t id)) ≡ false → lacked_memory (halt_in (member_of u id)) ≡ false
    → Delivers w id o (Ok r) t → Delivers v id o (Ok q) u → AreOne r q t u
delivered_one w v id (Ok m) r q t u alike kept kept' g h = comes_one w v id (inputs.Message m) r q t u alike kept kept' g h
delivered_one w v id (Err fault) r q t u alike kept kept' g h = passes_one w v id (inputs.Timeout) r q t u alike kept kept' g h

module _ (s s' : StageFacts) (like : Like s s') (id : ReplicaId) where
  config : s.world.config ≡ s'.world.config
  config = like.worlds.config

  queued_like : (r q : Option RowFacts) (w v : WorldFacts) → AreOne r q w v → Like (queued (record s { world = w }) (letters_in s.world.config id r)) (queued (record s' { world = v }) (letters_in s'.world.config id q))
  queued_like r q w v one = record {
    worlds = one.worlds;
    forgers = like.forgers;
    sessions = like.sessions;
    made = like.made;
    named = like.named;
    queue = ap (λ (ls : List LetterFacts). ls ++ letters_in s.world.config id r) like.queue
        ∙ ap (λ (ls : List LetterFacts). s'.queue ++ ls) (same_letters s.world.config id r q one.row ∙ ap (λ (c : Configuration). letters_in c id q) config);
  }

  occurs_like : (event : Event) (t u : StageFacts) → ((r q : Option RowFacts) (w v : WorldFacts) → lacked_memory (halt_in (member_of w id.0)) ≡ false
      → lacked_memory (halt_in (member_of v id.0)) ≡ false → Gives s.world event (Ok r) w → Gives s'.world event (Ok q) v → AreOne r q w v)
      → Occurs s id event t → Occurs s' id event u → Like t u
  occurs_like event t u one g h =
      subst (λ (x : StageFacts). Like x u) (sym g.new) (subst (λ (x : StageFacts). Like (queued (record s { world = g.world }) (letters_in s.world.config id g.row)) x) (sym h.new)
      (queued_like g.row h.row g.world h.world (one g.row h.row g.world h.world g.continues h.continues g.gives h.gives)))

  delivers_so : (bytes : List ℕ) (r q : Option RowFacts) (w v : WorldFacts) → lacked_memory (halt_in (member_of w id.0)) ≡ false → lacked_memory (halt_in (member_of v id.0)) ≡ false
      → Gives s.world (events.Deliver id bytes) (Ok r) w → Gives s'.world (events.Deliver id bytes) (Ok q) v → AreOne r q w v
  delivers_so bytes r q w v kept kept' g h =
      delivered_one s.world s'.world id.0 (opening s.world.config bytes) r q w v like.worlds kept kept'
      (at_there (nat_lt id.0 (replicas_for s.world.config.f)) s.world w r g)
      (subst (λ (c : Configuration). Delivers s'.world id.0 (opening c bytes) (Ok q) v) (sym config) (at_there (nat_lt id.0 (replicas_for s'.world.config.f)) s'.world v q h))

  times_so : (r q : Option RowFacts) (w v : WorldFacts) → lacked_memory (halt_in (member_of w id.0)) ≡ false → lacked_memory (halt_in (member_of v id.0)) ≡ false
      → Gives s.world (events.Timeout id) (Ok r) w → Gives s'.world (events.Timeout id) (Ok q) v → AreOne r q w v
  times_so r q w v kept kept' g h =
      comes_one s.world s'.world id.0 inputs.Timeout r q w v like.worlds kept kept'
      (at_there (nat_lt id.0 (replicas_for s.world.config.f)) s.world w r g) (at_there (nat_lt id.0 (replicas_for s'.world.config.f)) s'.world v q h)

  running : is_running s.world id ≡ is_running s'.world id
  running = same_running s.world s'.world id.0 like.worlds

  pub times_like : (t u : StageFacts) → TimesOut s id t → TimesOut s' id u → Like t u
  times_like t u g h = by (is_running s.world id) g (subst (λ (b : Bool). Where b (Occurs s' id (events.Timeout id) u) (u ≡ s')) (sym running) h) where
    by : (b : Bool) → Where b (Occurs s id (events.Timeout id) t) (t ≡ s) → Where b (Occurs s' id (events.Timeout id) u) (u ≡ s') → Like t u
    by true g h = occurs_like (events.Timeout id) t u times_so g h
    by false g h = subst (λ (x : StageFacts). Like x u) (sym g) (subst (λ (x : StageFacts). Like s x) (sym h) like)

  pub handed_like : (bytes text other : List ℕ) (t u : StageFacts) → AtReplica s id bytes text t → AtReplica s' id bytes other u → Printed text other t u
  handed_like bytes text other t u g h = by (is_running s.world id) g (subst (λ (b : Bool). Where b (Receives s' id bytes other u) (◌≡◌ {A = Turn} (other, u) ([], s'))) (sym running) h) where
    by : (b : Bool) → Where b (Receives s id bytes text t) (◌≡◌ {A = Turn} (text, t) ([], s)) → Where b (Receives s' id bytes other u) (◌≡◌ {A = Turn} (other, u) ([], s')) → Printed text other t u
    by true g h = record {
      text = g.text_is ∙ ap (λ (c : Configuration). refusal_of id (opening c bytes)) config ∙ sym h.text_is;
      stages = occurs_like (events.Deliver id bytes) t u (delivers_so bytes) g.occurs h.occurs;
    }
    by false g h = record {
      text = ap (λ (p : Turn). p.0) g ∙ sym (ap (λ (p : Turn). p.0) h);
      stages = subst (λ (x : StageFacts). Like x u) (sym (ap (λ (p : Turn). p.1) g)) (subst (λ (x : StageFacts). Like s x) (sym (ap (λ (p : Turn). p.1) h)) like);
    }

-- what a turn makes of two stages
abbrev pub SameTurn : Turn → Turn → Type 0
SameTurn p q = Printed p.0 q.0 p.1 q.1

pub turned : (p q : Turn) (text other : List ℕ) (t u : StageFacts) → SameTurn p q → ◌≡◌ {A = Turn} (text, t) p → ◌≡◌ {A = Turn} (other, u) q → Printed text other t u
turned p q text other t u same g h = record {
  text = ap (λ (x : Turn). x.0) g ∙ same.text ∙ sym (ap (λ (x : Turn). x.0) h);
  stages = subst (λ (x : StageFacts). Like x u) (sym (ap (λ (x : Turn). x.1) g)) (subst (λ (x : StageFacts). Like p.1 x) (sym (ap (λ (x : Turn). x.1) h)) same.stages);
}

client_like : (s s' : StageFacts) (client : ClientId) (o : Result CheckedMessage SealFault) → Like s s' → SameTurn (at_client s client o) (at_client s' client o)
client_like s s' client (Ok m) like = record {
  text = ap (λ (ss : List SessionState). text_at (find (is_of client) ss) m.message) like.sessions;
  stages = record {
    worlds = like.worlds;
    forgers = like.forgers;
    sessions = ap (λ (ss : List SessionState). after_offer ss client m.message) like.sessions;
    made = like.made;
    named = like.named;
    queue = like.queue;
  };
}
client_like s s' client (Err fault) like = record { text = refl; stages = like }

pub hands_like : (node : Node) (s s' t u : StageFacts) (bytes text other : List ℕ) → Like s s' → HandsTo node s bytes text t → HandsTo node s' bytes other u → Printed text other t u
hands_like (Replica id) s s' t u bytes text other like g h = handed_like s s' like id bytes text other t u g h
hands_like (Client client) s s' t u bytes text other like g h =
    turned (at_client s client (opening s.world.config bytes)) (at_client s' client (opening s.world.config bytes)) text other t u
    (client_like s s' client (opening s.world.config bytes) like) g (h ∙ ap (λ (c : Configuration). at_client s' client (opening c bytes)) (sym like.worlds.config))

-- ---- deliveries

-- the same letter is taken of both
taken_like : (f : Filter) (passed : ℕ) (old old' new new' : List LetterFacts) (l l' : LetterFacts) → old ≡ old' → IsTaken f passed old l new → IsTaken f passed old' l' new' → (new ≡ new') × (l ≡ l')
taken_like f passed old old' new new' l l' same g h =
    let split = one_split (is_meant f) g.before h.before g.after h.after l l' (sym g.splits ∙ same ∙ h.splits) g.is_meant_one h.is_meant_one (g.passed_is ∙ sym h.passed_is) in
    (g.rest ∙ split.0 ∙ sym h.rest, split.1)

-- what is left is alike in all else
left_like : (s s' : StageFacts) (queue queue' : List LetterFacts) → Like s s' → queue ≡ queue' → Like (record s { queue = queue }) (record s' { queue = queue' })
left_like s s' queue queue' like same = record {
  worlds = like.worlds;
  forgers = like.forgers;
  sessions = like.sessions;
  made = like.made;
  named = like.named;
  queue = same;
}

-- a letter is handed over beside these others
hands_one : (s s' t u : StageFacts) (queue queue' : List LetterFacts) (l l' : LetterFacts) (text other : List ℕ) → Like s s' → queue ≡ queue' → l ≡ l'
    → HandsTo l.to (record s { queue = queue }) l.bytes text t → HandsTo l'.to (record s' { queue = queue' }) l'.bytes other u → Printed text other t u
hands_one s s' t u queue queue' l l' text other like same one g h =
    hands_like l.to (record s { queue = queue }) (record s' { queue = queue' }) t u l.bytes text other (left_like s s' queue queue' like same) g
    (subst (λ (k : LetterFacts). HandsTo k.to (record s' { queue = queue' }) k.bytes other u) (sym one) h)

befalls_so : (what : Fate) (f : Filter) (s s' t u : StageFacts) (text other : List ℕ) → Like s s' → Befalls what f s text t → Befalls what f s' other u → Printed text other t u
befalls_so (Handed passed) f s s' t u text other like g h =
    let one = taken_like f passed s.queue s'.queue g.left h.left g.letter h.letter like.queue g.taken h.taken in
    hands_one s s' t u g.left h.left g.letter h.letter text other like one.0 one.1 g.handed h.handed
befalls_so (Lost passed) f s s' t u text other like g h =
    let one = taken_like f passed s.queue s'.queue g.left h.left g.letter h.letter like.queue g.taken h.taken in
    turned (quiet (record s { queue = g.left })) (quiet (record s' { queue = h.left })) text other t u (record { text = refl; stages = left_like s s' g.left h.left like one.0 }) g.turn h.turn
befalls_so (Repeated passed) f s s' t u text other like g h =
    let one = taken_like f passed s.queue s'.queue g.left h.left g.letter h.letter like.queue g.taken h.taken in
    hands_one s s' t u (g.left ++ g.letter ∷ []) (h.left ++ h.letter ∷ []) g.letter h.letter text other like
    (ap (λ (ls : List LetterFacts). ls ++ g.letter ∷ []) one.0 ∙ ap (λ (l : LetterFacts). h.left ++ l ∷ []) one.1) one.1 g.handed h.handed
befalls_so (TimedOut at) f s s' t u text other like g h = record { text = g.text_is ∙ sym h.text_is; stages = times_like s s' like at t u g.times_out h.times_out }

pub befalls_like : (what what' : Fate) (f : Filter) (s s' t u : StageFacts) (text other : List ℕ) → Like s s' → what ≡ what' → Befalls what f s text t → Befalls what' f s' other u → Printed text other t u
befalls_like what what' f s s' t u text other like same g h = befalls_so what f s s' t u text other like g (subst (λ (x : Fate). Befalls x f s' other u) (sym same) h)

same_fate : (f : Filter) (order : DeliveryOrder) (n : ℕ) (s s' : StageFacts) → Like s s' → fate_at f order n s ≡ fate_at f order n s'
same_fate f order n s s' like =
    ap (λ (ls : List LetterFacts). fate order n (meant_count f ls) (replicas_for s.world.config.f)) like.queue
    ∙ ap (λ (c : Configuration). fate order n (meant_count f s'.queue) (replicas_for c.f)) like.worlds.config

pub deliveries_like : (f : Filter) (order : DeliveryOrder) (n : ℕ) (s s' t u : StageFacts) (text other : List ℕ) → Like s s' → Deliveries f order n s text t → Deliveries f order n s' other u
    → Printed text other t u
deliveries_like f order zero s s' t u text other like g h = record {
  text = g.0 ∙ sym h.0;
  stages = subst (λ (x : StageFacts). Like x u) (sym g.1) (subst (λ (x : StageFacts). Like s x) (sym h.1) like);
}
deliveries_like f order (suc n) s s' t u text other like (before, line, v, rest, one, is) (before', line', v', rest', one', is') =
    let first = deliveries_like f order n s s' v v' before before' like rest rest' in
    let last = befalls_like (fate_at f order n v) (fate_at f order n v') f v v' t u line line' first.stages (same_fate f order n v v' first.stages) one one' in
    record {
      text = is ∙ ap (λ (xs : List ℕ). xs ++ line) first.text ∙ ap (λ (xs : List ℕ). before' ++ xs) last.text ∙ sym is';
      stages = last.stages;
    }

-- ---- a delivery is made of what is meant

taken_some : (f : Filter) (passed : ℕ) (old new : List LetterFacts) (l : LetterFacts) → IsTaken f passed old l new → first_meant f old ≡ None → ⊥
taken_some f passed old new l k none = passing_found (is_meant f) k.before k.after l k.is_meant_one (ap (find (is_meant f)) (sym k.splits) ∙ none)

befalls_some : (what : Fate) (f : Filter) (s t : StageFacts) (text : List ℕ) → Befalls what f s text t → first_meant f s.queue ≡ None → ⊥
befalls_some (Handed passed) f s t text d = taken_some f passed s.queue d.left d.letter d.taken
befalls_some (Lost passed) f s t text d = taken_some f passed s.queue d.left d.letter d.taken
befalls_some (Repeated passed) f s t text d = taken_some f passed s.queue d.left d.letter d.taken
befalls_some (TimedOut at) f s t text d = d.more

-- behind fewer deliveries than there were, another one was made
pub record GoesOn (f : Filter) (order : DeliveryOrder) (n : ℕ) (s : StageFacts) : Type 0 where
  pub text : List ℕ
  pub stage : StageFacts
  pub done : Deliveries f order n s text stage
  pub more : first_meant f stage.queue ≡ None → ⊥

pub goes_on : (f : Filter) (order : DeliveryOrder) (n m : ℕ) (s t : StageFacts) (text : List ℕ) → n < m → Deliveries f order m s text t → GoesOn f order n s
goes_on f order n zero s t text less g = absurd (omega (arith, less))
goes_on f order n (suc m) s t text less (before, line, v, rest, one, is) = by (cases_lt n m) (λ (more : n < m). goes_on f order n m s v before more rest) where
  at : n ≡ m → GoesOn f order n s
  at same = record {
    text = before;
    stage = v;
    done = subst (λ (k : ℕ). Deliveries f order k s before v) (sym same) rest;
    more = befalls_some (fate_at f order m v) f v t line one;
  }

  by : (n < m) ⊎ (m ≤ n) → (n < m → GoesOn f order n s) → GoesOn f order n s
  by (inl more) later = later more
  by (inr least) later = at (omega (arith, least, less))

-- so there is no other delivery where none is meant any more
pub none_more : (f : Filter) (order : DeliveryOrder) (n m : ℕ) (s s' t u : StageFacts) (text other : List ℕ) → Like s s' → n < m → Deliveries f order n s text t → first_meant f t.queue ≡ None
    → Deliveries f order m s' other u → ⊥
none_more f order n m s s' t u text other like less g none h =
    let on = goes_on f order n m s' u other less h in
    let same = deliveries_like f order n s s' t on.stage text on.text like g on.done in
    on.more (ap (first_meant f) (sym same.stages.queue) ∙ none)

-- ---- timeouts

pub all_time_out_like : (ids : List ReplicaId) (s s' t u : StageFacts) → Like s s' → AllTimeOut s ids t → AllTimeOut s' ids u → Like t u
all_time_out_like [] s s' t u like g h = subst (λ (x : StageFacts). Like x u) (sym g) (subst (λ (x : StageFacts). Like s x) (sym h) like)
all_time_out_like (id ∷ ids) s s' t u like (v, one, rest) (v', one', rest') = all_time_out_like ids v v' t u (times_like s s' like id v v' one one') rest rest'
