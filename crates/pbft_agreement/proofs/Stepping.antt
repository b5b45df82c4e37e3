-- Where the messages taken are lists of bytes, the service has a step for each request that a digest stands for.
use Rattle.std.proofs.Common.{◌≡◌, ℕ, ◌+◌, ◌<◌, ◌≤◌, arith, inl, Bool, true, false, cond, IsTrue, List, [], ◌∷◌, ◌++◌, length, Option, Some, None, refl, sym, subst, ◌∙◌, inr}
use Rattle.std.specs.Prelude.{IfSome, IsSome, All, bytes_eq}
use Rattle.std.specs.Option.{option_map}
use Rattle.std.specs.Int.{w32, w64, to_be_bytes}
use Rattle.std.proofs.lemmas.Bool.{cases_lt}
use Rattle.std.proofs.lemmas.List.Elements.{All-tail}
use Rattle.host_types.specs.declared.config.ClientEntry.{ClientEntry}
use Rattle.host_types.specs.Configuration.{entry_of}
use Rattle.host_types.specs.declared.key.PublicKey.{PublicKey}
use Rattle.pbft_codec.specs.declared.body.Body.TheVariants as bodies
use Rattle.pbft_codec.specs.Layouts.{role_byte, number, length_prefixed, signed, request, snapshot}
use Rattle.pbft_codec.specs.Encoding.{body, encoding}
use Rattle.service_model.specs.Asked.{CanAsk, HasTenantMaps}
use Rattle.service_model.proofs.Existing.{genesis_maps, step_maps, step_exists}
use Rattle.service_model.proofs.Reading.{left_bytes, right_bytes, read_maps}
use Rattle.seal.specs.Signers.{key_of, may_sign}
use Rattle.pbft_model.specs.Words.{SigningState, leaf_count, Signed, Body, Role, Replica, Client, RequestBody, Snapshot, Request, Configuration, IsConfiguration, IsChecked, as_message}
use Rattle.pbft_model.specs.Sequential.{Service, Outcome, IsStep}
use Rattle.pbft_model.specs.Setup.{Setup, null_digest, request_in}
use Rattle.pbft_model.specs.Core.{Core, start_of, held_with, is_named, request_of}
use Rattle.pbft_model.specs.Acts.{Act, Take, Timeout, Send, Relay, Enter, Rise, Execute, Install, after}
use Rattle.pbft_model.specs.Duties.{Duty, Do, Executing, WornOut, due}
use Rattle.pbft_model.specs.Rows.{Row, Input, Fulfils, Follows, Begins, IsLawfulFrom, Lacks, Exhausted, Worn, leaves_for, Continues}
use Rattle.pbft_model.specs.Rules.{Allowed}
use Rattle.pbft_model.specs.Histories.{core_after, IsHistory, HasTaken, IsIn}
use Rattle.pbft_agreement.specs.Received.{TakesBytes, ReceivesBytes}
use Rattle.pbft_model.proofs.Events.{now}
use Rattle.pbft_model.proofs.Origins.{recorded_keeps, said_keeps, left_keeps}
use Rattle.pbft_model.proofs.Holdings.{from_find, just_taken, held_taken}
use Rattle.pbft_model.proofs.Fitting.{held_opened, in_step_at}
use Rattle.pbft_model.proofs.Rowed.{begun}
use Rattle.pbft_model.proofs.Leaves.{signer_by, signer_begins}
use Rattle.pbft_agreement.proofs.Reporting.{pushed, taken_before, acts_from, core_from, history_from, core_follows, history_follows, reactions, begins_take, taken_from}

abbrev AreBytes : List ℕ → Type 0
AreBytes bytes = All (λ byte. byte < 256) bytes

-- ---- fields of a message that is a list of bytes

prefixed_bytes : (bytes : List ℕ) → AreBytes (length_prefixed bytes) → AreBytes bytes
unfolding length_prefixed
prefixed_bytes bytes all = right_bytes (to_be_bytes w32 (length bytes)) bytes all

body_bytes : (m : Signed Body) → AreBytes (encoding m) → AreBytes (body m.body)
unfolding signed
body_bytes m all =
    prefixed_bytes (body m.body)
    (right_bytes ((role_byte m.role ∷ []) ++ to_be_bytes w32 m.id) (length_prefixed (body m.body)) (left_bytes (((role_byte m.role ∷ []) ++ to_be_bytes w32 m.id) ++ length_prefixed (body m.body)) (length_prefixed m.sig) all))

request_bytes : (b : RequestBody) → AreBytes (body (bodies.Request b)) → AreBytes b.op
unfolding body request
request_bytes b all = prefixed_bytes b.op (right_bytes (to_be_bytes w64 b.time) (length_prefixed b.op) (All-tail (λ byte. byte < 256) _ (request b) all))

snapshot_bytes : (b : Snapshot) → AreBytes (body (bodies.Snapshot b)) → AreBytes b.state
unfolding body snapshot
snapshot_bytes b all = prefixed_bytes b.state (right_bytes (number b.number) (length_prefixed b.state) (All-tail (λ byte. byte < 256) _ (snapshot b) all))

-- ---- a request that was opened comes from a listed client

some_entry : (o : Option ClientEntry) (key : PublicKey) → option_map (λ entry. entry.key) o ≡ Some key → IsSome o
some_entry None key e = absurd (cc)
some_entry (Some entry) key e = refl

signer_listed : (c : Setup) (role : Role) (id : ℕ) (b : RequestBody) (key : PublicKey) → key_of c.config role id ≡ Some key → IsTrue (may_sign c.config role id (bodies.Request b)) → IsSome (entry_of c.config.clients id)
signer_listed c Replica id b key e may = absurd (cc)
signer_listed c Client id b key e may = some_entry (entry_of c.config.clients id) key e

can_ask : (c : Setup) (m : Signed RequestBody) → IsChecked (record { config = c.config; message = as_message bodies.Request m }) → AreBytes m.body.op → CanAsk c.config (request_in m)
can_ask c m opened bytes =
    let authentic = opened.authentic.0 in
    let fields = opened.encodes.well_formed.fields_in_range in
    record { listed = signer_listed c m.role m.id m.body authentic.key authentic.listed authentic.role; client_in_range = fields.id_in_range; bytes = bytes }

-- ---- the maps of the states of a history

module _ (c : Setup) (me : ℕ) (signer : SigningState) (configuration : IsConfiguration c.config) where
  -- a held request is one that a client can make
  held_can_ask : (acts : List Act) → IsHistory c me signer acts → TakesBytes acts → (m : Signed RequestBody) → IsIn m (core_after c signer acts).held → CanAsk c.config (request_in m)
  held_can_ask acts is bytes m within =
      let message = as_message bodies.Request m in
      let taken : HasTaken message acts = held_taken c me signer acts is acts (now acts) m within in
      can_ask c m (held_opened c me signer configuration acts is m within) (request_bytes m.body (body_bytes message (bytes message taken)))

  asked : (acts : List Act) → IsHistory c me signer acts → TakesBytes acts → (digest : List ℕ) → IfSome (request_of c (core_after c signer acts) digest) (CanAsk c.config)
  asked acts is bytes digest = split (bytes_eq digest (null_digest c)) (held_with c (core_after c signer acts).held digest) refl where
    split : (b : Bool) (o : Option (Signed RequestBody)) → held_with c (core_after c signer acts).held digest ≡ o → IfSome (cond b None (option_map request_in o)) (CanAsk c.config)
    split true o e = tt
    split false None e = tt
    split false (Some m) e = held_can_ask acts is bytes m ((from_find (is_named c digest) (core_after c signer acts).held m e).0)

  asked_bytes : (o : Option Request) → IfSome o (CanAsk c.config) → IfSome o (λ r. AreBytes r.op)
  asked_bytes None ask = tt
  asked_bytes (Some r) ask = ask.bytes

  maps_after : (acts : List Act) (a : Act) → IsHistory c me signer acts → TakesBytes acts → Allowed c me (core_after c signer acts) a → HasTenantMaps (core_after c signer acts).service → HasTenantMaps (after c (core_after c signer acts) a).service
  maps_after acts (Take m r) is bytes ok h = subst HasTenantMaps (sym (recorded_keeps c (core_after c signer acts) m m.body).service) h
  maps_after acts (Send to m) is bytes ok h = subst HasTenantMaps (sym (said_keeps c (core_after c signer acts) m m.body).service) h
  maps_after acts (Enter m) is bytes ok h = subst HasTenantMaps (sym (left_keeps c (core_after c signer acts) m.body.view.0).service) h
  maps_after acts (Execute n d t o) is bytes ok h =
      let s = core_after c signer acts in
      step_maps s.service (request_of c s d) t o h (asked_bytes (request_of c s d) (asked acts is bytes d)) ok.step
  maps_after acts (Install n b t) is bytes ok h =
      let message = as_message bodies.Snapshot ok.message in
      let taken : HasTaken message acts = just_taken c me signer acts is acts (now acts) message ok.taken in
      let state : AreBytes ok.message.body.state = snapshot_bytes ok.message.body (body_bytes message (bytes message taken)) in
      read_maps t ok.reads.sound.bounded (subst AreBytes (ok.bytes_are ∙ sym ok.reads.encodes) state)
  maps_after acts _ is bytes ok h = h

  pub maps_at : (acts : List Act) → IsHistory c me signer acts → TakesBytes acts → HasTenantMaps (core_after c signer acts).service
  maps_at [] is bytes = genesis_maps c.config
  maps_at (a ∷ acts) is bytes =
      let fewer : TakesBytes acts = λ m h. bytes m (inr h) in
      maps_after acts a is.0 fewer is.1 (maps_at acts is.0 fewer)

  -- ---- a step

  pub service_steps : (acts : List Act) → IsHistory c me signer acts → TakesBytes acts → (digest : List ℕ)
      → (service : Service) × (outcome : Outcome) × IsStep (core_after c signer acts).service (request_of c (core_after c signer acts) digest) service outcome
  service_steps acts is bytes digest =
      let s = core_after c signer acts in
      let fits = in_step_at c me signer configuration acts is in
      step_exists s.service (request_of c s digest) fits.sound.bounded.same_tenants fits.sound.sound (maps_at acts is bytes)
      (subst (λ (config : Configuration). IfSome (request_of c s digest) (CanAsk config)) (sym fits.config_is) (asked acts is bytes digest))

  pub execution_goes : (acts : List Act) → IsHistory c me signer acts → TakesBytes acts → (number : ℕ) (digest : List ℕ) → due c me (core_after c signer acts) ≡ Some (Executing number digest)
      → (a : Act) × Fulfils c (core_after c signer acts) (due c me (core_after c signer acts)) a
  execution_goes acts is bytes number digest e =
      let s = core_after c signer acts in
      let w = service_steps acts is bytes digest in
      let a : Act = Execute number digest w.0 w.1 in
      (a, subst (λ (d : Option Duty). Fulfils c s d a) (sym e) (w.0, w.1, w.2, refl))

  -- ---- what is due is done, or halts the replica

  pub continues : (acts : List Act) → IsHistory c me signer acts → TakesBytes acts → (let s = core_after c signer acts in s.signer.next_leaf ≤ leaf_count s.signer) → Continues c me (core_after c signer acts)
  continues acts is bytes spare = cases (due c me (core_after c signer acts)) refl where
    cases : (d : Option Duty) → due c me (core_after c signer acts) ≡ d → Continues c me (core_after c signer acts)
    cases None e = inl e
    cases (Some (Do a)) e = elim (cases_lt (leaf_count (core_after c signer acts).signer) ((core_after c signer acts).signer.next_leaf + leaves_for a)) [
      | inl few ↦ inr (inr (Exhausted, subst (λ (d : Option Duty). Lacks (core_after c signer acts) d Exhausted) (sym e) few))
      | inr enough ↦ inr (inl (a, subst (λ (d : Option Duty). Fulfils c (core_after c signer acts) d a) (sym e) refl, enough))
    ]
    cases (Some (Executing n d)) e =
        let w = service_steps acts is bytes d in
        inr (inl (Execute n d w.0 w.1, subst (λ (x : Option Duty). Fulfils c (core_after c signer acts) x (Execute n d w.0 w.1)) (sym e) (w.0, w.1, w.2, refl), omega (arith, spare)))
    cases (Some WornOut) e = inr (inr (Worn, subst (λ (d : Option Duty). Lacks (core_after c signer acts) d Worn) (sym e) tt))

  -- ---- and so in a row that an input begins behind those of a journal

  abbrev Spares : SigningState → Type 0
  Spares x = x.next_leaf ≤ leaf_count x

  spares_follows : (acts : List Act) (s t : Core) → Spares s.signer → Follows c me s acts t → Spares t.signer
  spares_follows [] s t spare same = subst (λ (x : Core). Spares x.signer) (sym same) spare
  spares_follows (a ∷ acts) s t spare (does, leaves, rest) = spares_follows acts (after c s a) t (subst Spares (sym (signer_by c s a)) leaves) rest

  spares_begins : (s : Core) (input : Input) (first : Act) → Begins c input first → Spares s.signer → Spares (after c s first).signer
  spares_begins s input first begins spare = subst Spares (sym (signer_begins c s input first begins)) spare

  spares_rows : (rows : List Row) (s t : Core) → Spares s.signer → IsLawfulFrom c me s rows t → Spares t.signer
  spares_rows [] s t spare same = subst (λ (x : Core). Spares x.signer) (sym same) spare
  spares_rows (row ∷ rows) s t spare (u, next, rest) =
      spares_rows rows u t (spares_follows next.acts (after c s next.first) u (spares_begins s row.input next.first next.begins spare) next.reacts.follows) rest

  pub row_continues : Spares signer → (rows : List Row) (s : Core) → IsLawfulFrom c me (start_of c signer) rows s → (input : Input) → ReceivesBytes rows input
      → (first : Act) → Begins c input first → (acts : List Act) (t : Core) → Follows c me (after c s first) acts t → Continues c me t
  row_continues spare rows s lawful input bytes first begins acts t follows =
      subst (Continues c me) comes (continues all is given (subst (λ (x : Core). Spares x.signer) (sym comes) last)) where
        early : List Act
        early = acts_from c me signer [] rows (start_of c signer) s lawful

        begun_there : core_after c signer early ≡ s
        begun_there = core_from c me signer [] rows (start_of c signer) s lawful refl

        is_early : IsHistory c me signer early
        is_early = history_from c me signer [] rows (start_of c signer) s lawful refl tt

        follows_early : Follows c me (core_after c signer (first ∷ early)) acts t
        follows_early = subst (λ (x : Core). Follows c me (after c x first) acts t) (sym begun_there) follows

        all : List Act
        all = pushed acts (first ∷ early)

        is : IsHistory c me signer all
        is = history_follows c me signer acts (first ∷ early) t (is_early, begun c me signer (core_after c signer early) input first begins) follows_early

        comes : core_after c signer all ≡ t
        comes = core_follows c me signer acts (first ∷ early) t follows_early

        given : TakesBytes all
        given m taken = elim (taken_before m acts (first ∷ early) (reactions c me signer acts (after c s first) t follows) taken) [
          | inl (r, e) ↦ bytes m (inr (begins_take c me signer input m r first begins e))
          | inr older ↦ elim (taken_from c me signer m [] rows (start_of c signer) s lawful older) [
            | inl none ↦ absurd none
            | inr received ↦ bytes m (inl received)
          ]
        ]

        last : Spares t.signer
        last = spares_follows acts (after c s first) t (spares_begins s input first begins (spares_rows rows (start_of c signer) s spare lawful)) follows
