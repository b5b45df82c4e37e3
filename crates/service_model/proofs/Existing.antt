-- A step exists: each operation can be done, and each request taken.
use Rattle.std.proofs.Common.{◌≡◌, ◌⊎◌, ℕ, ◌+◌, ◌<◌, ◌≤◌, ◌^◌, Bool, true, false, cond, ◌&&◌, eqb, List, [], ◌∷◌, ◌++◌, length, get_or, take, drop, map, Option, Some, None, refl, sym, ap, subst, ◌∙◌, inl, inr}
use Rattle.std.specs.Prelude.{MatchBool, All, IfSome, nat_le, nat_lt, nat_eq, slice_get}
use Rattle.std.specs.Int.{w32, from_be_bytes}
use Rattle.std.specs.FinMap as finite
use Rattle.std.proofs.lemmas.Bool.{ltb-false}
use Rattle.std.proofs.lemmas.List.Elements.{All-cons, All-head, All-tail, All-nil, All-drop, All-get_or}
use Rattle.std.proofs.lemmas.Option.{slice_get_within, get_or_from_slice_get}
use Rattle.host_types.specs.declared.TenantId.{TenantId}
use Rattle.host_types.specs.declared.config.ClientEntry.{ClientEntry}
use Rattle.host_types.specs.declared.request.Request.{Request}
use Rattle.host_types.specs.declared.request.Reply.{Reply}
use Rattle.host_types.specs.Configuration.{Configuration, tenants_of, entry_of}
use Rattle.bpf_model.proofs.Deciding.{bytes_decided}
use Rattle.bpf_model.proofs.Encodings.{same_code, refused_is_no_code}
use Rattle.bpf_model.specs.Insn.{Insn}
use Rattle.bpf_model.specs.Machine.{Call}
use Rattle.bpf_model.specs.Verdict.{AcceptsUnder, IsAccepted}
use Rattle.bpf_model.proofs.Totality.{decided, not_both}
use Rattle.bpf_model.specs.declared.profile.Profile.{Profile}
use Rattle.bpf_model.specs.declared.profile.Profile.TheVariants.{One, Two}
use Rattle.bpf_model.proofs.Runs.{IsTenantMap-empty}
use Rattle.tenant_maps.specs.Entries.{Entries, IsTenantMap}
use Rattle.service_model.specs.declared.outcome.Outcome.{Outcome}
use Rattle.service_model.specs.Operations.{Operation, Install, Call as CallOf, Bad, operation_of, Installs, Calls, Runs, Does, installed, called, refused, no_procedure, too_many_procedures, arguments_too_long, bad_operation}
use Rattle.service_model.specs.TenantStates.{Procedure, TenantState, Service, empty_tenant, genesis_of, with_tenant}
use Rattle.service_model.specs.Steps.{reply_to, Executes, IsTenantStep, TakesRequest, IsStep, Follows}
use Rattle.service_model.specs.Sound.{IsAcceptedProcedure, IsSoundTenant, IsSound}
use Rattle.service_model.specs.Asked.{CanAsk, HasTenantMaps}
use Rattle.service_model.proofs.Matches.{match_true, match_false, match_none, match_some}
use Rattle.service_model.proofs.Found.{tenant_at_index}
use Rattle.service_model.proofs.TenantIndexes.{index_for, part_for, tenant_for_index, listed_has_index, empty_tenants}
use Rattle.service_model.proofs.Soundness.{one_of_bool, one_of_option, found_one, accepted_safe, all_with_tenant, step_sound, genesis_sound}
use Rattle.service_model.proofs.Bounds.{ids_with_tenant}
use Rattle.service_model.proofs.Bytes.{small_of, ending_map}

-- ---- the bytes of an operation

abbrev AreBytes : List ℕ → Type 0
AreBytes bytes = All (λ byte. byte < 256) bytes

abbrev IsOfBytes : Operation → Type 0
IsOfBytes (Install profile code) = AreBytes code
IsOfBytes (CallOf id arguments) = AreBytes arguments
IsOfBytes Bad = Unit {0}

of_bytes : (op : List ℕ) → AreBytes op → IsOfBytes (operation_of op)
of_bytes [] all = tt
of_bytes (kind ∷ rest) all = install (eqb kind 1) where
  others : AreBytes rest
  others = All-tail (λ byte. byte < 256) kind rest all

  call : (b : Bool) → IsOfBytes (cond b (CallOf (from_be_bytes w32 (take 4 rest)) (drop 4 rest)) Bad)
  call true = All-drop (λ byte. byte < 256) 4 rest others
  call false = tt

  install2 : (b : Bool) → IsOfBytes (cond b (Install Two rest) (cond (eqb kind 2 && nat_le 4 (length rest)) (CallOf (from_be_bytes w32 (take 4 rest)) (drop 4 rest)) Bad))
  install2 true = others
  install2 false = call (eqb kind 2 && nat_le 4 (length rest))

  install : (b : Bool) → IsOfBytes (cond b (Install One rest) (cond (eqb kind 4) (Install Two rest) (cond (eqb kind 2 && nat_le 4 (length rest)) (CallOf (from_be_bytes w32 (take 4 rest)) (drop 4 rest)) Bad)))
  install true = others
  install false = install2 (eqb kind 4)

-- ---- an operation can be done

-- the verdict of a profile on code
pub verdict_decided : (profile : Profile) (code : List ℕ) → AreBytes code → ((bound : ℕ) × AcceptsUnder profile code bound) ⊎ ((bound : ℕ) → AcceptsUnder profile code bound → ⊥)
verdict_decided profile code all = elim (bytes_decided code (small_of code all)) [
  | inl (insns, is) ↦ elim (decided profile code insns is) [
    | inl (bound, accepted) ↦ inl (bound, (insns, is, accepted))
    | inr (fault, slot, rejected) ↦ inr (λ bound accepts. not_both profile insns bound fault slot (subst (λ (x : List Insn). IsAccepted profile x bound) (same_code code accepts.0 insns accepts.1 is) accepts.2) rejected)
  ]
  | inr (fault, slot, faulty) ↦ inr (λ bound accepts. refused_is_no_code code accepts.0 fault slot faulty accepts.1)
]

-- what doing an operation leaves and gives
record Done (client : ℕ) (op : Operation) (procedures : List Procedure) (entries : Entries) : Type 0 where
  procedures' : List Procedure
  entries' : Entries
  result : List ℕ
  does : Does client op procedures entries procedures' entries' result

install_done : (client : ℕ) (profile : Profile) (code : List ℕ) (procedures : List Procedure) (entries : Entries) → AreBytes code → Done client (Install profile code) procedures entries
install_done client profile code procedures entries all = cases (nat_le 64 (length procedures)) refl (verdict_decided profile code all) where
  new : Procedure
  new = record { profile = profile; code = code }

  done : (after : List Procedure) (result : List ℕ) → Installs procedures new after result → Done client (Install profile code) procedures entries
  done after result installs = record { procedures' = after; entries' = entries; result = result; does = (installs, refl) }

  cases : (b : Bool) → nat_le 64 (length procedures) ≡ b → ((bound : ℕ) × AcceptsUnder profile code bound) ⊎ ((bound : ℕ) → AcceptsUnder profile code bound → ⊥) → Done client (Install profile code) procedures entries
  cases true e verdict = done procedures too_many_procedures (match_true _ _ _ e (refl, refl))
  cases false e (inl (bound, accepts)) =
      done (procedures ++ new ∷ []) (installed (length procedures)) (match_false _ _ _ e (inl (bound, accepts, refl, refl)))
  cases false e (inr none) = done procedures refused (match_false _ _ _ e (inr (none, refl, refl)))

-- a procedure that was accepted has a run
run_done : (client : ℕ) (procedure : Procedure) (arguments : List ℕ) (entries : Entries) → client < 2 ^ 32 → IsAcceptedProcedure procedure → length arguments ≤ 256 → AreBytes arguments → IsTenantMap entries
    → (after : Entries) × (result : List ℕ) × Runs client procedure.code arguments entries after result
run_done client procedure arguments entries id accepted short all is =
    let right = accepted_safe procedure accepted in
    let call : Call = record { arguments = arguments; client = client; entries = entries } in
    let end = right.safe.ends call (record { short = short; bytes = small_of arguments all; client = id; entries = is }) in
    (end.0.entries, called end.0.value end.0.output, record { insns = right.insns; is_code = right.is_code; ending = end.0; ends = end.1; entries_are = refl; result_is = refl })

call_done : (client id : ℕ) (arguments : List ℕ) (procedures : List Procedure) (entries : Entries) → client < 2 ^ 32 → All IsAcceptedProcedure procedures → AreBytes arguments → IsTenantMap entries
    → Done client (CallOf id arguments) procedures entries
call_done client id arguments procedures entries below accepted all is = found (slice_get procedures id) refl where
  done : (after : Entries) (result : List ℕ) → Calls client procedures id arguments entries after result → Done client (CallOf id arguments) procedures entries
  done after result calls = record { procedures' = procedures; entries' = after; result = result; does = (calls, refl) }

  ran : (procedure : Procedure) → slice_get procedures id ≡ Some procedure → (b : Bool) → nat_lt 256 (length arguments) ≡ b → Done client (CallOf id arguments) procedures entries
  ran procedure e true long = done entries arguments_too_long (match_some _ procedure _ _ e (match_true _ _ _ long (refl, refl)))
  ran procedure e false short =
      let mine : IsAcceptedProcedure procedure = subst IsAcceptedProcedure (get_or_from_slice_get procedures id procedure procedure e) (All-get_or IsAcceptedProcedure procedures id procedure (slice_get_within procedures id procedure e) accepted) in
      let r = run_done client procedure arguments entries below mine (ltb-false 256 (length arguments) short) all is in
      done r.0 r.1 (match_some _ procedure _ _ e (match_false _ _ _ short r.2))

  found : (o : Option Procedure) → slice_get procedures id ≡ o → Done client (CallOf id arguments) procedures entries
  found None e = done entries no_procedure (match_none _ _ _ e (refl, refl))
  found (Some procedure) e = ran procedure e (nat_lt 256 (length arguments)) refl

does_exist : (client : ℕ) (op : Operation) (procedures : List Procedure) (entries : Entries) → client < 2 ^ 32 → All IsAcceptedProcedure procedures → IsOfBytes op → IsTenantMap entries → Done client op procedures entries
does_exist client (Install profile code) procedures entries id accepted all is = install_done client profile code procedures entries all
does_exist client (CallOf p arguments) procedures entries id accepted all is = call_done client p arguments procedures entries id accepted all is
does_exist client Bad procedures entries id accepted all is = record { procedures' = procedures; entries' = entries; result = bad_operation; does = (refl, refl, refl) }

-- ---- a request can be taken

record TenantStep (number : ℕ) (part : TenantState) (request : Request) : Type 0 where
  after : TenantState
  reply : Option Reply
  kept : Bool
  step : IsTenantStep number part request after reply kept

tenant_step_exists : (clients : List ClientEntry) (config : Configuration) (number : ℕ) (part : TenantState) (request : Request) → CanAsk config request → IsSoundTenant clients part → IsTenantMap part.entries
    → TenantStep number part request
tenant_step_exists clients config number part request ask sound is = last (finite.get part.last_replies request.client.0) refl where
  done : Done request.client.0 (operation_of request.op) part.procedures part.entries
  done = does_exist request.client.0 (operation_of request.op) part.procedures part.entries ask.client_in_range sound.accepted (of_bytes request.op ask.bytes) is

  after : TenantState
  after = record { tenant = part.tenant; procedures = done.procedures'; entries = done.entries'; last_replies = finite.insert part.last_replies request.client.0 (reply_to request number done.result) }

  executes : Executes number part request after (Some (reply_to request number done.result)) false
  executes = record { procedures = done.procedures'; entries = done.entries'; result = done.result; does = done.does; part_is = refl; reply_is = refl; is_new = refl }

  times : (reply : Reply) → finite.get part.last_replies request.client.0 ≡ Some reply → (b c : Bool) → nat_lt request.time reply.time ≡ b → nat_eq request.time reply.time ≡ c → TenantStep number part request
  times reply e true c older same = record { after = part; reply = None; kept = false; step = match_some _ reply _ _ e (match_true _ _ _ older (refl, refl, refl)) }
  times reply e false true older same = record { after = part; reply = Some reply; kept = true; step = match_some _ reply _ _ e (match_false _ _ _ older (match_true _ _ _ same (refl, refl, refl))) }
  times reply e false false older same = record { after = after; reply = Some (reply_to request number done.result); kept = false; step = match_some _ reply _ _ e (match_false _ _ _ older (match_false _ _ _ same executes)) }

  last : (o : Option Reply) → finite.get part.last_replies request.client.0 ≡ o → TenantStep number part request
  last None e = record { after = after; reply = Some (reply_to request number done.result); kept = false; step = match_none _ _ _ e executes }
  last (Some reply) e = times reply e (nat_lt request.time reply.time) (nat_eq request.time reply.time) refl refl

-- each tenant of the configuration has a part
abbrev pub HasAllTenants : Service → Type 0
HasAllTenants s = map (λ tenant. tenant.tenant) s.tenants ≡ map (λ tenant. tenant.0) (tenants_of s.config.clients)

index_within : (parts : List TenantState) (entry : Option ClientEntry) (i : ℕ) (d : TenantState) → index_for parts entry ≡ Some i → i < length parts
index_within parts None i d e = absurd (cc)
index_within parts (Some entry) i d e = (tenant_at_index parts entry.tenant.0 i d e).0

takes_exist : (s : Service) (request : Request) → HasAllTenants s → IsSound s → HasTenantMaps s → CanAsk s.config request → (after : Service) × (outcome : Outcome) × TakesRequest s request after outcome
takes_exist s request same sound maps ask = cases (index_for s.tenants entry) refl where
  entry : Option ClientEntry
  entry = entry_of s.config.clients request.client.0

  none : TenantState
  none = empty_tenant 0

  taken : (i : ℕ) → index_for s.tenants entry ≡ Some i → (after : Service) × (outcome : Outcome) × TakesRequest s request after outcome
  taken i e =
      let within = index_within s.tenants entry i none e in
      let part = get_or s.tenants i none in
      let t = tenant_step_exists s.config.clients s.config (s.number + 1) part request ask (sound i none within) (maps i none within) in (
        record { config = s.config; number = s.number + 1; tenants = with_tenant t.after s.tenants },
        record { number = record { 0 = s.number + 1 }; reply = t.reply; kept = t.kept },
        record { part = part; is_part = tenant_for_index s.tenants entry i none e; changed = t.after; step = t.step; state_is = refl; number_is = refl },
      )

  cases : (o : Option ℕ) → index_for s.tenants entry ≡ o → (after : Service) × (outcome : Outcome) × TakesRequest s request after outcome
  cases None e = absurd (listed_has_index s.tenants s.config.clients _ same ask.listed e)
  cases (Some i) e = taken i e

pub step_exists : (s : Service) (request : Option Request) → HasAllTenants s → IsSound s → HasTenantMaps s → IfSome request (CanAsk s.config) → (after : Service) × (outcome : Outcome) × IsStep s request after outcome
step_exists s None same sound maps ask = (
  record { config = s.config; number = s.number + 1; tenants = s.tenants },
  record { number = record { 0 = s.number + 1 }; reply = None; kept = false },
  (refl, refl),
)
step_exists s (Some request) same sound maps ask = takes_exist s request same sound maps ask

-- ---- a list of requests can be taken

steps_config : (s : Service) (request : Option Request) (t : Service) (o : Outcome) → IsStep s request t o → t.config ≡ s.config
steps_config s None t o h = ap (λ (u : Service). u.config) h.0
steps_config s (Some request) t o h = ap (λ (u : Service). u.config) h.state_is

steps_tenants : (s : Service) (request : Option Request) (t : Service) (o : Outcome) → HasAllTenants s → IsStep s request t o → HasAllTenants t
steps_tenants s None t o same h = subst HasAllTenants (sym h.0) same
steps_tenants s (Some request) t o same h = subst HasAllTenants (sym h.state_is) (ids_with_tenant h.changed s.tenants ∙ same)

-- ---- maps stay maps

calls_map : (client : ℕ) (procedures : List Procedure) (id : ℕ) (arguments : List ℕ) (entries after : Entries) (result : List ℕ) → AreBytes arguments → IsTenantMap entries
    → Calls client procedures id arguments entries after result → IsTenantMap after
calls_map client procedures id arguments entries after result all is h =
    one_of_option (slice_get procedures id) _ _ _
    (λ (x : (after ≡ entries) × (result ≡ no_procedure)). subst IsTenantMap (sym x.0) is)
    (λ procedure. cases procedure.code (nat_lt 256 (length arguments)) refl) h where
      cases : (code : List ℕ) (b : Bool) → nat_lt 256 (length arguments) ≡ b
          → MatchBool b ((after ≡ entries) × (result ≡ arguments_too_long)) (Runs client code arguments entries after result) → IsTenantMap after
      cases code true e x = subst IsTenantMap (sym x.0) is
      cases code false e r =
          subst IsTenantMap (sym r.entries_are) (ending_map r.insns (record { arguments = arguments; client = client; entries = entries }) r.ending (ltb-false 256 (length arguments) e) all is r.ends)

does_map : (client : ℕ) (op : Operation) (procedures : List Procedure) (entries : Entries) (procedures' : List Procedure) (entries' : Entries) (result : List ℕ) → IsOfBytes op → IsTenantMap entries
    → Does client op procedures entries procedures' entries' result → IsTenantMap entries'
does_map client (Install profile code) procedures entries procedures' entries' result all is h = subst IsTenantMap (sym h.1) is
does_map client (CallOf id arguments) procedures entries procedures' entries' result all is h = calls_map client procedures id arguments entries entries' result all is h.0
does_map client Bad procedures entries procedures' entries' result all is h = subst IsTenantMap (sym h.1) is

-- a tenant's map, in its part
abbrev HasMap : TenantState → Type 0
HasMap part = IsTenantMap part.entries

executes_map : (number : ℕ) (part : TenantState) (request : Request) (after : TenantState) (reply : Option Reply) (kept : Bool) → AreBytes request.op → HasMap part → Executes number part request after reply kept → HasMap after
executes_map number part request after reply kept all is e =
    subst HasMap (sym e.part_is) (does_map request.client.0 (operation_of request.op) part.procedures part.entries e.procedures e.entries e.result (of_bytes request.op all) is e.does)

tenant_step_map : (number : ℕ) (part : TenantState) (request : Request) (after : TenantState) (reply : Option Reply) (kept : Bool) → AreBytes request.op → HasMap part → IsTenantStep number part request after reply kept → HasMap after
tenant_step_map number part request after reply kept all is h =
    let done = executes_map number part request after reply kept all is in
    one_of_option (finite.get part.last_replies request.client.0) _ _ _ done
    (λ last. one_of_bool (nat_lt request.time last.time) _ _ _
    (λ (x : (after ≡ part) × (reply ≡ None) × (kept ≡ false)). subst HasMap (sym x.0) is)
    (one_of_bool (nat_eq request.time last.time) _ _ _
    (λ (x : (after ≡ part) × (reply ≡ Some last) × (kept ≡ true)). subst HasMap (sym x.0) is)
    done)) h

found_map : (parts : List TenantState) (entry : Option ClientEntry) (part : TenantState) → All HasMap parts → part_for parts entry ≡ Some part → HasMap part
found_map parts None part all e = absurd (cc)
found_map parts (Some entry) part all e = (found_one HasMap (λ (p : TenantState). eqb p.tenant entry.tenant.0) parts part all e).0

pub step_maps : (s : Service) (request : Option Request) (t : Service) (o : Outcome) → HasTenantMaps s → IfSome request (λ r. AreBytes r.op) → IsStep s request t o → HasTenantMaps t
step_maps s None t o maps all h = subst HasTenantMaps (sym h.0) maps
step_maps s (Some request) t o maps all h =
    let mine = found_map s.tenants (entry_of s.config.clients request.client.0) h.part maps h.is_part in
    let changed = tenant_step_map (s.number + 1) h.part request h.changed o.reply o.kept all mine h.step in
    subst HasTenantMaps (sym h.state_is) (all_with_tenant HasMap h.changed s.tenants changed maps)

empty_maps : (tenants : List TenantId) → All HasMap (map (λ tenant. empty_tenant tenant.0) tenants)
empty_maps [] = All-nil HasMap
empty_maps (tenant ∷ tenants) = All-cons HasMap (empty_tenant tenant.0) (map (λ t. empty_tenant t.0) tenants) IsTenantMap-empty (empty_maps tenants)

pub genesis_maps : (config : Configuration) → HasTenantMaps (genesis_of config)
genesis_maps config = empty_maps (tenants_of config.clients)

-- ---- a list of requests has an outcome

record Stands (config : Configuration) (s : Service) : Type 0 where
  config_is : s.config ≡ config
  tenants : HasAllTenants s
  sound : IsSound s
  maps : HasTenantMaps s

asked_bytes : (config : Configuration) (request : Option Request) → IfSome request (CanAsk config) → IfSome request (λ r. AreBytes r.op)
asked_bytes config None ask = tt
asked_bytes config (Some request) ask = ask.bytes

follows_exist : (config : Configuration) (s : Service) (requests : List (Option Request)) → Stands config s → All (λ request. IfSome request (CanAsk config)) requests
    → (after : Service) × (outcomes : List Outcome) × Follows s requests after outcomes
follows_exist config s [] stands all = (s, [], (refl, refl))
follows_exist config s (request ∷ requests) stands all =
    let ask : IfSome request (CanAsk config) = All-head (λ r. IfSome r (CanAsk config)) request requests all in
    let one = step_exists s request stands.tenants stands.sound stands.maps (subst (λ (c : Configuration). IfSome request (CanAsk c)) (sym stands.config_is) ask) in
    let next : Stands config one.0 = record {
      config_is = steps_config s request one.0 one.1 one.2 ∙ stands.config_is;
      tenants = steps_tenants s request one.0 one.1 stands.tenants one.2;
      sound = step_sound s request one.0 one.1 stands.sound one.2;
      maps = step_maps s request one.0 one.1 stands.maps (asked_bytes config request ask) one.2;
    } in
    let rest = follows_exist config one.0 requests next (All-tail (λ r. IfSome r (CanAsk config)) request requests all) in
    (rest.0, one.1 ∷ rest.1, (one.0, one.1, rest.1, one.2, rest.2, refl {a = one.1 ∷ rest.1}))

pub serves_exist : (config : Configuration) (requests : List (Option Request)) → All (λ request. IfSome request (CanAsk config)) requests
    → (after : Service) × (outcomes : List Outcome) × Follows (genesis_of config) requests after outcomes
serves_exist config requests all =
    follows_exist config (genesis_of config) requests (record { config_is = refl; tenants = empty_tenants (tenants_of config.clients); sound = genesis_sound config; maps = genesis_maps config }) all
