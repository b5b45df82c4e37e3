-- Steps keep what holds of every state.
use Rattle.std.proofs.Common.{◌≡◌, ◌⊎◌, ℕ, ◌+◌, Bool, true, false, cond, eqb, List, [], ◌∷◌, ◌++◌, length, map, find, Option, Some, None, refl, sym, ap, subst, ◌∙◌, inl, inr}
use Rattle.std.specs.Prelude.{MatchBool, MatchOption, All, IsSome, IsSomeAnd, nat_le, nat_lt, nat_eq, option_and_then}
use Rattle.std.specs.Ordering.{nat_cmp, eq_by_cmp}
use Rattle.std.specs.Cmp.{nat_cmp_total, unsigned_tied}
use Rattle.std.specs.FinMap as finite
use Rattle.std.proofs.lemmas.Bool.{eqb-true}
use Rattle.std.proofs.lemmas.List.Elements.{All-cons, All-head, All-tail, All-nil, All-push}
use Rattle.host_types.specs.declared.TenantId.{TenantId}
use Rattle.host_types.specs.declared.config.ClientEntry.{ClientEntry}
use Rattle.host_types.specs.declared.request.Request.{Request}
use Rattle.host_types.specs.declared.request.Reply.{Reply}
use Rattle.host_types.specs.Configuration.{Configuration, tenants_of, entry_of}
use Rattle.bpf_model.specs.Verdict.{AcceptsUnder}
use Rattle.bpf_model.proofs.Options.{some_is}
use Rattle.bpf_model.proofs.Safety.{safe}
use Rattle.tenant_maps.specs.Entries.{Entries}
use Rattle.service_model.specs.declared.outcome.Outcome.{Outcome}
use Rattle.service_model.specs.Operations.{Operation, Install, Call, Bad, operation_of, Installs, Does, installed, refused, too_many_procedures}
use Rattle.service_model.specs.TenantStates.{Procedure, Replies, TenantState, Service, empty_tenant, genesis_of, tenant_at, with_tenant}
use Rattle.service_model.specs.Steps.{reply_to, Executes, IsTenantStep, IsStep, Follows}
use Rattle.service_model.specs.Sound.{IsAcceptedProcedure, IsSoundTenant, IsSound, CannotGoWrong, NoneGoesWrong}

pub one_of_bool : (b : Bool) (P Q C : Type 0) → (P → C) → (Q → C) → MatchBool b P Q → C
one_of_bool true P Q C one two h = one h
one_of_bool false P Q C one two h = two h

pub one_of_option : {X : Type 0} (o : Option X) (P C : Type 0) (Q : X → Type 0) → (P → C) → ((x : X) → Q x → C) → MatchOption o P Q → C
one_of_option None P C Q one two h = one h
one_of_option (Some x) P C Q one two h = two x h

-- what is found is one of them, and passes
pub found_one : {X : Type 0} (P : X → Type 0) (p : X → Bool) (xs : List X) (x : X) → All P xs → find p xs ≡ Some x → P x × (p x ≡ true)
found_one P p [] x all e = absurd (cc)
found_one {X} P p (y ∷ ys) x all e = cases (p y) refl (found_one P p ys x (All-tail P y ys all)) e where
  cases : (b : Bool) → p y ≡ b → (find p ys ≡ Some x → P x × (p x ≡ true)) → cond b (Some y) (find p ys) ≡ Some x → P x × (p x ≡ true)
  cases true passes rest e = let same : y ≡ x = some_is y x e in (subst P same (All-head P y ys all), ap p (sym same) ∙ passes)
  cases false passes rest e = rest e

pub all_with_tenant : (P : TenantState → Type 0) (changed : TenantState) (parts : List TenantState) → P changed → All P parts → All P (with_tenant changed parts)
all_with_tenant P changed [] new all = all
all_with_tenant P changed (part ∷ parts) new all = cases (eqb part.tenant changed.tenant) (all_with_tenant P changed parts new (All-tail P part parts all)) where
  cases : (b : Bool) → All P (with_tenant changed parts) → All P (cond b (changed ∷ parts) (part ∷ with_tenant changed parts))
  cases true rest = All-cons P changed parts new (All-tail P part parts all)
  cases false rest = All-cons P part (with_tenant changed parts) (All-head P part parts all) rest

-- the procedures after an installation
installs_accepted : (procedures : List Procedure) (new : Procedure) (after : List Procedure) (result : List ℕ) → All IsAcceptedProcedure procedures → Installs procedures new after result → All IsAcceptedProcedure after
installs_accepted procedures new after result all h =
    one_of_bool (nat_le 64 (length procedures)) _ _ _
    (λ (x : (after ≡ procedures) × (result ≡ too_many_procedures)). subst (All IsAcceptedProcedure) (sym x.0) all)
    cases h where
      cases : ((bound : ℕ) × AcceptsUnder new.profile new.code bound × (after ≡ procedures ++ new ∷ []) × (result ≡ installed (length procedures))) ⊎ (((bound : ℕ) → AcceptsUnder new.profile new.code bound → ⊥) × (after ≡ procedures) × (result ≡ refused)) → All IsAcceptedProcedure after
      cases (inl x) = subst (All IsAcceptedProcedure) (sym x.2) (All-push IsAcceptedProcedure procedures new all (x.0, x.1))
      cases (inr x) = subst (All IsAcceptedProcedure) (sym x.1) all

does_accepted : (client : ℕ) (op : Operation) (procedures : List Procedure) (entries : Entries) (procedures' : List Procedure) (entries' : Entries) (result : List ℕ) → All IsAcceptedProcedure procedures
    → Does client op procedures entries procedures' entries' result → All IsAcceptedProcedure procedures'
does_accepted client (Install profile code) procedures entries procedures' entries' result all h = installs_accepted procedures (record { profile = profile; code = code }) procedures' result all h.0
does_accepted client (Call id arguments) procedures entries procedures' entries' result all h = subst (All IsAcceptedProcedure) (sym h.1) all
does_accepted client Bad procedures entries procedures' entries' result all h = subst (All IsAcceptedProcedure) (sym h.0) all

executes_sound : (clients : List ClientEntry) (number : ℕ) (part : TenantState) (request : Request) (after : TenantState) (reply : Option Reply) (kept : Bool)
    → IsSomeAnd (entry_of clients request.client.0) (λ entry. entry.tenant.0 ≡ part.tenant) → IsSoundTenant clients part → Executes number part request after reply kept → IsSoundTenant clients after
executes_sound clients number part request after reply kept listed sound e = subst (IsSoundTenant clients) (sym e.part_is) (record {
  accepted = does_accepted request.client.0 (operation_of request.op) part.procedures part.entries e.procedures e.entries e.result sound.accepted e.does;
  own = own;
}) where
  new : Replies
  new = finite.insert part.last_replies request.client.0 (reply_to request number e.result)

  at : (q : ℕ) (b : Bool) → eq_by_cmp nat_cmp q request.client.0 ≡ b → IsSome (cond b (Some (reply_to request number e.result)) (finite.get part.last_replies q)) → IsSomeAnd (entry_of clients q) (λ entry. entry.tenant.0 ≡ part.tenant)
  at q true is some = subst (λ (k : ℕ). IsSomeAnd (entry_of clients k) (λ entry. entry.tenant.0 ≡ part.tenant)) (sym (eqb-true q request.client.0 (sym (unsigned_tied q request.client.0) ∙ is))) listed
  at q false is some = sound.own q some

  own : (q : ℕ) → IsSome (finite.get new q) → IsSomeAnd (entry_of clients q) (λ entry. entry.tenant.0 ≡ part.tenant)
  own q some = at q (eq_by_cmp nat_cmp q request.client.0) refl (subst IsSome (finite.get-insert nat_cmp_total part.last_replies request.client.0 (reply_to request number e.result) q) some)

tenant_step_sound : (clients : List ClientEntry) (number : ℕ) (part : TenantState) (request : Request) (after : TenantState) (reply : Option Reply) (kept : Bool)
    → IsSomeAnd (entry_of clients request.client.0) (λ entry. entry.tenant.0 ≡ part.tenant) → IsSoundTenant clients part → IsTenantStep number part request after reply kept → IsSoundTenant clients after
tenant_step_sound clients number part request after reply kept listed sound h =
    let done = executes_sound clients number part request after reply kept listed sound in
    one_of_option (finite.get part.last_replies request.client.0) _ _ _ done
    (λ last. one_of_bool (nat_lt request.time last.time) _ _ _
    (λ (x : (after ≡ part) × (reply ≡ None) × (kept ≡ false)). subst (IsSoundTenant clients) (sym x.0) sound)
    (one_of_bool (nat_eq request.time last.time) _ _ _
    (λ (x : (after ≡ part) × (reply ≡ Some last) × (kept ≡ true)). subst (IsSoundTenant clients) (sym x.0) sound)
    done)) h

-- the part of a listed client is its tenant's
tenant_for_sound : (clients : List ClientEntry) (parts : List TenantState) (entry : Option ClientEntry) (part : TenantState) → All (IsSoundTenant clients) parts → option_and_then (λ e. tenant_at parts e.tenant.0) entry ≡ Some part
    → IsSoundTenant clients part × IsSomeAnd entry (λ e. e.tenant.0 ≡ part.tenant)
tenant_for_sound clients parts None part all e = absurd (cc)
tenant_for_sound clients parts (Some entry) part all e =
    let found = found_one (IsSoundTenant clients) (λ (p : TenantState). eqb p.tenant entry.tenant.0) parts part all e in
    (found.0, sym (eqb-true _ _ found.1))

pub step_sound : (state : Service) (request : Option Request) (after : Service) (outcome : Outcome) → IsSound state → IsStep state request after outcome → IsSound after
step_sound state None after outcome sound h = subst IsSound (sym h.0) sound
step_sound state (Some request) after outcome sound h =
    let mine = tenant_for_sound state.config.clients state.tenants (entry_of state.config.clients request.client.0) h.part sound h.is_part in
    let changed = tenant_step_sound state.config.clients (state.number + 1) h.part request h.changed outcome.reply outcome.kept mine.1 mine.0 h.step in
    subst IsSound (sym h.state_is) (all_with_tenant (IsSoundTenant state.config.clients) h.changed state.tenants changed sound)

empty_sound : (clients : List ClientEntry) (tenants : List TenantId) → All (IsSoundTenant clients) (map (λ tenant. empty_tenant tenant.0) tenants)
empty_sound clients [] = All-nil (IsSoundTenant clients)
empty_sound clients (tenant ∷ tenants) =
    All-cons (IsSoundTenant clients) (empty_tenant tenant.0) (map (λ t. empty_tenant t.0) tenants)
    (record { accepted = All-nil IsAcceptedProcedure; own = λ q some. absurd (nothing q some) }) (empty_sound clients tenants) where
      nothing : (q : ℕ) → IsSome (finite.get (finite.empty {X = Reply} {R = nat_cmp}) q) → ⊥
      nothing q some = none (finite.get (finite.empty {X = Reply} {R = nat_cmp}) q) (finite.get-empty nat_cmp q) some where
        none : (o : Option Reply) → o ≡ None → IsSome o → ⊥
        none None e some = cc
        none (Some r) e some = cc

pub genesis_sound : (config : Configuration) → IsSound (genesis_of config)
genesis_sound config = empty_sound config.clients (tenants_of config.clients)

-- ---- procedures cannot go wrong

follows_sound : (state : Service) (requests : List (Option Request)) (after : Service) (outcomes : List Outcome) → IsSound state → Follows state requests after outcomes → IsSound after
follows_sound state [] after outcomes sound h = subst IsSound (sym h.0) sound
follows_sound state (request ∷ requests) after outcomes sound (mid, outcome, others, step, rest, e) =
    follows_sound mid requests after others (step_sound state request mid outcome sound step) rest

pub accepted_safe : (procedure : Procedure) → IsAcceptedProcedure procedure → CannotGoWrong procedure
accepted_safe procedure (bound, (insns, is, accepted)) =
    record { insns = insns; bound = bound; is_code = is; accepted = accepted; safe = safe procedure.profile procedure.code insns bound is accepted }

pub none_goes_wrong : (config : Configuration) (requests : List (Option Request)) (after : Service) (outcomes : List Outcome) → Follows (genesis_of config) requests after outcomes → NoneGoesWrong after
none_goes_wrong config requests after outcomes h =
    let sound = follows_sound (genesis_of config) requests after outcomes (genesis_sound config) h in
    λ k part within. let mine = sound k part within in λ j procedure there. accepted_safe _ (mine.accepted j procedure there)
