-- A request changes its own tenant's part alone, and what comes of it follows from that part and the number.
use Rattle.std.proofs.Common.{◌≡◌, ℕ, ◌+◌, Bool, true, false, cond, eqb, List, [], ◌∷◌, Option, Some, None, refl, sym, ap, subst, ◌∙◌}
use Rattle.std.specs.Prelude.{option_and_then}
use Rattle.std.proofs.lemmas.Bool.{eqb-true, ne_eqb}
use Rattle.bpf_model.proofs.Options.{some_is}
use Rattle.host_types.specs.declared.config.ClientEntry.{ClientEntry}
use Rattle.host_types.specs.declared.request.Request.{Request}
use Rattle.host_types.specs.Configuration.{entry_of}
use Rattle.service_model.specs.declared.outcome.Outcome.{Outcome}
use Rattle.service_model.specs.TenantStates.{TenantState, Service, tenant_at, tenant_of, with_tenant}
use Rattle.service_model.specs.Steps.{IsTenantStep, IsStep, TakesRequest}
use Rattle.service_model.proofs.Determined.{same_tenant_step}
use Rattle.service_model.proofs.Soundness.{found_one}
use Rattle.service_model.proofs.Bounds.{step_tenant, found_changed}

-- a part that is found for a tenant is that tenant's
found_own : (xs : List TenantState) (tenant : ℕ) (part : TenantState) → tenant_at xs tenant ≡ Some part → part.tenant ≡ tenant
found_own xs tenant part e =
    eqb-true part.tenant tenant (found_one (λ (_ : TenantState). Unit {0}) (λ (p : TenantState). eqb p.tenant tenant) xs part (λ k d h. tt) e).1

-- the client's tenant has the changed part
changed_found : (xs : List TenantState) (entry : Option ClientEntry) (part changed : TenantState) → option_and_then (λ e. tenant_at xs e.tenant.0) entry ≡ Some part → changed.tenant ≡ part.tenant
    → option_and_then (λ e. tenant_at (with_tenant changed xs) e.tenant.0) entry ≡ Some changed
changed_found xs None part changed e same = absurd (cc)
changed_found xs (Some entry) part changed e same =
    let id : changed.tenant ≡ entry.tenant.0 = same ∙ found_own xs entry.tenant.0 part e in
    ap (tenant_at (with_tenant changed xs)) (sym id) ∙ found_changed xs part changed (ap (tenant_at xs) id ∙ e)

part_after : (state : Service) (request : Request) (after : Service) (outcome : Outcome) → (h : TakesRequest state request after outcome) → tenant_of after request.client.0 ≡ Some h.changed
part_after state request after outcome h =
    ap (λ (s : Service). tenant_of s request.client.0) h.state_is
    ∙ changed_found state.tenants (entry_of state.config.clients request.client.0) h.part h.changed h.is_part (step_tenant (state.number + 1) h.part request h.changed outcome.reply outcome.kept h.step)

pub same_of_part : (state other : Service) (request : Request) (after after' : Service) (outcome outcome' : Outcome)
    → state.number ≡ other.number → tenant_of state request.client.0 ≡ tenant_of other request.client.0
    → IsStep state (Some request) after outcome → IsStep other (Some request) after' outcome'
    → (tenant_of after request.client.0 ≡ tenant_of after' request.client.0) × (outcome ≡ outcome')
same_of_part state other request after after' outcome outcome' numbers parts a b =
    let part : a.part ≡ b.part = some_is a.part b.part (sym a.is_part ∙ parts ∙ b.is_part) in
    let next : state.number + 1 ≡ other.number + 1 = ap (λ n. n + 1) numbers in
    let moved : IsTenantStep (other.number + 1) b.part request a.changed outcome.reply outcome.kept =
    subst (λ (n : ℕ). IsTenantStep n b.part request a.changed outcome.reply outcome.kept) next
    (subst (λ (p : TenantState). IsTenantStep (state.number + 1) p request a.changed outcome.reply outcome.kept) part a.step) in
    let same = same_tenant_step (other.number + 1) b.part request a.changed b.changed outcome.reply outcome'.reply outcome.kept outcome'.kept moved b.step in
    let number : outcome.number.0 ≡ outcome'.number.0 = a.number_is ∙ next ∙ sym b.number_is in (
      part_after state request after outcome a ∙ ap (λ (p : TenantState). Some p) same.0 ∙ sym (part_after other request after' outcome' b),
      λ i. record { number = record { 0 = number i }; reply = same.1 i; kept = same.2 i },
    )

-- a tenant whose part is not the changed one is found as before
other_stays : (changed : TenantState) (tenant : ℕ) (xs : List TenantState) → (tenant ≡ changed.tenant → ⊥) → tenant_at (with_tenant changed xs) tenant ≡ tenant_at xs tenant
other_stays changed tenant [] apart = refl
other_stays changed tenant (x ∷ xs) apart = cases (eqb x.tenant changed.tenant) refl (other_stays changed tenant xs apart) where
  cases : (b : Bool) → eqb x.tenant changed.tenant ≡ b → tenant_at (with_tenant changed xs) tenant ≡ tenant_at xs tenant
      → tenant_at (cond b (changed ∷ xs) (x ∷ with_tenant changed xs)) tenant ≡ cond (eqb x.tenant tenant) (Some x) (tenant_at xs tenant)
  cases true e rest =
      let one : eqb changed.tenant tenant ≡ false = ne_eqb changed.tenant tenant (λ h. apart (sym h)) in
      let two : eqb x.tenant tenant ≡ false = ap (λ k. eqb k tenant) (eqb-true x.tenant changed.tenant e) ∙ one in
      ap (λ (b : Bool). cond b (Some changed) (tenant_at xs tenant)) one ∙ sym (ap (λ (b : Bool). cond b (Some x) (tenant_at xs tenant)) two)
  cases false e rest = ap (cond (eqb x.tenant tenant) (Some x)) rest

pub others_stay : (state : Service) (request : Request) (after : Service) (outcome : Outcome) (part : TenantState) (tenant : ℕ)
    → IsStep state (Some request) after outcome → tenant_of state request.client.0 ≡ Some part → (tenant ≡ part.tenant → ⊥) → tenant_at after.tenants tenant ≡ tenant_at state.tenants tenant
others_stay state request after outcome part tenant h found apart =
    let same : h.part ≡ part = some_is h.part part (sym h.is_part ∙ found) in
    let id : h.changed.tenant ≡ part.tenant = step_tenant (state.number + 1) h.part request h.changed outcome.reply outcome.kept h.step ∙ ap (λ (p : TenantState). p.tenant) same in
    ap (λ (s : Service). tenant_at s.tenants tenant) h.state_is ∙ other_stays h.changed tenant state.tenants (λ e. apart (e ∙ id))
