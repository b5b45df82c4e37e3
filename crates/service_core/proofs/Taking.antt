-- Requests that are taken.
use Rattle.std.proofs.Common.{◌≡◌, ℕ, ◌+◌, true, eqb, List, get_or, set, Option, Some, None, sym, ap, ◌∙◌}
use Rattle.std.specs.FinMap as finite
use Rattle.std.proofs.lemmas.Bool.{eqb-true}
use Rattle.std.proofs.lemmas.List.Quantifiers.{position-Some}
use Rattle.host_types.specs.declared.config.ClientEntry.{ClientEntry}
use Rattle.host_types.specs.declared.request.Request.{Request}
use Rattle.host_types.specs.Configuration.{Configuration, entry_of}
use Rattle.service_model.specs.declared.outcome.Outcome.{Outcome}
use Rattle.service_model.specs.TenantStates.{TenantState, Service, with_tenant}
use Rattle.service_model.specs.Steps.{IsTenantStep, TakesRequest}
use Rattle.service_model.proofs.Found.{with_tenant_at}
use Rattle.service_model.proofs.TenantIndexes.{index_for, tenant_for_index}

-- a part that is changed in its index
changes : (parts : List TenantState) (entry : Option ClientEntry) (index : ℕ) (part changed : TenantState) → index_for parts entry ≡ Some index → part ≡ get_or parts index part → changed.tenant ≡ part.tenant
    → set parts index changed ≡ with_tenant changed parts
changes parts None index part changed e is same = absurd (cc)
changes parts (Some entry) index part changed e is same =
    let found = position-Some (λ (p : TenantState). eqb p.tenant entry.tenant.0) parts index part e in
    sym (with_tenant_at parts entry.tenant.0 index changed e (same ∙ ap (λ (p : TenantState). p.tenant) is ∙ eqb-true _ _ found.1))

pub taken : (config : Configuration) (number : ℕ) (parts : List TenantState) (request : Request) (index : ℕ) (part changed : TenantState) (outcome : Outcome)
    → index_for parts (entry_of config.clients request.client.0) ≡ Some index → part ≡ get_or parts index part
    → IsTenantStep (number + 1) part request changed outcome.reply outcome.kept → changed.tenant ≡ part.tenant → outcome.number.0 ≡ number + 1
    → TakesRequest (record { config = config; number = number; tenants = parts }) request (record { config = config; number = number + 1; tenants = set parts index changed }) outcome
taken config number parts request index part changed outcome e is step same next_number = record {
  part = part;
  is_part = tenant_for_index parts (entry_of config.clients request.client.0) index part e ∙ ap Some (sym is);
  changed = changed;
  step = step;
  state_is = ap (λ (ps : List TenantState). let s : Service = record { config = config; number = number + 1; tenants = ps } in s) (changes parts (entry_of config.clients request.client.0) index part changed e is same);
  number_is = next_number;
}
