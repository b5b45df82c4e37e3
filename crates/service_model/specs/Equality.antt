-- Internal: codes by which the values that contracts see are compared.
use Rattle.std.proofs.Common.{inl, inr}
use Rattle.std.specs.Prelude.{◌≡◌, ◌⊎◌, ℕ, ◌==◌, if◌then◌else◌, List, refl}
use Rattle.std.specs.Coded.{Coded, code_by, coded×, coded⊎, coded_ℕ, coded_list}
use Rattle.std.specs.FinMap as finite
use Rattle.host_types.specs.declared.request.Reply.{Reply}
use Rattle.host_types.specs.declared.config.ClientEntry.{ClientEntry}
use Rattle.host_types.specs.declared.key.PublicKey.{PublicKey}
use Rattle.host_types.specs.declared.key.PublicKey.TheVariants.{Lms, Hss}
use Rattle.host_types.specs.Configuration.{Configuration}
use Rattle.bpf_model.specs.declared.profile.Profile.{Profile}
use Rattle.bpf_model.specs.declared.profile.Profile.TheVariants.{One, Two}
use Rattle.bpf_model.specs.Profiles.{number_of}
use Rattle.tenant_maps.specs.Entries.{Entries}
use Rattle.service_model.specs.TenantStates.{Procedure, Replies, TenantState, Service}

abbrev pub reply_code : Coded Reply
reply_code =
    code_by (ℕ × (ℕ × (ℕ × List ℕ))) (coded× coded_ℕ (coded× coded_ℕ (coded× coded_ℕ (coded_list coded_ℕ))))
    (λ r. (r.client.0, (r.time, (r.number.0, r.result))))
    (λ p. record { client = record { 0 = p.0 }; time = p.1.0; number = record { 0 = p.1.1.0 }; result = p.1.1.1 }) (λ _. refl)

pub numbered : (profile : Profile) → (if number_of profile == 1 then One else Two) ≡ profile
numbered One = refl
numbered Two = refl

abbrev pub profile_code : Coded Profile
profile_code = code_by ℕ coded_ℕ number_of (λ n. if n == 1 then One else Two) numbered

abbrev pub procedure_code : Coded Procedure
procedure_code =
    code_by (Profile × List ℕ) (coded× profile_code (coded_list coded_ℕ)) (λ p. (p.profile, p.code))
    (λ p. record { profile = p.0; code = p.1 }) (λ _. refl)

abbrev pub tenant_code : Coded TenantState
tenant_code =
    code_by (ℕ × (List Procedure × (Entries × Replies)))
    (coded× coded_ℕ (coded× (coded_list procedure_code) (coded× (finite.code (coded_list coded_ℕ) (coded_list coded_ℕ)) (finite.code coded_ℕ reply_code))))
    (λ p. (p.tenant, (p.procedures, (p.entries, p.last_replies))))
    (λ p. record { tenant = p.0; procedures = p.1.0; entries = p.1.1.0; last_replies = p.1.1.1 }) (λ _. refl)

abbrev pub by_kind : PublicKey → List ℕ ⊎ List ℕ
by_kind (Lms key) = inl key
by_kind (Hss key) = inr key

abbrev pub of_kind : List ℕ ⊎ List ℕ → PublicKey
of_kind (inl key) = Lms key
of_kind (inr key) = Hss key

abbrev pub same_key : (key : PublicKey) → of_kind (by_kind key) ≡ key
same_key (Lms key) = refl
same_key (Hss key) = refl

abbrev pub key_code : Coded PublicKey
key_code = code_by (List ℕ ⊎ List ℕ) (coded⊎ (coded_list coded_ℕ) (coded_list coded_ℕ)) by_kind of_kind same_key

abbrev pub client_entry_code : Coded ClientEntry
client_entry_code =
    code_by (ℕ × (ℕ × PublicKey)) (coded× coded_ℕ (coded× coded_ℕ key_code)) (λ e. (e.id.0, (e.tenant.0, e.key)))
    (λ p. record { id = record { 0 = p.0 }; tenant = record { 0 = p.1.0 }; key = p.1.1 }) (λ _. refl)

abbrev pub configuration_code : Coded Configuration
configuration_code =
    code_by (ℕ × (ℕ × (List PublicKey × List ClientEntry)))
    (coded× coded_ℕ (coded× coded_ℕ (coded× (coded_list key_code) (coded_list client_entry_code))))
    (λ c. (c.f, (c.k, (c.keys, c.clients)))) (λ p. record { f = p.0; k = p.1.0; keys = p.1.1.0; clients = p.1.1.1 }) (λ _. refl)

abbrev pub service_code : Coded Service
service_code =
    code_by (Configuration × (ℕ × List TenantState)) (coded× configuration_code (coded× coded_ℕ (coded_list tenant_code)))
    (λ s. (s.config, (s.number, s.tenants))) (λ p. record { config = p.0; number = p.1.0; tenants = p.1.1 }) (λ _. refl)
