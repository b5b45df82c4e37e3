-- A state's bytes, piece by piece.
use Rattle.std.proofs.Common.{◌≡◌, ℕ, List, [], ◌∷◌, ◌++◌, length, ap, ◌∙◌, append_assoc}
use Rattle.std.specs.Prelude.{flat_map}
use Rattle.std.specs.List.{filter_map}
use Rattle.host_types.specs.declared.ClientId.{ClientId}
use Rattle.host_types.specs.Configuration.{client_ids_of}
use Rattle.service_model.specs.declared.version.Version.TheVariants.{Second}
use Rattle.service_model.specs.Words.{u32_bytes, u64_bytes}
use Rattle.service_model.specs.TenantStates.{TenantState, Service, last_reply_of}
use Rattle.service_model.specs.Encoding.{encoded, encoded_reply, encoded_tenant, last_replies_of}

regrouped : (a b c d e : List ℕ) → ((a ++ b) ++ c) ++ (d ++ e) ≡ ((a ++ (b ++ c)) ++ d) ++ e
regrouped a b c d e = simp append_assoc

-- the replies of these clients
abbrev pub replies_to : Service → List ClientId → List ℕ
replies_to state ids = flat_map encoded_reply (filter_map (λ id. last_reply_of state id.0) ids)

pub pieces : (state : Service) (number count : ℕ) (ids : List ClientId) (parts : List TenantState) → number ≡ state.number → ids ≡ client_ids_of state.config.clients
    → count ≡ length (filter_map (λ id. last_reply_of state id.0) ids) → parts ≡ state.tenants
    → (((2 ∷ [] ++ u64_bytes number) ++ u32_bytes count) ++ replies_to state ids) ++ (u32_bytes (length parts) ++ flat_map (encoded_tenant Second) parts) ≡ encoded state
pieces state number count ids parts n is c p =
    ap (λ (k : ℕ). (((2 ∷ [] ++ u64_bytes k) ++ u32_bytes count) ++ replies_to state ids) ++ (u32_bytes (length parts) ++ flat_map (encoded_tenant Second) parts)) n
    ∙ ap (λ (k : ℕ). (((2 ∷ [] ++ u64_bytes state.number) ++ u32_bytes k) ++ replies_to state ids) ++ (u32_bytes (length parts) ++ flat_map (encoded_tenant Second) parts)) (c ∙ ap (λ (xs : List ClientId). length (filter_map (λ id. last_reply_of state id.0) xs)) is)
    ∙ ap (λ (xs : List ClientId). (((2 ∷ [] ++ u64_bytes state.number) ++ u32_bytes (length (last_replies_of state))) ++ replies_to state xs) ++ (u32_bytes (length parts) ++ flat_map (encoded_tenant Second) parts)) is
    ∙ ap (λ (ps : List TenantState). (((2 ∷ [] ++ u64_bytes state.number) ++ u32_bytes (length (last_replies_of state))) ++ flat_map encoded_reply (last_replies_of state)) ++ (u32_bytes (length ps) ++ flat_map (encoded_tenant Second) ps)) p
    ∙ regrouped (2 ∷ [] ++ u64_bytes state.number) (u32_bytes (length (last_replies_of state))) (flat_map encoded_reply (last_replies_of state)) (u32_bytes (length state.tenants)) (flat_map (encoded_tenant Second) state.tenants)
