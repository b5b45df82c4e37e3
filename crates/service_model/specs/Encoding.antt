-- Statement: the encodings of a state, one in each version. All integers are unsigned, high byte first.
use Rattle.std.specs.Prelude.{ℕ, List, [], ◌∷◌, ◌++◌, length, flat_map}
use Rattle.std.specs.List.{filter_map}
use Rattle.std.specs.FinMap as finite
use Rattle.host_types.specs.declared.request.Reply.{Reply}
use Rattle.host_types.specs.Configuration.{client_ids_of}
use Rattle.tenant_maps.specs.Entries.{Entries}
use Rattle.service_model.specs.Words.{u32_bytes, u64_bytes}
use Rattle.service_model.specs.declared.version.Version.{Version}
use Rattle.service_model.specs.declared.version.Version.TheVariants.{Second}
use Rattle.service_model.specs.Versions.{version_number, encoded_profile}
use Rattle.service_model.specs.TenantStates.{Procedure, TenantState, Service, last_reply_of}

-- bytes behind their length
abbrev pub length_prefixed : List ℕ → List ℕ
length_prefixed bytes = u32_bytes (length bytes) ++ bytes

-- a client's last reply
abbrev pub encoded_reply : Reply → List ℕ
encoded_reply reply =
    u32_bytes reply.client.0 ++ u64_bytes reply.time ++ u64_bytes reply.number.0 ++ length_prefixed reply.result

-- a procedure: its profile, where it is told, and its code
abbrev pub encoded_procedure : Version → Procedure → List ℕ
encoded_procedure version procedure =
    encoded_profile version procedure.profile ++ length_prefixed procedure.code

-- a tenant's procedures by id
abbrev pub encoded_procedures : Version → List Procedure → List ℕ
encoded_procedures version procedures =
    u32_bytes (length procedures) ++ flat_map (encoded_procedure version) procedures

-- a tenant's entries by key
abbrev pub encoded_entries : Entries → List ℕ
encoded_entries entries =
    u32_bytes (finite.len entries) ++ flat_map (λ entry. entry.0 ++ entry.1) (finite.entries entries)

abbrev pub encoded_tenant : Version → TenantState → List ℕ
encoded_tenant version part =
    u32_bytes part.tenant ++ encoded_procedures version part.procedures ++ encoded_entries part.entries

-- the replies of the clients that have one, by client
abbrev pub last_replies_of : Service → List Reply
last_replies_of state = filter_map (λ id. last_reply_of state id.0) (client_ids_of state.config.clients)

abbrev pub encoded_replies : List Reply → List ℕ
encoded_replies replies = u32_bytes (length replies) ++ flat_map encoded_reply replies

-- the version, the number, the clients' last replies, and every tenant's part, each behind their count
abbrev pub encoded_in : Version → Service → List ℕ
encoded_in version state =
    version_number version ∷ [] ++ u64_bytes state.number ++ encoded_replies (last_replies_of state)
    ++ u32_bytes (length state.tenants) ++ flat_map (encoded_tenant version) state.tenants

-- The canonical encoding is that of version 2. Digests are taken of it, and snapshots hold it.
abbrev pub encoded : Service → List ℕ
encoded state = encoded_in Second state
