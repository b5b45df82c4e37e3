-- How long a bounded state's bytes are at most.
use Rattle.std.proofs.Common.{◌≡◌, ℕ, ◌+◌, ◌*◌, ◌≤◌, List, [], ◌∷◌, ◌++◌, length, refl, sym, ap, ◌∙◌, arith}
use Rattle.std.specs.Prelude.{flat_map, All}
use Rattle.std.specs.FinMap as finite
use Rattle.std.proofs.lemmas.List.{length-append, length-map}
use Rattle.std.proofs.lemmas.List.Elements.{All-head, All-tail}
use Rattle.host_types.specs.declared.request.Reply.{Reply}
use Rattle.host_types.specs.Configuration.{tenants_of}
use Rattle.bpf_model.specs.Profiles.{number_of}
use Rattle.service_model.specs.declared.version.Version.TheVariants.{Second}
use Rattle.service_model.specs.Words.{u32_bytes, u64_bytes}
use Rattle.service_model.specs.TenantStates.{Procedure, TenantState, Service}
use Rattle.service_model.specs.Encoding.{encoded, encoded_reply, encoded_replies, encoded_tenant, encoded_procedure, encoded_procedures, encoded_entries, length_prefixed, last_replies_of}
use Rattle.service_model.specs.Bounded.{IsBoundedTenant, IsBounded}
use Rattle.service_model.proofs.Injective.{entry_lengths, replies_are_short, few_replies_found}
use Rattle.service_model.proofs.Bounds.{four_short, eight_short}

prefixed_length : (bytes : List ℕ) → length (length_prefixed bytes) ≡ 4 + length bytes
prefixed_length bytes = length-append (u32_bytes (length bytes)) bytes ∙ ap (λ (k : ℕ). k + length bytes) (four_short (length bytes))

procedures_length : (procedures : List Procedure) → All (λ procedure. length procedure.code ≤ 8192) procedures → length (flat_map (encoded_procedure Second) procedures) ≤ 8197 * length procedures
procedures_length [] all = omega arith
procedures_length (procedure ∷ procedures) all =
    omega (
      arith,
      length-append (encoded_procedure Second procedure) (flat_map (encoded_procedure Second) procedures),
      length-append (number_of procedure.profile ∷ []) (length_prefixed procedure.code),
      prefixed_length procedure.code,
      All-head (λ (p : Procedure). length p.code ≤ 8192) procedure procedures all,
      procedures_length procedures (All-tail (λ (p : Procedure). length p.code ≤ 8192) procedure procedures all),
    )

entries_length : (es : List (List ℕ × List ℕ)) → All (λ e. (length e.0 ≡ 16) × (length e.1 ≡ 32)) es → length (flat_map (λ (e : List ℕ × List ℕ). e.0 ++ e.1) es) ≡ 48 * length es
entries_length [] all = refl
entries_length (e ∷ es) all =
    let head = All-head (λ (x : List ℕ × List ℕ). (length x.0 ≡ 16) × (length x.1 ≡ 32)) e es all in
    let rest = entries_length es (All-tail (λ (x : List ℕ × List ℕ). (length x.0 ≡ 16) × (length x.1 ≡ 32)) e es all) in
    omega (arith, length-append (e.0 ++ e.1) (flat_map (λ (x : List ℕ × List ℕ). x.0 ++ x.1) es), length-append e.0 e.1, head.0, head.1, rest)

tenant_length : (n : ℕ) (x : TenantState) → IsBoundedTenant n x → length (encoded_tenant Second x) ≤ 721_228
tenant_length n x b =
    let entries = entry_lengths (finite.entries x.entries) b.entries_in_range.keys b.entries_in_range.values in
    omega (
      arith,
      length-append (u32_bytes x.tenant ++ encoded_procedures Second x.procedures) (encoded_entries x.entries),
      length-append (u32_bytes x.tenant) (encoded_procedures Second x.procedures),
      four_short x.tenant,
      length-append (u32_bytes (length x.procedures)) (flat_map (encoded_procedure Second) x.procedures),
      four_short (length x.procedures),
      procedures_length x.procedures b.codes_in_range,
      b.procedures_in_range,
      length-append (u32_bytes (finite.len x.entries)) (flat_map (λ (e : List ℕ × List ℕ). e.0 ++ e.1) (finite.entries x.entries)),
      four_short (finite.len x.entries),
      entries_length (finite.entries x.entries) entries,
      finite.len-entries x.entries,
      b.entries_in_range.count,
    )

tenants_length : (n : ℕ) (xs : List TenantState) → All (IsBoundedTenant n) xs → length (flat_map (encoded_tenant Second) xs) ≤ 721_228 * length xs
tenants_length n [] all = omega arith
tenants_length n (x ∷ xs) all =
    omega (
      arith,
      length-append (encoded_tenant Second x) (flat_map (encoded_tenant Second) xs),
      tenant_length n x (All-head (IsBoundedTenant n) x xs all),
      tenants_length n xs (All-tail (IsBoundedTenant n) x xs all),
    )

reply_length : (reply : Reply) → length reply.result ≤ 265 → length (encoded_reply reply) ≤ 289
reply_length reply short =
    let client = u32_bytes reply.client.0 in
    let time = u64_bytes reply.time in
    let number = u64_bytes reply.number.0 in
    omega (
      arith,
      length-append ((client ++ time) ++ number) (length_prefixed reply.result),
      length-append (client ++ time) number,
      length-append client time,
      four_short reply.client.0,
      eight_short reply.time,
      eight_short reply.number.0,
      prefixed_length reply.result,
      short,
    )

replies_length : (replies : List Reply) → All (λ reply. length reply.result ≤ 265) replies → length (flat_map encoded_reply replies) ≤ 289 * length replies
replies_length [] all = omega arith
replies_length (reply ∷ replies) all =
    omega (
      arith,
      length-append (encoded_reply reply) (flat_map encoded_reply replies),
      reply_length reply (All-head (λ (r : Reply). length r.result ≤ 265) reply replies all),
      replies_length replies (All-tail (λ (r : Reply). length r.result ≤ 265) reply replies all),
    )

pub state_length : (s : Service) → IsBounded s → length (encoded s) ≤ 5_788_337
state_length s b =
    let replies = last_replies_of s in
    let number = u64_bytes s.number in
    let count = u32_bytes (length s.tenants) in
    let tenants = flat_map (encoded_tenant Second) s.tenants in
    omega (
      arith,
      length-append (((2 ∷ [] ++ number) ++ encoded_replies replies) ++ count) tenants,
      length-append ((2 ∷ [] ++ number) ++ encoded_replies replies) count,
      length-append (2 ∷ [] ++ number) (encoded_replies replies),
      length-append (2 ∷ []) number,
      eight_short s.number,
      four_short (length s.tenants),
      length-append (u32_bytes (length replies)) (flat_map encoded_reply replies),
      four_short (length replies),
      replies_length replies (replies_are_short s b),
      few_replies_found s b,
      tenants_length s.number s.tenants b.tenants_in_range,
      sym (length-map s.tenants (λ x. x.tenant)) ∙ ap length b.same_tenants ∙ length-map (tenants_of s.config.clients) (λ u. u.0),
      b.is_configuration.tenants,
    )
