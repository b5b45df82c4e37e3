-- Internal: what reading a value from the front of bytes gives.
use Rattle.std.specs.Prelude.{◌≡◌, ℕ, ◌≤◌, ◌==◌, Bool, true, false, if◌then◌else◌, List, [], ◌∷◌, ◌++◌, length, map, All, Option, Some, None, Result, Ok, Err}
use Rattle.std.specs.List.{filter_map}
use Rattle.std.specs.FinMap as finite
use Rattle.std.specs.Ordering.{nat_cmp}
use Rattle.std.specs.Cmp.Lexicographic.{slice_cmp}
use Rattle.std.specs.declared.cmp.Ordering.TheVariants.{Less}
use Rattle.host_types.specs.declared.ClientId.{ClientId}
use Rattle.host_types.specs.declared.TenantId.{TenantId}
use Rattle.host_types.specs.declared.config.ClientEntry.{ClientEntry}
use Rattle.host_types.specs.declared.request.Reply.{Reply}
use Rattle.host_types.specs.Configuration.{entry_of, client_ids_of}
use Rattle.tenant_maps.specs.Entries.{Entries}
use Rattle.service_core.specs.declared.state_fault.StateFault.{StateFault}
use Rattle.service_core.specs.declared.state_fault.StateFault.TheVariants.{BadState, Memory}
use Rattle.service_model.specs.declared.version.Version.{Version}
use Rattle.service_model.specs.Words.{u32_bytes, u64_bytes}
use Rattle.service_model.specs.Versions.{version_number, IsTold}
use Rattle.service_model.specs.TenantStates.{Procedure, TenantState, replies_of}
use Rattle.service_model.specs.Encoding.{encoded_procedures, encoded_entries}
use Rattle.service_model.specs.Sound.{IsAcceptedProcedure}
use Rattle.service_model.specs.Bounded.{IsSizedMap, IsBoundedReply}

-- The bytes begin with the encoding of a value that fits.
abbrev pub Begins : {A : Type 0} → (A → List ℕ) → (A → Type 0) → List ℕ → Type 0
Begins {A} encoding WellFormed bytes = (x : A) × (rest : List ℕ) × WellFormed x × (bytes ≡ encoding x ++ rest)

abbrev pub Fails : {A : Type 0} → (A → List ℕ) → (A → Type 0) → List ℕ → StateFault → Type 0
Fails encoding WellFormed bytes BadState = Begins encoding WellFormed bytes → ⊥
Fails encoding WellFormed bytes Memory = Unit {0}

-- What was returned is, by view, a value that fits, whose encoding the bytes begin with, and the bytes behind it; or the
-- bytes begin with no such encoding; or memory ran out.
abbrev pub Reads : {R A : Type 0} → (R → A × List ℕ) → (A → List ℕ) → (A → Type 0) → List ℕ → Result R StateFault → Type 0
Reads view encoding WellFormed bytes (Ok r) = WellFormed (view r).0 × (bytes ≡ encoding (view r).0 ++ (view r).1)
Reads view encoding WellFormed bytes (Err fault) = Fails encoding WellFormed bytes fault

-- The version and the number of a state, which its bytes begin with.
abbrev pub encoded_head : Version × ℕ → List ℕ
encoded_head head = version_number head.0 ∷ [] ++ u64_bytes head.1

-- Whether replies are to some of these clients, in their order, one each at most.
abbrev pub in_turn : List ClientId → List Reply → Bool
in_turn [] [] = true
in_turn [] (reply ∷ replies) = false
in_turn (id ∷ ids) [] = true
in_turn (id ∷ ids) (reply ∷ replies) =
    if reply.client.0 == id.0 then in_turn ids replies else in_turn ids (reply ∷ replies)

-- At most 64 replies, each within its bounds.
abbrev pub AreBoundedReplies : ℕ → List Reply → Type 0
AreBoundedReplies taken replies = (length replies ≤ 64) × All (λ reply. IsBoundedReply taken reply.client.0 reply) replies

-- The last replies of a state: to clients by id.
abbrev pub AreLastReplies : List ClientEntry → ℕ → List Reply → Type 0
AreLastReplies clients taken replies = AreBoundedReplies taken replies × (in_turn (client_ids_of clients) replies ≡ true)

-- Whether an entry is one of this tenant.
abbrev pub is_of : ℕ → Option ClientEntry → Bool
is_of tenant None = false
is_of tenant (Some entry) = entry.tenant.0 == tenant

-- The reply, where it is to a client of this tenant.
abbrev pub reply_to_tenant : List ClientEntry → ℕ → Reply → Option Reply
reply_to_tenant clients tenant reply = if is_of tenant (entry_of clients reply.client.0) then Some reply else None

-- The replies to the clients of a tenant.
abbrev pub replies_to_tenant : List ClientEntry → ℕ → List Reply → List Reply
replies_to_tenant clients tenant replies = filter_map (reply_to_tenant clients tenant) replies

-- A procedure that the verifier accepts under its profile, which the version tells.
abbrev pub IsProcedureIn : Version → Procedure → Type 0
IsProcedureIn version procedure =
    (length procedure.code ≤ 8192) × IsAcceptedProcedure procedure × IsTold version procedure.profile

-- At most 64 such procedures.
abbrev pub AreProcedures : Version → List Procedure → Type 0
AreProcedures version procedures = (length procedures ≤ 64) × All (IsProcedureIn version) procedures

-- A map of so many entries, from keys of 16 bytes to values of 32.
pub record AreSizedEntries (count : ℕ) (entries : Entries) : Type 0 where
  pub keys : All (λ key. length key ≡ 16) (finite.keys entries)
  pub values : All (λ value. length value ≡ 32) (finite.values entries)
  pub count_is : length (finite.entries entries) ≡ count

-- The key is above all keys of the map, in the order of their bytes.
abbrev pub IsAbove : Entries → List ℕ → Type 0
IsAbove entries key = All (λ other. slice_cmp nat_cmp other key ≡ Less) (finite.keys entries)

-- What the bytes of a tenant say of it besides its id: its procedures and its entries.
abbrev pub Contents : Type 0
Contents = List Procedure × Entries

abbrev pub encoded_contents : Version → ℕ → Contents → List ℕ
encoded_contents version tenant contents = u32_bytes tenant ++ encoded_procedures version contents.0 ++ encoded_entries contents.1

abbrev pub AreContents : Version → Contents → Type 0
AreContents version contents = AreProcedures version contents.0 × IsSizedMap contents.1

-- The parts of these tenants, with what their bytes say.
abbrev pub ArePartsOf : Version → List TenantId → List TenantState → Type 0
ArePartsOf version tenants parts =
    (map (λ part. part.tenant) parts ≡ map (λ tenant. tenant.0) tenants)
    × All (λ part. AreContents version (part.procedures, part.entries)) parts

-- Each has the replies to its clients among these.
abbrev pub HaveReplies : List ClientEntry → List Reply → List TenantState → Type 0
HaveReplies clients replies parts =
    All (λ part. part.last_replies ≡ replies_of (replies_to_tenant clients part.tenant replies)) parts
