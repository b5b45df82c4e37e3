-- Statement: what a configuration is, and which fault is reported where it is none.
use Rattle.std.specs.Prelude.{◌≡◌, ◌≢◌, ℕ, ◌+◌, ◌*◌, ◌<◌, ◌≤◌, Bool, false, not, ◌&&◌, ◌||◌, ◌==◌, if◌then◌else◌, nat_lt, nat_le, List, [], ◌∷◌, length, fold, find, All, AllPairs, Option, Some, None}
use Rattle.std.specs.List.{list_any}
use Rattle.host_types.specs.declared.ClientId.{ClientId}
use Rattle.host_types.specs.declared.TenantId.{TenantId}
use Rattle.host_types.specs.declared.key.PublicKey.{PublicKey}
use Rattle.host_types.specs.declared.config.ClientEntry.{ClientEntry}
use Rattle.host_types.specs.declared.config.ConfigFault.{ConfigFault}
use Rattle.host_types.specs.declared.config.ConfigFault.TheVariants.{BadF, WrongReplicaCount, BadInterval, DuplicateClient, TooMany}

pub record Configuration : Type 0 where
  pub f : ℕ
  pub k : ℕ
  pub keys : List PublicKey
  pub clients : List ClientEntry

-- how many replicas tolerate f faulty ones
abbrev pub replicas_for : ℕ → ℕ
replicas_for f = 3 * f + 1

-- x inserted among ascending ones, once
abbrev pub insert_sorted : {X : Type 0} → (X → ℕ) → X → List X → List X
insert_sorted number x [] = x ∷ []
insert_sorted number x (y ∷ ys) =
    if nat_lt (number x) (number y) then x ∷ y ∷ ys else (if number x == number y then y ∷ ys else y ∷ insert_sorted number x ys)

-- the different tenants of the clients, ascending
abbrev pub tenants_of : List ClientEntry → List TenantId
tenants_of clients = fold (λ tenants client. insert_sorted (λ tenant. tenant.0) client.tenant tenants) [] clients

-- the clients' ids, ascending
abbrev pub client_ids_of : List ClientEntry → List ClientId
client_ids_of clients = fold (λ ids client. insert_sorted (λ id. id.0) client.id ids) [] clients

-- each tenant's number is below all later ones
abbrev pub IsAscending : List TenantId → Type 0
IsAscending tenants = AllPairs (λ one later. one.0 < later.0) tenants

-- over 64 clients or 8 tenants, or an id below 16
abbrev pub too_many : List ClientEntry → Bool
too_many clients =
    nat_lt 64 (length clients) || (nat_lt 8 (length (tenants_of clients)) || list_any (λ client. nat_lt client.id.0 16) clients)

-- some client is listed again
abbrev pub some_client_twice : List ClientEntry → Bool
some_client_twice [] = false
some_client_twice (client ∷ others) = list_any (λ other. other.id.0 == client.id.0) others || some_client_twice others

-- the first fault of what a configuration would have, if it has one
abbrev pub fault_of : Configuration → Option ConfigFault
fault_of c =
    if not (nat_le 1 c.f && nat_le c.f 3) then Some BadF
    else (if not (length c.keys == replicas_for c.f) then Some WrongReplicaCount
    else (if not (nat_le 1 c.k && nat_le c.k 8) then Some BadInterval
    else (if too_many c.clients then Some TooMany
    else (if some_client_twice c.clients then Some DuplicateClient
    else None))))

-- what holds of every configuration
pub record IsConfiguration (c : Configuration) : Type 0 where
  pub min_faulty : 1 ≤ c.f
  pub max_faulty : c.f ≤ 3
  pub min_interval : 1 ≤ c.k
  pub max_interval : c.k ≤ 8
  pub a_key_each : length c.keys ≡ replicas_for c.f
  pub clients : length c.clients ≤ 64
  pub tenants : length (tenants_of c.clients) ≤ 8
  pub client_ids : All (λ client. 16 ≤ client.id.0) c.clients
  pub different_clients : AllPairs (λ one other. one.id.0 ≢ other.id.0) c.clients

-- the entry of the client with this id
abbrev pub entry_of : List ClientEntry → ℕ → Option ClientEntry
entry_of clients id = find (λ client. client.id.0 == id) clients

-- the faults' numbers
abbrev pub number_of : ConfigFault → ℕ
number_of BadF = 1
number_of WrongReplicaCount = 2
number_of BadInterval = 3
number_of DuplicateClient = 4
number_of TooMany = 6
