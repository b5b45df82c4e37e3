-- Statement: the head of a script: who takes part.
use Rattle.std.specs.Prelude.{◌≡◌, codes, ℕ, ℤ, pos, negsuc, ◌==◌, nat_lt, List, [], ◌∷◌, ◌++◌, map, replicate, Option, Some, None, is_none, option_and_then, Result, Ok, Err, if◌then◌else◌}
use Rattle.toml.specs.Data.{Data, Members, as_integer, as_table, get_member}
use Rattle.host_types.specs.Configuration.{Configuration, fault_of, replicas_for}
use Rattle.host_types.specs.declared.ReplicaId.{ReplicaId}
use Rattle.host_types.specs.declared.config.ClientEntry.{ClientEntry}
use Rattle.host_types.specs.declared.key.PublicKey.{PublicKey}
use Rattle.host_types.specs.declared.key.PublicKey.TheVariants.{Lms}
use Rattle.lms_tree.specs.declared.Height.{Height}
use Rattle.lms_tree.specs.declared.Height.TheVariants.{H5}
use Rattle.script_values.specs.declared.fault.TableFault.{TableFault}
use Rattle.script_values.specs.declared.fault.TableFault.TheVariants.{BadConfig}
use Rattle.script_text.specs.declared.head.Needed.{Needed}
use Rattle.script_text.specs.declared.head.Optional.{Optional}
use Rattle.script_values.specs.declared.said.Client.{Client}
use Rattle.script_values.specs.declared.replica_keys.KeyLists.{KeyLists}
use Rattle.script_values.specs.declared.replica_keys.KeyShape.{KeyShape}
use Rattle.script_values.specs.declared.said.Secret.{Secret}
use Rattle.script_values.specs.KeyShapes.{given_or, key_lists, keys_in, unspent}
use Rattle.script_values.specs.Forms.{any_table, bottom, pair_of, height, if_found, integer, list_of, needed_key, only_keys, optional_key, replica, secret, up_to}

-- What a contract sees of a head.
pub record HeadFacts : Type 0 where
  pub f : ℕ
  pub k : ℕ
  pub secret : Secret
  -- how the replicas' keys are made
  pub keys : KeyLists
  -- the height of the one tree of each client's key or of its top tree, and that of its bottom trees
  pub client_height : Height
  pub client_bottom : Option Height
  pub faulty : List ReplicaId
  pub clients : List Client

-- ---- the configuration of a head, whatever the keys

-- a key that no signature verifies under
abbrev pub no_key : PublicKey
no_key = Lms (replicate 56 0)

abbrev pub keyless : Client → ClientEntry
keyless c = record { id = c.id; tenant = c.tenant; key = no_key }

abbrev pub keyless_configuration : ℕ → ℕ → List Client → Configuration
keyless_configuration f k clients =
    record { f = f; k = k; keys = replicate (replicas_for f) no_key; clients = map keyless clients }

-- It is the head of a configuration.
abbrev pub IsLegal : ℕ → ℕ → List Client → Type 0
IsLegal f k clients = fault_of (keyless_configuration f k clients) ≡ None

-- how the key of each client is made: no leaf of it is used
abbrev pub client_shape : HeadFacts → KeyShape
client_shape h = unspent h.client_height h.client_bottom

-- ---- a client's table

abbrev pub client_from : Result (ℕ × ℕ) TableFault → Result Client TableFault
client_from (Ok ids) = Ok (record { id = record { 0 = ids.0 }; tenant = record { 0 = ids.1 } })
client_from (Err fault) = Err fault

abbrev pub client_in : Members → Result Client TableFault
client_in members =
    client_from (only_keys
    (pair_of (needed_key (up_to 4294967295) (codes "id") members) (needed_key (up_to 4294967295) (codes "tenant") members))
    (codes "id" ∷ codes "tenant" ∷ []) members)

abbrev pub client : Data → Result Client TableFault
client d = if_found client_in (as_table d)

-- ---- what is read

-- what is needed of a head
abbrev pub needed_from : Result (ℤ × (ℤ × Secret)) TableFault → Result Needed TableFault
needed_from (Ok r) = Ok (record { f = r.0; k = r.1.0; secret = r.1.1 })
needed_from (Err fault) = Err fault

abbrev pub needed_head : Members → Result Needed TableFault
needed_head members =
    needed_from (pair_of (needed_key integer (codes "f") members)
    (pair_of (needed_key integer (codes "k") members) (needed_key secret (codes "secret") members)))

-- the clients, where the steps are a list of tables too
abbrev pub first_of : {A B : Type 0} → Result (A × B) TableFault → Result A TableFault
first_of (Ok r) = Ok r.0
first_of (Err fault) = Err fault

abbrev pub listed_clients : Members → Result (Option (List Client)) TableFault
listed_clients members =
    first_of (pair_of (optional_key (list_of client) (codes "client") members) (optional_key (list_of any_table) (codes "step") members))

-- the number of replicas for a legal number of faulty ones
abbrev pub replica_count : ℤ → Option ℕ
replica_count (pos f) = if f == 1 then Some 4 else (if f == 2 then Some 7 else (if f == 3 then Some 10 else None))
replica_count (negsuc n) = None

abbrev pub named_count : Members → Option ℕ
named_count members = option_and_then replica_count (option_and_then as_integer (get_member (codes "f") members))

-- the heights of a client's key: one tree of height 5 where nothing is given
abbrev pub client_heights_from : Result (Option Height × Option (Option Height)) TableFault → Result (Height × Option Height) TableFault
client_heights_from (Ok r) = Ok (given_or r.0 H5, given_or r.1 None)
client_heights_from (Err fault) = Err fault

abbrev pub client_heights_in : Members → Result (Height × Option Height) TableFault
client_heights_in members =
    client_heights_from (pair_of (optional_key height (codes "client_height") members) (optional_key bottom (codes "client_bottom") members))

abbrev pub count_of_faulty : Members → ℕ
count_of_faulty members = given_or (named_count members) 255

abbrev pub optional_faulty : Members → Result (Option (List ReplicaId)) TableFault
optional_faulty members = optional_key (list_of (replica (count_of_faulty members))) (codes "faulty") members

-- what may be left out
abbrev pub optional_from : Result (KeyLists × ((Height × Option Height) × Option (List ReplicaId))) TableFault → Result Optional TableFault
optional_from (Ok r) = Ok (record { keys = r.0; client_height = r.1.0.0; client_bottom = r.1.0.1; faulty = r.1.1 })
optional_from (Err fault) = Err fault

abbrev pub optional_head : Members → Result Optional TableFault
optional_head members = optional_from (pair_of (keys_in (named_count members) members) (pair_of (client_heights_in members) (optional_faulty members)))

abbrev pub head_of : ℕ → ℕ → Secret → Optional → Option (List Client) → HeadFacts
head_of f k secret o clients = record {
  f = f;
  k = k;
  secret = secret;
  keys = o.keys;
  client_height = o.client_height;
  client_bottom = o.client_bottom;
  faulty = given_or o.faulty [];
  clients = given_or clients [];
}

abbrev pub if_legal : HeadFacts → Result HeadFacts TableFault
if_legal h = if is_none (fault_of (keyless_configuration h.f h.k h.clients)) then Ok h else Err BadConfig

-- a number that is no byte is none of a configuration
abbrev pub byte_of : ℤ → Option ℕ
byte_of (pos n) = if nat_lt n 256 then Some n else None
byte_of (negsuc n) = None

abbrev pub head_from : Option ℕ → Option ℕ → Secret → Optional → Option (List Client) → Result HeadFacts TableFault
head_from (Some f) (Some k) secret o clients = if_legal (head_of f k secret o clients)
head_from (Some f) None secret o clients = Err BadConfig
head_from None k secret o clients = Err BadConfig

abbrev pub head_read : Result (Needed × (Optional × Option (List Client))) TableFault → Result HeadFacts TableFault
head_read (Ok r) = head_from (byte_of r.0.f) (byte_of r.0.k) r.0.secret r.1.0 r.1.1
head_read (Err fault) = Err fault

abbrev pub head_keys : List (List ℕ)
head_keys =
    (codes "f" ∷ codes "k" ∷ codes "secret" ∷ codes "client_height" ∷ codes "client_bottom" ∷ codes "faulty" ∷ codes "client" ∷ codes "step" ∷ [])
    ++ key_lists

-- the head of a document
abbrev pub head_in : Members → Result HeadFacts TableFault
head_in members =
    head_read (only_keys (pair_of (needed_head members) (pair_of (optional_head members) (listed_clients members))) head_keys members)
