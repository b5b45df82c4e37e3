-- Statement: the keys of a script's replicas and clients.
use Rattle.std.specs.Prelude.{◌≡◌, ℕ, ◌+◌, Bool, take, ◌++◌, List, [], ◌∷◌, map, if◌then◌else◌}
use Rattle.host_types.specs.Configuration.{Configuration, replicas_for}
use Rattle.host_types.specs.declared.config.ClientEntry.{ClientEntry}
use Rattle.lms_tree.specs.SigningState.{SigningState}
use Rattle.script_text.specs.Heads.{HeadFacts, client_shape, no_key}
use Rattle.script_text.specs.KeyShapes.{shape_at}
use Rattle.script_text.specs.KeyShape.{KeyShape}
use Rattle.script_text.specs.Client.{Client}
use Rattle.script_text.specs.Secret.{Secret}
use Rattle.sha2.specs.Sha256.{sha256}
use Rattle.std.specs.Int.{w32, to_be_bytes}
use Rattle.std.specs.List.{range_with_len}
use Rattle.world_script.specs.declared.keys.Owner.{Owner}
use Rattle.world_script.specs.declared.keys.Owner.TheVariants as owners
use Rattle.world_script.specs.declared.keys.Part.{Part}
use Rattle.world_script.specs.declared.keys.Part.TheVariants as parts
use Rattle.world_queue.specs.Parties.{key_of}

-- an entry without its key
abbrev pub unkeyed : ClientEntry → ClientEntry
unkeyed e = record e { key = no_key }

-- The configuration lists the keys of these signers.
pub record AreKeys (c : Configuration) (replicas clients : List SigningState) : Type 0 where
  pub replicas_are : c.keys ≡ map key_of replicas
  pub clients_are : map (λ (e : ClientEntry). e.key) c.clients ≡ map key_of clients

-- The signers of correct replicas: of those from id i on, the ones that are not faulty.
abbrev pub correct_from : (ℕ → Bool) → ℕ → List SigningState → List SigningState
correct_from faulty i [] = []
correct_from faulty i (s ∷ ss) = if faulty i then correct_from faulty (i + 1) ss else s ∷ correct_from faulty (i + 1) ss

-- ---- the keys that a secret gives

-- an R or a C
abbrev pub mark_of : Owner → ℕ
mark_of (owners.Replica id) = 0x52
mark_of (owners.Client id) = 0x43

abbrev pub number_of : Owner → ℕ
number_of (owners.Replica id) = id.0
number_of (owners.Client id) = id.0

abbrev pub part_number : Part → ℕ
part_number parts.Identity = 0
part_number parts.Seed = 1

-- what a part of a key is: of the identifier (0) the first 16 bytes count, the SEED (1) is all
abbrev pub key_hash : Owner → ℕ → Secret → List ℕ
key_hash owner part secret = sha256 ((mark_of owner ∷ []) ++ to_be_bytes w32 (number_of owner) ++ (part ∷ []) ++ secret.0)

-- The signer of a key, which has used the leaves that it is to have used at the start.
abbrev pub signer_of : Owner → KeyShape → Secret → SigningState
signer_of owner shape secret = record {
  height = shape.height;
  bottom = shape.bottom;
  id = take 16 (key_hash owner 0 secret);
  secret = key_hash owner 1 secret;
  next_leaf = shape.spent;
}

-- What each of these leaves has signed: one byte, so no message, of which the sender alone takes five.
abbrev pub spent_message : List ℕ
spent_message = 0 ∷ []

-- one for each replica, ids ascending
abbrev pub replica_signer : HeadFacts → ℕ → SigningState
replica_signer h id = signer_of (owners.Replica (record { 0 = id })) (shape_at h.keys id) h.secret

abbrev pub replica_signers : HeadFacts → List SigningState
replica_signers h = map (replica_signer h) (range_with_len 0 (replicas_for h.f))

-- one for each client, in the order of the head
abbrev pub client_signer : HeadFacts → Client → SigningState
client_signer h c = signer_of (owners.Client c.id) (client_shape h) h.secret

abbrev pub entry_of : HeadFacts → Client → ClientEntry
entry_of h c = record { id = c.id; tenant = c.tenant; key = key_of (client_signer h c) }

-- The configuration of a head.
abbrev pub configuration_of : HeadFacts → Configuration
configuration_of h = record {
  f = h.f;
  k = h.k;
  keys = map key_of (replica_signers h);
  clients = map (entry_of h) h.clients;
}

-- What a contract sees of the sources of a head's keys: the signers that they give.
pub record KeyFacts : Type 0 where
  pub replicas : List SigningState
  pub clients : List SigningState

-- The signers of a head, as they are before the first step.
abbrev pub keys_of : HeadFacts → KeyFacts
keys_of h = record { replicas = replica_signers h; clients = map (client_signer h) h.clients }
