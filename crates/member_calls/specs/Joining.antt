-- Statement: what the exports answer that write down a configuration, and that make members of it. Of several things that are
-- wrong with a call the first one is told, in the order in which they are asked here.
use Rattle.std.specs.Prelude.{◌≡◌, ◌≢◌, ℕ, ◌++◌, ◌∷◌, [], List, Option, Some, None, Result, Ok, Err}
use Rattle.host_types.specs.Configuration.{Configuration, fault_of}
use Rattle.host_types.specs.declared.config.ConfigFault.{ConfigFault}
use Rattle.host_types.specs.declared.key.PublicKey.{PublicKey}
use Rattle.lms_tree.specs.Keys.{public_key_of_signer}
use Rattle.lms_tree.specs.SigningState.{SigningState}
use Rattle.pbft_codec.specs.declared.signed.Role.TheVariants as roles
use Rattle.seal.specs.Signers.{key_of}
use Rattle.member_calls.specs.Keys.{key_in}
use Rattle.member_calls.specs.declared.status.Status.{Status}
use Rattle.member_calls.specs.declared.status.Status.TheVariants.{Done, NoDraft, NoConfig, NoKey, NotListed, OtherKey, Config}

abbrev key_status : Option PublicKey → Status
key_status None = NoKey
key_status (Some key) = Done

-- Listing a replica.
abbrev pub replica_status : Option Configuration → List ℕ → Status
replica_status None key = NoDraft
replica_status (Some draft) key = key_status (key_in key)

abbrev pub with_replica : Option Configuration → Option PublicKey → Option Configuration
with_replica (Some draft) (Some key) = Some (record draft { keys = draft.keys ++ key ∷ [] })
with_replica draft key = draft

-- Listing a client.
abbrev pub client_status : Option Configuration → List ℕ → Status
client_status draft key = replica_status draft key

abbrev pub with_client : Option Configuration → ℕ → ℕ → Option PublicKey → Option Configuration
with_client (Some draft) client tenant (Some key) =
    Some (record draft { clients = draft.clients ++ (record { id = record { 0 = client }; tenant = record { 0 = tenant }; key = key }) ∷ [] })
with_client draft client tenant key = draft

-- Making the configuration of a draft.
abbrev config_status : Option ConfigFault → Status
config_status None = Done
config_status (Some fault) = Config fault

abbrev pub finish_status : Option Configuration → Status
finish_status None = NoDraft
finish_status (Some draft) = config_status (fault_of draft)

-- ---- members

-- the key that is listed for a replica, and for a client
abbrev pub replica_key_of : ℕ → Configuration → Option PublicKey
replica_key_of id c = key_of c roles.Replica id

abbrev pub client_key_of : ℕ → Configuration → Option PublicKey
client_key_of id c = key_of c roles.Client id

-- What is answered for a member of this configuration with a signer, whose listed key is this one: that it joins, or why not.
abbrev pub Joins : Option PublicKey → SigningState → Status → Type 0
Joins listed signer Done = listed ≡ Some (public_key_of_signer signer)
Joins listed signer NotListed = listed ≡ None
Joins listed signer OtherKey = (listed ≢ None) × (listed ≢ Some (public_key_of_signer signer))
Joins listed signer _ = ⊥

abbrev pub JoinsWith : (Configuration → Option PublicKey) → Configuration → Result SigningState Status → Status → Type 0
JoinsWith listed c (Ok signer) status = Joins (listed c) signer status
JoinsWith listed c (Err why) status = status ≡ why

-- The same of the configuration inside a handle, and a signer that is to be made.
abbrev pub JoinsIn : (Configuration → Option PublicKey) → Option Configuration → Result SigningState Status → Status → Type 0
JoinsIn listed None signer status = status ≡ NoConfig
JoinsIn listed (Some c) signer status = JoinsWith listed c signer status
